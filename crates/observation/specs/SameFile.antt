-- "Same plan, same file" (02, S-9): the images of two pools compared with what lists of reads observe of them.
use Rattle.std.specs.Prelude.{ℕ, ◌<◌, ◌≤◌, ◌≡◌, ◌↔◌, List, [], ◌∷◌, true, length, take}
use Rattle.pool.specs.Layout.{register_count, cell_count_of_length, cell_count}
use Rattle.questions.specs.Validity.{well_formed}
use Rattle.answers.specs.Outcome.{answered}
use Rattle.reversal.specs.Reached.{reached_count}
use Rattle.collector.specs.Collect.{collect_of}
use Rattle.image.specs.Image.{image_of}
use Rattle.load.specs.Load.{load_of}
use Rattle.save.specs.Save.{save_of}
use Rattle.save.specs.RoundTrip.{Words}
use Rattle.observation.specs.Reads.{AnswerAlike}

-- The words are a whole pool of n cells: they pass the first question (01, "Questions, in order") and are well-formed (01: whole).
pub record WholePool (n : ℕ) (w : List ℕ) : Type 0 where
  pub some : 0 < n
  pub cells : cell_count register_count w ≡ n
  pub is_well_formed : well_formed register_count n w ≡ true

-- "For two whole pools of any sizes, the two saved images are equal exactly when every list of copy, clear, left, right, value, east, north and same gives
-- equal answers on both, each started from its pool as it was." An image is its bytes.
abbrev pub SameFile : Type 0
SameFile =
    (n m : ℕ) (w v : List ℕ) → WholePool n w → WholePool m v
    → (image_of register_count n w ≡ image_of register_count m v) ↔ AnswerAlike w v

-- The same of what `save` leaves, for whatever words, scratch and output it was given, where it accepted both: `size` and `size'` bytes at the start of the two
-- outputs. (A save that is accepted found a whole pool.)
abbrev pub SavedSameFile : Type 0
SavedSameFile =
    (w v scratch scratch' out out' : List ℕ) (size size' : ℕ) (cleared cleared' bytes bytes' : List ℕ)
    → save_of w scratch out ≡ (answered (size ∷ []), cleared, bytes) → save_of v scratch' out' ≡ (answered (size' ∷ []), cleared', bytes')
    → (take size bytes ≡ take size' bytes') ↔ AnswerAlike w v

-- So a pool and its loaded save answer every list of reads alike, in whatever words with room for the kept cells it is loaded.
abbrev pub LoadedAnswersAlike : Type 0
LoadedAnswersAlike =
    (w scratch out : List ℕ) (size : ℕ) (cleared bytes words : List ℕ) → Words w → save_of w scratch out ≡ (answered (size ∷ []), cleared, bytes)
    → let m = cell_count_of_length register_count (length words) in
    0 < m → reached_count register_count (cell_count register_count w) w ≤ m → AnswerAlike w (load_of words bytes).1

-- And a collection changes no answer of any list of reads, and no byte of the image.
abbrev pub CollectedAnswersAlike : Type 0
CollectedAnswersAlike =
    (n : ℕ) (w : List ℕ) → WholePool n w
    → AnswerAlike w (collect_of w).1 × (image_of register_count n w ≡ image_of register_count n (collect_of w).1)
