-- What is proved of save and load together: a loaded save is the saved graph, its cells numbered in the order of the visits.
use Rattle.std.specs.Prelude.{ℕ, suc, ◌*◌, ◌<◌, ◌≤◌, ◌^◌, ◌≡◌, List, [], ◌∷◌, true, length, get_or, take, drop, replicate, leb, Result, Ok}
use Rattle.pool.specs.Words.{tabulate}
use Rattle.pool.specs.Layout.{register_count, cell_count_of_length, cell_count, register, state, left, right, value, is_point_at}
use Rattle.questions.specs.Validity.{well_formed}
use Rattle.pool.specs.Retain.{free_list, free_cells}
use Rattle.answers.specs.Outcome.{answered}
use Rattle.answers.specs.declared.Refusal.{Refusal}
use Rattle.reversal.specs.Reached.{reached_cells, reached_count}
use Rattle.leb128.specs.Leb128.{Bytes}
use Rattle.image.specs.Image.{number_in, saved_word, Image, parsed, read_image}
use Rattle.load.specs.Load.{load_of}
use Rattle.save.specs.Save.{save_image, save_of}

-- Every element of the list is a 32-bit word.
abbrev pub Words : List ℕ → Type 0
Words w = (i : ℕ) → get_or w i 0 < 2 ^ 32

-- From the words w of a pool of n cells to those, v, of a pool of m cells. "So a loaded save has as cell i the i-th cell visited, links and
-- registers renumbered alike": a pair's links are renumbered; a point is a point again, with its x, y and value (02, S-8).
pub record Renumbered (n : ℕ) (w : List ℕ) (m : ℕ) (v : List ℕ) : Type 0 where
  pub registers : (k : ℕ) → k < register_count → register v k ≡ number_in (reached_cells register_count n w) (register w k)
  pub states : (i : ℕ) → i < reached_count register_count n w → state register_count v (suc i) ≡ state register_count w (get_or (reached_cells register_count n w) i 0)
  pub lefts : (i : ℕ) → i < reached_count register_count n w
      → let x = get_or (reached_cells register_count n w) i 0 in
      left register_count v (suc i) ≡ saved_word (is_point_at register_count w x) (reached_cells register_count n w) (left register_count w x)
  pub rights : (i : ℕ) → i < reached_count register_count n w
      → let x = get_or (reached_cells register_count n w) i 0 in
      right register_count v (suc i) ≡ saved_word (is_point_at register_count w x) (reached_cells register_count n w) (right register_count w x)
  pub values : (i : ℕ) → i < reached_count register_count n w
      → value register_count v (suc i) ≡ value register_count w (get_or (reached_cells register_count n w) i 0)
  -- The cells are now visited as 1, 2, ..: the i-th cell visited is cell i.
  pub order : reached_cells register_count m v ≡ tabulate (reached_count register_count n w) suc

-- A save of the pool w of n cells to the bytes `out` answered `size` and left `bytes` there. Load of these gives the verdict, hands back `rest`, and
-- leaves the words v, of m cells.
pub record Restored (n : ℕ) (w out : List ℕ) (size : ℕ) (bytes : List ℕ) (m : ℕ) (verdict : Result (Unit {0}) Refusal) (rest v : List ℕ) : Type 0 where
  pub accepted : verdict ≡ Ok tt
  -- The part behind the image is what stood behind it before: "output past the image stays".
  pub part : rest ≡ drop size out
  pub cells : cell_count register_count v ≡ m
  pub is_well_formed : well_formed register_count m v ≡ true
  pub renumbered : Renumbered n w m v
  pub kept : reached_count register_count m v ≡ reached_count register_count n w
  -- The free list has every other cell, ascending.
  pub free : free_list register_count m v ≡ free_cells (λ i. leb i (reached_count register_count n w)) m 1
  -- Save of the loaded words answers the same, and writes the same bytes.
  pub again : (s : List ℕ) → 2 * m ≤ length s → save_of v s out ≡ (answered (size ∷ []), replicate (length s) 0, bytes)

-- Save, then load: whatever pool is saved, and to whatever bytes, load takes what save left there, into words of any pool that has room for the
-- kept cells, and restores the graph.
abbrev pub SaveThenLoad : Type 0
SaveThenLoad =
    (w scratch out : List ℕ) (size : ℕ) (cleared bytes words : List ℕ) → Words w
    → save_of w scratch out ≡ (answered (size ∷ []), cleared, bytes)
    → let n = cell_count register_count w in
    let m = cell_count_of_length register_count (length words) in
    let loaded = load_of words bytes in
    0 < m → reached_count register_count n w ≤ m
    → Restored n w out size bytes m loaded.0.verdict (drop loaded.0.end bytes) loaded.1

-- Load, then save: what was loaded from an image whose cells are numbered in the order of the visits is saved as the very bytes that were read.
abbrev pub LoadThenSave : Type 0
LoadThenSave =
    (words bytes : List ℕ) (i : Image) (end : ℕ) → Bytes bytes
    → let m = cell_count_of_length register_count (length words) in
    let loaded = load_of words bytes in
    0 < m → read_image register_count m bytes ≡ parsed i end → reached_cells register_count m loaded.1 ≡ tabulate (length i.cells) suc
    → (s out : List ℕ) → 2 * m ≤ length s → save_of loaded.1 s out ≡ save_image (take loaded.0.end bytes) s out
