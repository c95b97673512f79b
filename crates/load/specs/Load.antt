-- Load (01, "Images" and "Questions, in order"): what it answers and leaves, for every bytes and words, and what is proved of it.
use Rattle.std.specs.Prelude.{ℕ, suc, ◌+◌, ◌≤◌, ◌≡◌, List, [], ◌∷◌, true, cond, length, drop, leb, ltb, Result, Ok, Err}
use Rattle.pool.specs.Layout.{register_count, pool_length, leftover_limit, cell_count_of_length, cell_count, set_register, put_cell}
use Rattle.pool.specs.States.{pair_state, point_state, is_point_kind}
use Rattle.questions.specs.Validity.{well_formed}
use Rattle.pool.specs.Retain.{retain, blank_words}
use Rattle.answers.specs.declared.Refusal.{Refusal}
use Rattle.answers.specs.declared.Refusal.TheVariants as refusal
use Rattle.image.specs.declared.ImageCell.{ImageCell}
use Rattle.pool.specs.declared.Kind.{Kind}
use Rattle.image.specs.Image.{Image, Parsed, parsed, fault, read_image}
use Rattle.image.specs.OldForm.{OldCell, old_image_bytes, OldNumbers}
use Rattle.image_scan.specs.Check.{check_of}
use Rattle.load.specs.declared.Loaded.{Loaded}

-- The state of a cell of that kind: "kind 0 or 1 (1 a point)", "a point: state 5" (02, S-8).
abbrev pub state_of_kind : Kind → ℕ
state_of_kind kind = cond (is_point_kind kind) point_state pair_state

-- The words with an image's cell in cell i, "used".
abbrev pub put_fields : ℕ → List ℕ → ℕ → ImageCell → List ℕ
put_fields R w i c = put_cell R w i (state_of_kind c.kind) c.left c.right c.value

-- The words with each element of a list put in its place: the first in place i, the next in place i + 1.
unfoldable pub put_each : {A : Type 0} → (List ℕ → ℕ → A → List ℕ) → ℕ → List A → List ℕ → List ℕ
put_each put i [] w = w
put_each put i (x ∷ xs) w = put_each put (suc i) xs (put w i x)

-- The registers from 0 on, and "image cell i into cell i".
abbrev pub put_image : ℕ → Image → List ℕ → List ℕ
put_image R i w = put_each (put_fields R) 1 i.cells (put_each set_register 0 i.registers w)

-- "Load puts N into word 0 and image cell i into cell i, used; the rest form the ascending chain." Words behind the cells stay as they were lent.
abbrev pub loaded_words : ℕ → ℕ → Image → List ℕ → List ℕ
loaded_words R n i w = retain R n (λ j. leb j (length i.cells)) (put_image R i (blank_words R n w))

-- Load into a pool of n cells: the image's end, or why it is refused, and the end of the bytes; "A refusal .. changes nothing".
abbrev pub load_image : ℕ → ℕ → Parsed Image → ℕ → List ℕ → Loaded × List ℕ
load_image R n (parsed i end) bytes w = (record { verdict = Ok tt; end = end }, loaded_words R n i w)
load_image R n (fault why) bytes w = (record { verdict = Err why; end = bytes }, w)

-- Load: N is that of the length alone (word 0 is asked "in every call but fresh and load"); then the image, number by number.
abbrev pub load_of : List ℕ → List ℕ → Loaded × List ℕ
load_of w bytes =
    let n = cell_count_of_length register_count (length w) in
    cond (ltb 0 n) (load_image register_count n (read_image register_count n bytes) (length bytes) w)
    (record { verdict = Err refusal.Size; end = length bytes }, w)

-- What `load` gives, where load of these words and bytes is `loaded`: the verdict, the words, and "the part of the bytes
-- behind the image; refused, the empty part at their end". The part is the caller's own memory: it starts at `to`, and the bytes start at `from`, each
-- a block of memory and a place in it.
pub record Handed (loaded : Loaded × List ℕ) (bytes w : List ℕ) (v : Result (Unit {0}) Refusal) (rest : List ℕ) (from to : ℕ × ℕ) : Type 0 where
  pub verdict : v ≡ loaded.0.verdict
  pub words : w ≡ loaded.1
  pub part : rest ≡ drop loaded.0.end bytes
  pub block : to.0 ≡ from.0
  pub place : to.1 ≡ from.1 + loaded.0.end

-- "a judge of bytes and N, which answers 0 or the number that load would give", here the refusal of that number: for every N, bytes, and words of the
-- length of N cells and e words behind them.
abbrev pub CheckIsLoad : Type 0
CheckIsLoad = (n e : ℕ) (bytes w : List ℕ) → e ≤ leftover_limit → length w ≡ pool_length register_count n + e → check_of bytes n ≡ (load_of w bytes).0.verdict

-- Every accepted load leaves a well-formed pool of as many cells as the words hold: whoever has checked an image need not check the pool.
abbrev pub LoadIsWellFormed : Type 0
LoadIsWellFormed =
    (w bytes : List ℕ)
    → let n = cell_count_of_length register_count (length w) in
    (load_of w bytes).0.verdict ≡ Ok tt
    → (cell_count register_count (load_of w bytes).1 ≡ n) × (well_formed register_count n (load_of w bytes).1 ≡ true)

-- "an image saved before, with cells and no byte behind it, is refused" (02, S-8): in whatever words, of any length and content, load refuses an image in the
-- form of before, and changes nothing; and so does the check, whatever N.
abbrev pub OldImageNotLoaded : Type 0
OldImageNotLoaded =
    (w registers : List ℕ) (cells : List OldCell) → length registers ≡ register_count → 1 ≤ length cells → OldNumbers registers cells
    → let bytes = old_image_bytes registers cells in
    ((why : Refusal) × (load_of w bytes ≡ (record { verdict = Err why; end = length bytes }, w))) × ((n : ℕ) → (why : Refusal) × (check_of bytes n ≡ Err why))
