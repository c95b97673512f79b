-- Different pools with the same image, and pools with different images and a list of reads that tells them apart, with the read that it takes.
use Rattle.std.specs.Prelude.{ℕ, ◌-◌, ◌≡◌, true, replicate}
use mathlib.Core.List.{List, [], ◌∷◌, ◌++◌, Memᴰ}
use Rattle.pool.specs.Layout.{register_count}
use Rattle.pool.specs.States.{pair_state, point_state, free_state}
use Rattle.answers.specs.Outcome.{Outcome, answered}
use Rattle.image.specs.Image.{image_of}
use Rattle.calls.specs.declared.Call.{Call}
use Rattle.calls.specs.declared.Call.TheVariants as call
use Rattle.batch.specs.Run.{answers_of}
use Rattle.observation.specs.Reads.{are_reads}
use Rattle.observation.specs.SameFile.{WholePool}

-- The four words of a pair, of a point and of a free cell.
abbrev pub pair : ℕ → ℕ → ℕ → List ℕ
pair left right value = pair_state ∷ left ∷ right ∷ value ∷ []

abbrev pub point : ℕ → ℕ → ℕ → List ℕ
point x y value = point_state ∷ x ∷ y ∷ value ∷ []

abbrev pub free : ℕ → List ℕ
free next = free_state ∷ next ∷ 0 ∷ 0 ∷ []

-- A pool of n cells with that head, whose register 0 holds x, and the others nil.
abbrev pub pool_of : ℕ → ℕ → ℕ → List ℕ → List ℕ
pool_of n head x cells = (n ∷ head ∷ x ∷ []) ++ replicate (register_count - 1) 0 ++ cells

-- The plan: a pair of value 300, whose left link leads to a point at x = 7, y = 9 of value 5, and whose right link leads to the pair itself. Once it stands in
-- the cells 3 and 1 of three, and cell 2 is a used cell that nothing leads to; once in the cells 1 and 4 of four, the others free, with a word left over.
abbrev pub three : List ℕ
three = pool_of 3 0 3 (point 7 9 5 ++ pair 1 2 8 ++ pair 1 3 300)

abbrev pub four : List ℕ
four = pool_of 4 2 1 (pair 4 1 300 ++ free 3 ++ free 0 ++ point 7 9 5 ++ (77 ∷ []))

-- The image of both: two cells, register 0 holds 1; the pair, with links 2 and 1 and the value 300, of two bytes; the point.
abbrev pub plan_bytes : List ℕ
plan_bytes = (2 ∷ 1 ∷ []) ++ replicate (register_count - 1) 0 ++ (0 ∷ 2 ∷ 1 ∷ 0xAC ∷ 0x02 ∷ []) ++ (1 ∷ 7 ∷ 9 ∷ 5 ∷ [])

-- Different pools, of another size, with other cell numbers and other garbage, and the same image: so they answer every list of reads alike.
pub record SameExample : Type 0 where
  pub whole : WholePool 3 three
  pub whole' : WholePool 4 four
  pub differ : three ≡ four → ⊥
  pub image : image_of register_count 3 three ≡ plan_bytes
  pub image' : image_of register_count 4 four ≡ plan_bytes

-- Two pools with different images, and a list of reads, with its answers from each.
pub record ToldApart (n : ℕ) (w : List ℕ) (m : ℕ) (v : List ℕ) (reads : List Call) (answers answers' : List Outcome) : Type 0 where
  pub whole : WholePool n w
  pub whole' : WholePool m v
  pub images : image_of register_count n w ≡ image_of register_count m v → ⊥
  pub reads_only : are_reads reads ≡ true
  pub said : answers_of reads w ≡ answers
  pub said' : answers_of reads v ≡ answers'
  pub told : answers ≡ answers' → ⊥

-- A pair with two equal leaves, which are one cell that is shared, or two.
abbrev pub shared : List ℕ
shared = pool_of 2 0 1 (pair 2 2 0 ++ pair 0 0 5)

abbrev pub separate : List ℕ
separate = pool_of 3 0 1 (pair 2 3 0 ++ pair 0 0 5 ++ pair 0 0 5)

-- `same` tells them apart.
abbrev pub SharedExample : Type 0
SharedExample =
    ToldApart 2 shared 3 separate (call.Right 1 0 ∷ call.Left 0 0 ∷ call.Same 0 1 ∷ [])
    (answered [] ∷ answered [] ∷ answered (1 ∷ []) ∷ [])
    (answered [] ∷ answered [] ∷ answered (0 ∷ []) ∷ [])

-- No list without `same` does: of seven reads the statement would be false.
abbrev pub SameNeeded : Type 0
SameNeeded = (calls : List Call) → are_reads calls ≡ true → ((a b : ℕ) → Memᴰ (call.Same a b) calls → ⊥) → answers_of calls shared ≡ answers_of calls separate

-- A point with this y.
abbrev pub point_at : ℕ → List ℕ
point_at y = pool_of 1 0 1 (point 7 y 5)

-- Of two that differ in y, `north` tells.
abbrev pub NorthExample : Type 0
NorthExample = ToldApart 1 (point_at 9) 1 (point_at 8) (call.North 0 ∷ []) (answered (9 ∷ []) ∷ []) (answered (8 ∷ []) ∷ [])

-- And no list without it does.
abbrev pub NorthNeeded : Type 0
NorthNeeded = (calls : List Call) → are_reads calls ≡ true → ((a : ℕ) → Memᴰ (call.North a) calls → ⊥) → answers_of calls (point_at 9) ≡ answers_of calls (point_at 8)
