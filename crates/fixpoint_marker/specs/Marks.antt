-- What a marker does that makes passes over all cells to a fixed point. Its marks are a list of words: the word at place i marks cell i where it is
-- above 0.
use Rattle.std.specs.Prelude.{ℕ, ◌+◌, ◌<◌, ◌≤◌, ◌≡◌, ◌⊎◌, ◌↔◌, List, get_or}
use Rattle.graph.specs.Marking.{marked_count}
use Rattle.pool.specs.Layout.{register_count, register, link_of}
use Rattle.collector.specs.CollectTheorem.{Reached}

-- The marks are exact: a cell is marked exactly where it is reached.
abbrev pub Exact : ℕ → List ℕ → List ℕ → Type 0
Exact n w m = (x : ℕ) → 0 < x → x ≤ n → (0 < get_or m x 0) ↔ Reached w x

-- The link leads to a marked cell, or to none: nil and every number past n are no cells.
abbrev pub Marked : ℕ → List ℕ → ℕ → Type 0
Marked n m x = 0 < x → x ≤ n → 0 < get_or m x 0

-- Only what is reached is marked.
abbrev pub OnlyReached : List ℕ → List ℕ → Type 0
OnlyReached w m = (x : ℕ) → 0 < get_or m x 0 → Reached w x

-- Every register leads to a marked cell, or to none.
abbrev pub Rooted : ℕ → List ℕ → List ℕ → Type 0
Rooted n w m = (k : ℕ) → k < register_count → Marked n m (register w k)

-- So do both links of a cell, if it is marked.
abbrev pub Closed : ℕ → List ℕ → List ℕ → ℕ → Type 0
Closed n w m i = 0 < get_or m i 0 → Marked n m (link_of register_count w i 1) × Marked n m (link_of register_count w i 2)

-- The link x is marked in m, which gives m'; k cells are newly marked, one at most.
pub record LinkMarked (n x : ℕ) (m m' : List ℕ) (k : ℕ) : Type 0 where
  pub keeps : (y : ℕ) → 0 < get_or m y 0 → 0 < get_or m' y 0
  pub only : (y : ℕ) → 0 < get_or m' y 0 → (0 < get_or m y 0) ⊎ ((y ≡ x) × (0 < y))
  pub count : marked_count n (λ y. get_or m y 0) + k ≤ marked_count n (λ y. get_or m' y 0)
  pub still : k ≡ 0 → m' ≡ m
  pub done : Marked n m' x
  pub small : k ≤ 1

-- Cells that are reached are marked in m, which gives m'; k cells are newly marked.
pub record Grown (n : ℕ) (w m m' : List ℕ) (k : ℕ) : Type 0 where
  pub keeps : (y : ℕ) → 0 < get_or m y 0 → 0 < get_or m' y 0
  pub only : OnlyReached w m → OnlyReached w m'
  pub count : marked_count n (λ y. get_or m y 0) + k ≤ marked_count n (λ y. get_or m' y 0)
  pub still : k ≡ 0 → m' ≡ m
