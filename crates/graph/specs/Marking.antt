-- What a marker has to do, whatever its method. A number above 0 marks a cell.
use Rattle.std.specs.Prelude.{ℕ, zero, suc, ◌+◌, ◌<◌, ◌≡◌, cond, ◌||◌, eqb, ltb}
use mathlib.Core.List.{List, Memᴰ}
use Rattle.graph.specs.Graph.{Graph, Reach}

-- The marks before a marker starts on a graph of n cells: nil, and every number past n, counts as marked, and no cell is.
unfoldable pub outside : ℕ → ℕ → ℕ
outside n x = cond (eqb x 0 || ltb n x) 1 0

-- How many of the cells 1 to n are marked.
unfoldable pub marked_count : ℕ → (ℕ → ℕ) → ℕ
marked_count zero m = 0
marked_count (suc n) m = cond (ltb 0 (m (suc n))) 1 0 + marked_count n m

-- A marker has done its work from the roots, where m were the marks before and f are the marks after. A cell is newly marked where m does
-- not mark it and f does.
pub record Closure (g : Graph) (m : ℕ → ℕ) (roots : List ℕ) (f : ℕ → ℕ) : Type 0 where
  -- What was marked is marked still.
  pub keeps : (x : ℕ) → 0 < m x → 0 < f x
  -- Every root is marked.
  pub rooted : (x : ℕ) → Memᴰ x roots → 0 < f x
  -- The links of a cell that is newly marked are marked.
  pub closed : (x : ℕ) → m x ≡ 0 → 0 < f x → (0 < f (g.left x)) × (0 < f (g.right x))
  -- Only what the roots reach is newly marked.
  pub only : (x : ℕ) → m x ≡ 0 → 0 < f x → Reach g roots x
