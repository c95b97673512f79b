-- The cells that the registers reach, and the visits that marking makes of them.
use Rattle.std.specs.Prelude.{ℕ, ◌+◌, ◌*◌, List, [], ◌∷◌, Bool, cond, length}
use Rattle.graph.specs.Preorder.{elem, preorder}
use Rattle.pool.specs.Layout.{is_point_at, graph_of, roots_of}

-- The cells that the registers reach, in depth-first preorder.
abbrev pub reached_cells : ℕ → ℕ → List ℕ → List ℕ
reached_cells R n w = preorder n (graph_of R w) (roots_of R w)

-- Is the cell reached?
abbrev pub is_reached : ℕ → ℕ → List ℕ → ℕ → Bool
is_reached R n w i = elem i (reached_cells R n w)

-- How many cells are kept: those that are reached.
abbrev pub reached_count : ℕ → ℕ → List ℕ → ℕ
reached_count R n w = length (reached_cells R n w)

-- How many of several cells are pairs, and how many points, where `point` tells which are points.
unfoldable pub pair_count : (ℕ → Bool) → List ℕ → ℕ
pair_count point [] = 0
pair_count point (x ∷ xs) = cond (point x) 0 1 + pair_count point xs

unfoldable pub point_count : (ℕ → Bool) → List ℕ → ℕ
point_count point [] = 0
point_count point (x ∷ xs) = cond (point x) 1 0 + point_count point xs

-- The visits that marking makes of several cells: "A point is marked by one visit, so visits are 3 × pairs + points" (02, S-8).
abbrev pub visits_of : (ℕ → Bool) → List ℕ → ℕ
visits_of point xs = 3 * pair_count point xs + point_count point xs

-- The visits of all that the registers reach.
abbrev pub reached_visits : ℕ → ℕ → List ℕ → ℕ
reached_visits R n w = visits_of (is_point_at R w) (reached_cells R n w)
