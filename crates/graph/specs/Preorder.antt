-- The depth-first preorder: the cells reached, "by first depth-first visit, left before right, registers in order" (01, "Images"). The registers are
-- the roots.
use Rattle.std.specs.Prelude.{ℕ, zero, suc, List, [], ◌∷◌, ◌++◌, Bool, true, false, ◌||◌, eqb}
use Rattle.graph.specs.Graph.{Graph}

-- Is the number in the list?
unfoldable pub elem : ℕ → List ℕ → Bool
elem x [] = false
elem x (y ∷ ys) = eqb x y || elem x ys

-- The visit of a link, where `seen` are the cells visited so far, in order: nothing more for nil or a cell seen before; otherwise the
-- cell itself, then the visit of its left link, then that of its right link. The number of links followed in a row is bounded by the
-- first argument, which only has to be large enough: as many as the graph has cells.
unfoldable pub visit : ℕ → Graph → List ℕ → ℕ → List ℕ
visit zero g seen p = seen
visit (suc depth) g seen p =
    elim (eqb p 0 || elem p seen) [
      | true ↦ seen
      | false ↦ visit depth g (visit depth g (seen ++ (p ∷ [])) (g.left p)) (g.right p)
    ]

-- The visits of several links, one after the other.
unfoldable pub visits : ℕ → Graph → List ℕ → List ℕ → List ℕ
visits depth g seen [] = seen
visits depth g seen (p ∷ ps) = visits depth g (visit depth g seen p) ps

-- The depth-first preorder of a graph of n cells from its roots.
unfoldable pub preorder : ℕ → Graph → List ℕ → List ℕ
preorder n g roots = visits n g [] roots
