-- The visits with the pending links in a list: the shape of a loop with a stack.
use Prim.Native.Nat.{ℕ, ◌<◌}
use mathlib.Core.Path.{◌≡◌}
use mathlib.Core.List.{List, [], ◌∷◌, ◌++◌, append_assoc}
use Rattle.graph.specs.Graph.{Graph, Within}
use Rattle.graph.specs.Preorder.{preorder}
use Rattle.graph.specs.Marking.{outside}
use Rattle.graph.specs.Dfs.{Dfs, DfsAll, mark, marks}
use Rattle.graph.proofs.Marks.{marks-append}
use Rattle.graph.proofs.Depth.{order-dfs}

-- `Walk g m ps t`: where m is marked, the links ps are pending, the next one first, and the cells t are still to be marked, in this order.
pub data Walk (g : Graph) : (ℕ → ℕ) → List ℕ → List ℕ → Type 0 where
  none : {m : ℕ → ℕ} → Walk g m [] []
  skip : {m : ℕ → ℕ} {p : ℕ} {ps t : List ℕ} → 0 < m p → Walk g m ps t → Walk g m (p ∷ ps) t
  take : {m : ℕ → ℕ} {p : ℕ} {ps t : List ℕ} → m p ≡ 0 → Walk g (mark m p) (g.left p ∷ g.right p ∷ ps) t → Walk g m (p ∷ ps) (p ∷ t)

module _ {g : Graph} where
  -- The visit of a link, and the walk on from there.
  walk-link : {m : ℕ → ℕ} {p : ℕ} {t ps v : List ℕ} → Dfs g m p t → Walk g (marks m t) ps v → Walk g m (p ∷ ps) (t ++ v)
  unfolding marks
  walk-link (Dfs.stop h) w = Walk.skip h w
  walk-link {ps = ps} {v = v} (Dfs.step {m = m} {p = p} {t = t} {u = u} e a b) w =
      rw (append_assoc t u v) (Walk.take e (walk-link a (walk-link b (rw (marks-append (mark m p) t u) at w))))

  -- The walk marks the cells that the visits mark.
  pub walk-all : {m : ℕ → ℕ} {ps t : List ℕ} → DfsAll g m ps t → Walk g m ps t
  walk-all DfsAll.none = Walk.none
  walk-all (DfsAll.next a b) = walk-link a (walk-all b)

-- The walk from the roots marks the cells of the order.
pub order-walk : (n : ℕ) (g : Graph) (roots : List ℕ) → Within n g roots → Walk g (outside n) roots (preorder n g roots)
order-walk n g roots w = walk-all (order-dfs n g roots w)
