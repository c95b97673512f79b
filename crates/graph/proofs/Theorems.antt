-- The proofs of the theorems that the specs state.
use Prim.Native.Nat.{ℕ, ◌<◌}
use native.Mathlib.Omega.{arith}
use mathlib.Core.Path.{◌≡◌, refl, ◌∙◌}
use mathlib.Core.Logic.{⊎_elim}
use mathlib.Core.List.{List}
use lib.ListN.{length}
use Rattle.graph.specs.Graph.{Graph, Reach, Within}
use Rattle.graph.specs.Preorder.{elem, visit, visits, preorder}
use Rattle.graph.specs.Example.{PreorderExample}
use Rattle.graph.specs.Marking.{Closure, outside, marked_count}
use Rattle.graph.specs.Theorems.{PreorderReached, PreorderDistinct, PreorderLength, PreorderDepth, MarkedReached, MarkedCount, PreorderAgree}
use Rattle.graph.specs.Dfs.{marks}
use Rattle.graph.proofs.Reached.{reach_above, reach_within, within-agree}
use Rattle.graph.proofs.Marks.{outside-cell, outside-nil, cells-outside, marks_cases}
use Rattle.graph.proofs.Visits.{closure, all-reached, all-distinct}
use Rattle.graph.proofs.Count.{all_counts, marked-outside, marked-le, marked-same}
use Rattle.graph.proofs.Transfer.{all_transfer, all_functional}
use Rattle.graph.proofs.Depth.{order-dfs, order-deep}

module _ {n : ℕ} {g : Graph} {roots : List ℕ} (w : Within n g roots) where
  -- A cell that is reached is unmarked before a marker starts.
  unmarked : {x : ℕ} → Reach g roots x → outside n x ≡ 0
  unmarked {x} r = outside-cell n x (reach_above r) (reach_within w r)

  -- Where a marker has done its work, what is reached is marked.
  pub reach_marked : {f : ℕ → ℕ} → Closure g (outside n) roots f → {x : ℕ} → Reach g roots x → 0 < f x
  reach_marked c (Reach.root {x = x} h k) = c.rooted x h
  reach_marked c (Reach.left {x = x} r k) = (c.closed x (unmarked r) (reach_marked c r)).0
  reach_marked c (Reach.right {x = x} r k) = (c.closed x (unmarked r) (reach_marked c r)).1

pub marked-reached : MarkedReached
marked-reached n g roots w f c x h k = (c.only x (outside-cell n x h k), reach_marked w c)

-- The visits of the order are a marker that has done its work.
pub order-closure : (n : ℕ) (g : Graph) (roots : List ℕ) → Within n g roots
    → Closure g (outside n) roots (marks (outside n) (preorder n g roots))
order-closure n g roots w = closure (order-dfs n g roots w) (outside-nil n)

pub preorder-reached : PreorderReached
preorder-reached n g roots w x = (
  all-reached (order-dfs n g roots w) (outside-nil n) (λ y h. Reach.root h) x,
  λ r. ⊎_elim (λ h. h) (λ h. absurd (omega (arith, unmarked w r)))
      (marks_cases (outside n) (preorder n g roots) x (reach_marked w (order-closure n g roots w) r)),
)

pub preorder-distinct : PreorderDistinct
preorder-distinct n g roots w = all-distinct (order-dfs n g roots w)

-- The visits of the order mark as many cells as it has.
order-count : (n : ℕ) (g : Graph) (roots : List ℕ) → Within n g roots
    → marked_count n (marks (outside n) (preorder n g roots)) ≡ length (preorder n g roots)
order-count n g roots w = omega (arith, all_counts (order-dfs n g roots w) (cells-outside n), marked-outside n)

pub preorder-length : PreorderLength
preorder-length n g roots w = omega (arith, order-count n g roots w, marked-le n (marks (outside n) (preorder n g roots)))

pub preorder_depth : PreorderDepth
preorder_depth = order-deep

pub marked-count : MarkedCount
marked-count n g roots w f c =
    marked-same n f (marks (outside n) (preorder n g roots))
    (λ x h k. (
      λ a. reach_marked w (order-closure n g roots w) (c.only x (outside-cell n x h k) a),
      λ a. reach_marked w c ((order-closure n g roots w).only x (outside-cell n x h k) a),
    ))
    ∙ order-count n g roots w

pub preorder-agree : PreorderAgree
preorder-agree n g h roots w agree =
    all_functional
    (all_transfer (order-dfs n g roots w) (λ x m. agree x ((preorder-reached n g roots w x).0 m)) (λ x. (λ a. a, λ a. a)))
    (order-dfs n h roots (within-agree agree w))

pub preorder_example : PreorderExample
unfolding preorder visits visit elem
preorder_example = refl
