-- What is reached is a cell, and is the same in a graph with the same links there.
use Prim.Native.Nat.{ℕ, ◌<◌, ◌≤◌}
use mathlib.Core.Path.{sym, subst}
use mathlib.Core.List.{List}
use Rattle.graph.specs.Graph.{Graph, Reach, Within}
use Rattle.graph.specs.Compare.{Agree}
use Rattle.graph.specs.Theorems.{ReachAgree}
use Rattle.graph.proofs.Lists.{Each}

-- What holds of the roots, and with a cell of its links, holds of every cell that is reached.
pub reach_least : {g : Graph} {roots : List ℕ} (P : ℕ → Type 0) → Each (λ x. 0 < x → P x) roots
    → ((x : ℕ) → P x → (0 < g.left x → P (g.left x)) × (0 < g.right x → P (g.right x))) → {x : ℕ} → Reach g roots x → P x
reach_least P r l (Reach.root {x = x} m h) = r x m h
reach_least P r l (Reach.left {x = x} a h) = (l x (reach_least P r l a)).0 h
reach_least P r l (Reach.right {x = x} a h) = (l x (reach_least P r l a)).1 h

pub reach_above : {g : Graph} {roots : List ℕ} {x : ℕ} → Reach g roots x → 0 < x
reach_above = reach_least (λ x. 0 < x) (λ x m h. h) (λ x a. (λ h. h, λ h. h))

pub reach_within : {n : ℕ} {g : Graph} {roots : List ℕ} → Within n g roots → {x : ℕ} → Reach g roots x → x ≤ n
reach_within w (Reach.root {x = x} h k) = w.root x h
reach_within w (Reach.left {x = x} r k) = w.left x r
reach_within w (Reach.right {x = x} r k) = w.right x r

-- Every cell that the roots reach has the same links in both graphs.
abbrev Agreeing : Graph → Graph → List ℕ → Type 0
Agreeing g h roots = (x : ℕ) → Reach g roots x → Agree g h x

-- Then what is reached in the second graph is reached in the first.
agreeing_reach : {g h : Graph} {roots : List ℕ} → Agreeing g h roots → {x : ℕ} → Reach h roots x → Reach g roots x
agreeing_reach {g} {h} {roots} agree =
    reach_least (Reach g roots) (λ x. Reach.root)
    (λ x r. (
      subst (λ (y : ℕ). 0 < y → Reach g roots y) (agree x r).left (Reach.left r),
      subst (λ (y : ℕ). 0 < y → Reach g roots y) (agree x r).right (Reach.right r),
    ))

agreeing_flip : {g h : Graph} {roots : List ℕ} → Agreeing g h roots → Agreeing h g roots
agreeing_flip agree x r =
    let a = agree x (agreeing_reach agree r) in
    record { left = sym a.left; right = sym a.right }

pub reach_agree : ReachAgree
reach_agree g h roots agree x = (agreeing_reach (agreeing_flip agree), agreeing_reach agree)

-- The second graph is within as many cells as the first.
pub within-agree : {n : ℕ} {g h : Graph} {roots : List ℕ} → Agreeing g h roots → Within n g roots → Within n h roots
within-agree {n} agree w =
    record {
      root = w.root;
      left = λ x r. let q = agreeing_reach agree r in subst (λ (y : ℕ). y ≤ n) (agree x q).left (w.left x q);
      right = λ x r. let q = agreeing_reach agree r in subst (λ (y : ℕ). y ≤ n) (agree x q).right (w.right x q);
    }
