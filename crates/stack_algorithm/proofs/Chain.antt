-- Equal links are one: where every reached cell has two equal links, a cell in hand leaves one pending at most, and nothing is ever pushed.
use Prim.Native.Nat.{ℕ, zero, suc, ◌<◌, ◌≤◌}
use native.Mathlib.Omega.{arith}
use mathlib.Core.Path.{◌≡◌, refl}
use mathlib.Core.List.Memᴰ
use mathlib.Core.List.{List, [], ◌∷◌, ◌++◌}
use mathlib.Core.Bool.{Bool, true, false, cond}
use lib.ListN.{length, length-append}
use borrow.Author.Tests.{eq-eqb}
use Rattle.graph.specs.Graph.{Graph, Reach}
use Rattle.graph.proofs.Lists.{Each, each_nil, each_cons, each_append}
use Rattle.stack_algorithm.specs.Stack.{is_unmarked, unmarked_links, onward, run, taken, runs}
use Rattle.stack_algorithm.specs.StackTheorem.{EqualLinksNeedNone, chain, ChainNeeds}
use Rattle.stack_algorithm.proofs.Fresh.{fresh-true}
use Rattle.stack_algorithm.proofs.Going.{links-reached}

one_link : (a b : Bool) (l r : ℕ) → l ≡ r → length (unmarked_links a b l r) ≤ 1
one_link true true l r e = rw (eq-eqb l r e) (omega arith)
one_link true false l r e = omega arith
one_link false true l r e = omega arith
one_link false false l r e = omega arith

module _ (g : Graph) (roots : List ℕ) (equal : (x : ℕ) → Reach g roots x → g.left x ≡ g.right x) where
  run_holds_none : (turns : ℕ) (seen pending : List ℕ) → Each (Reach g roots) pending → length pending ≤ 1 → (run turns g seen pending).1 ≡ 0
  unfolding run
  run_holds_none zero seen pending reached one = refl
  run_holds_none (suc turns) seen [] reached one = refl
  run_holds_none (suc turns) seen (p ∷ stack) reached one =
      let here = reached p (Memᴰ.head refl) in
      let link = one_link (is_unmarked seen (g.left p)) (is_unmarked seen (g.right p)) (g.left p) (g.right p) (equal p here) in
      omega (
        arith,
        run_holds_none turns (seen ++ onward g seen p) (onward g seen p ++ stack)
            (each_append (Reach g roots) (onward g seen p) (links-reached seen here) λ x mem. reached x (Memᴰ.tail mem))
            (rw (length-append (onward g seen p) stack) (omega arith)),
      )

  runs-hold_none : (turns : ℕ) (ps seen : List ℕ) → Each (λ x. 0 < x → Reach g roots x) ps → (runs turns g seen ps).1 ≡ 0
  unfolding runs
  runs-hold_none turns [] seen reach = refl
  runs-hold_none turns (p ∷ ps) seen reach =
      let (reached, one) = first (is_unmarked seen p) refl in
      omega (
        arith,
        run_holds_none turns (seen ++ taken seen p) (taken seen p) reached one,
        runs-hold_none turns ps (run turns g (seen ++ taken seen p) (taken seen p)).0 (λ x mem. reach x (Memᴰ.tail mem)),
      )
    where
      first : (t : Bool) → is_unmarked seen p ≡ t → Each (Reach g roots) (cond t (p ∷ []) []) × (length (cond t (p ∷ []) []) ≤ 1)
      first true e = (each_cons (Reach g roots) (reach p (Memᴰ.head refl) (fresh-true seen p e).0) (each_nil (Reach g roots)), omega arith)
      first false e = (each_nil (Reach g roots), omega arith)

pub equal-links_need_none : EqualLinksNeedNone
equal-links_need_none n g roots equal = runs-hold_none g roots equal n roots [] λ x mem. Reach.root mem

pub chain_needs : ChainNeeds
chain_needs n = equal-links_need_none n (chain n) (1 ∷ []) λ x reach. refl
