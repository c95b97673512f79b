-- `visit::choose` meets its contract: at each return the tests that led there decide the definition's.
use native.Mathlib.Omega.{arith}
use mathlib.Core.Path.{◌≡◌, refl, sym, ap, ◌∙◌}
use Prim.Native.Nat.{ℕ}
use mathlib.Core.Bool.{Bool, false}
use mathlib.Core.List.{List}
use lib.Dec.{eqb}
use borrow.Author.Tests.{eq-eqb, ne_eqb}
use Rattle.pool.specs.States.{point_state, is_point, is_marked}
use Rattle.pool.proofs.States.{neither_point, marked-pair_is, marked-point_is, other_unmarked}
use Rattle.pool.specs.Layout.{register_count, state, left}
use Rattle.visit.specs.Visit.{unmarked}
use Rattle.visit.specs.Cases.{case_of}
use Rattle.visit.proofs.Cases.{chosen, case_told}
use Rattle.visit.proofs.choose.Goals as goal

-- a mark that is neither 3 nor 6 is that of a pair, and not 3
pair-mark : {mark state : ℕ} → mark ≡ state → (state ≡ point_state → ⊥) → (mark ≡ 3 → ⊥) → (mark ≡ 6 → ⊥)
    → (is_point mark ≡ false) × (is_marked mark ≡ false)
pair-mark read other pair point = (neither_point _ (λ e. other (sym read ∙ e)) point, other_unmarked _ pair point)

-- the case of such a mark: the first visit or the second, and the next link decides
module _ (w : List ℕ) (p : ℕ) {mark : ℕ} (read : mark ≡ state register_count w p) (pair : state register_count w p ≡ point_state → ⊥) (early : mark ≡ 3 → ⊥) (unmarked-point : mark ≡ 6 → ⊥) where
  pair_told : {next : ℕ} {first onward : Bool} → next ≡ left register_count w p → eqb mark 1 ≡ first → unmarked register_count w next ≡ onward
      → chosen false false first onward ≡ case_of register_count w p
  pair_told link first onward = let is = pair-mark read pair early unmarked-point in case_told _ _ _ read link is.0 is.1 first onward

  not_marked : is_marked (state register_count w p) ≡ false
  not_marked = ap is_marked (sym read) ∙ (pair-mark read pair early unmarked-point).1

pub returns-in-3 : goal.returns-in-3
returns-in-3 c = let is = marked-pair_is _ c.in-3.is in case_told _ _ _ c.read_cell-mark.ensures c.read_cell-next.ensures is.1 is.0 refl refl

pub returns-in-6 : goal.returns-in-6
returns-in-6 c = case_told _ _ _ c.read_cell-mark.ensures c.read_cell-next.ensures (marked-point_is _ c.in-6.is).1 refl refl refl

pub is_unmarked-requires : goal.is_unmarked-requires
is_unmarked-requires c =
    omega (arith, c.read_cell-next.ensures, c.requires.next_link (not_marked _ _ c.read_cell-mark.ensures c.requires.pair.2 (λ e. omega arith) (λ e. omega arith)))

pub returns-in-1 : goal.returns-in-1
returns-in-1 c =
    pair_told _ _ c.read_cell-mark.ensures c.requires.pair.2 (λ e. omega arith) (λ e. omega arith)
    c.read_cell-next.ensures (eq-eqb _ _ c.in-1.is) (sym c.if-is_unmarked.ensures)

pub returns-in-1-2 : goal.returns-in-1-2
returns-in-1-2 c =
    pair_told _ _ c.read_cell-mark.ensures c.requires.pair.2 (λ e. omega arith) (λ e. omega arith)
    c.read_cell-next.ensures (eq-eqb _ _ c.in-1.is) (sym c.if-is_unmarked.ensures)

pub is_unmarked-requires-in_default-1 : goal.is_unmarked-requires-in_default-1
is_unmarked-requires-in_default-1 c =
    omega (arith, c.read_cell-next.ensures, c.requires.next_link (not_marked _ _ c.read_cell-mark.ensures c.requires.pair.2 (λ e. omega arith) (λ e. omega arith)))

pub returns-in_default : goal.returns-in_default
returns-in_default c =
    pair_told _ _ c.read_cell-mark.ensures c.requires.pair.2 (λ e. omega arith) (λ e. omega arith)
    c.read_cell-next.ensures (ne_eqb _ _ (λ e. omega arith)) (sym c.if-is_unmarked-2.ensures)

pub returns-in_default-2 : goal.returns-in_default-2
returns-in_default-2 c =
    pair_told _ _ c.read_cell-mark.ensures c.requires.pair.2 (λ e. omega arith) (λ e. omega arith)
    c.read_cell-next.ensures (ne_eqb _ _ (λ e. omega arith)) (sym c.if-is_unmarked-2.ensures)
