-- All cells are plausible exactly if all are valid, and what decides of one cell.
use Prim.Native.Nat.{ℕ, suc, ◌-◌, ◌<◌, ◌≤◌}
use native.Mathlib.Omega.{arith}
use mathlib.Core.Path.{◌≡◌, refl, sym, ◌∙◌}
use mathlib.Core.List.{List}
use mathlib.Core.Bool.{Bool, true, false, ◌&&◌, ◌||◌, not}
use lib.Dec.{eqb, leb}
use borrow.Author.Tests.{eqb-false, leb-true}
use Rattle.pool.specs.Words.{every}
use Rattle.pool.specs.Layout.{state, link_of}
use Rattle.pool.specs.States.{is_used, is_free}
use Rattle.questions.specs.Validity.{valid_link, valid_cell, cells_valid}
use Rattle.questions.specs.Steps.{plausible_link, plausible_cell}
use Rattle.pool.proofs.Sizes.{both}
use Rattle.pool.proofs.States.{free_not_used}
use Rattle.pool.proofs.Every.{every_each, every_cong}

module _ (R n : ℕ) (w : List ℕ) where
  -- every state is used or free
  abbrev Decided : Type 0
  Decided = (i : ℕ) → 0 < i → i ≤ n → is_used (state R w i) ≡ not (is_free (state R w i))

  -- so it is where all cells pass a test that begins with the state, whatever it asks of the links
  decided : (l r : ℕ → Bool) → every n (λ k. is_free (state R w (suc k)) || (is_used (state R w (suc k)) && l (suc k) && r (suc k))) ≡ true → Decided
  decided l r all i low high =
      let this : suc (i - 1) ≡ i = omega arith in
      go (is_free (state R w i)) refl
      (rw this at (every_each (λ k. is_free (state R w (suc k)) || (is_used (state R w (suc k)) && l (suc k) && r (suc k))) n all (i - 1) (omega arith)))
    where
      go : (t : Bool) → is_free (state R w i) ≡ t → (t || (is_used (state R w i) && l i && r i)) ≡ true → is_used (state R w i) ≡ not t
      go true e h = free_not_used (state R w i) e
      go false e h = (both (is_used (state R w i)) (l i) (both (is_used (state R w i) && l i) (r i) h).0).0

  -- and there a plausible link is a valid one
  same-link : Decided → (x : ℕ) → plausible_link R n w x ≡ valid_link R n w x
  same-link states x = go (eqb x 0) (leb x n) refl refl
    where
      go : (z b : Bool) → eqb x 0 ≡ z → leb x n ≡ b → (z || (b && not (is_free (state R w x)))) ≡ (z || (b && is_used (state R w x)))
      go true b nil bound = refl
      go false false nil bound = refl
      go false true nil bound = let other : x ≡ 0 → ⊥ = eqb-false x 0 nil in sym (states x (omega (arith, other)) (leb-true x n bound))

  same-cells : Decided → every n (λ k. plausible_cell R n w (suc k)) ≡ cells_valid R n w
  same-cells states =
      every_cong n (λ k. plausible_cell R n w (suc k)) (λ k. valid_cell R n w (suc k)) λ k low.
      rw (same-link states (link_of R w (suc k) 1), same-link states (link_of R w (suc k) 2))

  pub plausible_valid : every n (λ k. plausible_cell R n w (suc k)) ≡ cells_valid R n w
  plausible_valid = go (every n λ k. plausible_cell R n w (suc k)) (cells_valid R n w) refl refl
    where
      go : (p v : Bool) → every n (λ k. plausible_cell R n w (suc k)) ≡ p → cells_valid R n w ≡ v → p ≡ v
      go true v e f = sym e ∙ (same-cells (decided (λ i. plausible_link R n w (link_of R w i 1)) (λ i. plausible_link R n w (link_of R w i 2)) e) ∙ f)
      go false true e f = sym e ∙ (same-cells (decided (λ i. valid_link R n w (link_of R w i 1)) (λ i. valid_link R n w (link_of R w i 2)) f) ∙ f)
      go false false e f = refl
