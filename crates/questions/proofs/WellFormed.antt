-- A well-formed pool as facts about its registers and cells, read off the test and put back into it.
use Prim.Native.Nat.{ℕ, suc, ◌-◌, ◌<◌, ◌≤◌}
use native.Mathlib.Omega.{arith}
use mathlib.Core.Path.{◌≡◌, refl}
use mathlib.Core.List.{List}
use mathlib.Core.Bool.{Bool, true, false, ◌&&◌, ◌||◌}
use lib.Dec.{eqb, leb}
use borrow.Author.Tests.{le-leb, eq-eqb, eqb-true, eqb-false, leb-true}
use Rattle.pool.specs.Layout.{register, state, link_of}
use Rattle.pool.specs.States.{is_used, is_marked, is_free}
use Rattle.questions.specs.Validity.{valid_link, valid_cell, registers_valid, cells_valid, well_formed}
use Rattle.pool.proofs.Sizes.{both}
use Rattle.pool.proofs.States.{used_not_free, used_not_marked, free_not_marked}
use Rattle.pool.proofs.Every.{every_each, each_every}

-- a valid link is nil or a used cell
pub data Link (R n : ℕ) (w : List ℕ) (x : ℕ) : Type 0 where
  nil : x ≡ 0 → Link R n w x
  used : 0 < x → x ≤ n → is_used (state R w x) ≡ true → Link R n w x

pub data Cell (R n : ℕ) (w : List ℕ) (i : ℕ) : Type 0 where
  free : is_free (state R w i) ≡ true → Cell R n w i
  used : is_used (state R w i) ≡ true → Link R n w (link_of R w i 1) → Link R n w (link_of R w i 2) → Cell R n w i

pub record WellFormed (R n : ℕ) (w : List ℕ) : Type 0 where
  pub registers : (k : ℕ) → k < R → Link R n w (register w k)
  pub cells : (i : ℕ) → 0 < i → i ≤ n → Cell R n w i

-- no cell of a well-formed pool is marked
pub cell_unmarked : {R n : ℕ} {w : List ℕ} {i : ℕ} → Cell R n w i → is_marked (state R w i) ≡ false
cell_unmarked {R} {n} {w} {i} (free s) = free_not_marked (state R w i) s
cell_unmarked {R} {n} {w} {i} (used s l r) = used_not_marked (state R w i) s

module _ (R n : ℕ) (w : List ℕ) where
  pub link-read : (x : ℕ) → valid_link R n w x ≡ true → Link R n w x
  link-read x h = go (eqb x 0) refl h
    where
      go : (t : Bool) → eqb x 0 ≡ t → (t || (leb x n && is_used (state R w x))) ≡ true → Link R n w x
      go true e h = nil (eqb-true x 0 e)
      go false e h =
          let parts = both (leb x n) (is_used (state R w x)) h in
          let other : x ≡ 0 → ⊥ = eqb-false x 0 e in
          used (omega (arith, other)) (leb-true x n parts.0) parts.1

  pub link_made : (x : ℕ) → Link R n w x → valid_link R n w x ≡ true
  link_made x (nil e) = simp (eq-eqb x 0 e)
  link_made x (used low high s) = go (eqb x 0)
    where
      go : (t : Bool) → (t || (leb x n && is_used (state R w x))) ≡ true
      go true = refl
      go false = simp (le-leb x n high, s)

  pub cell-read : (i : ℕ) → valid_cell R n w i ≡ true → Cell R n w i
  cell-read i h = go (is_free (state R w i)) refl h
    where
      go : (t : Bool) → is_free (state R w i) ≡ t
          → (t || (is_used (state R w i) && valid_link R n w (link_of R w i 1) && valid_link R n w (link_of R w i 2))) ≡ true → Cell R n w i
      go true e h = free e
      go false e h =
          let outer = both (is_used (state R w i) && valid_link R n w (link_of R w i 1)) (valid_link R n w (link_of R w i 2)) h in
          let inner = both (is_used (state R w i)) (valid_link R n w (link_of R w i 1)) outer.0 in
          used inner.0 (link-read (link_of R w i 1) inner.1) (link-read (link_of R w i 2) outer.1)

  pub cell_made : (i : ℕ) → Cell R n w i → valid_cell R n w i ≡ true
  cell_made i (free s) = simp s
  cell_made i (used s l r) =
      simp (used_not_free (state R w i) s, s, link_made (link_of R w i 1) l, link_made (link_of R w i 2) r)

  pub well_formed_read : well_formed R n w ≡ true → WellFormed R n w
  well_formed_read h =
      let parts = both (registers_valid R n w) (cells_valid R n w) h in
      record {
        registers = λ k low. link-read (register w k) (every_each (λ j. valid_link R n w (register w j)) R parts.0 k low);
        cells = λ i low high.
            let this : suc (i - 1) ≡ i = omega arith in
            cell-read i (rw this at (every_each (λ j. valid_cell R n w (suc j)) n parts.1 (i - 1) (omega arith)));
      }

  pub well_formed_made : WellFormed R n w → well_formed R n w ≡ true
  well_formed_made f =
      simp (
        each_every (λ j. valid_link R n w (register w j)) R (λ k low. link_made (register w k) (f.registers k low)),
        each_every (λ j. valid_cell R n w (suc j)) n (λ k low. cell_made (suc k) (f.cells (suc k) (omega arith) low)),
      )
