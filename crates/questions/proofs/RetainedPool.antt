-- A retained pool is well-formed where what is kept leads only to what is kept.
use Prim.Native.Nat.{ℕ, ◌<◌, ◌≤◌}
use native.Mathlib.Omega.{arith}
use mathlib.Core.Path.{◌≡◌, refl, ap, ◌∙◌}
use mathlib.Core.List.{List}
use mathlib.Core.Bool.{Bool, true, false}
use lib.ListN.{length}
use Rattle.pool.specs.Layout.{pool_length, register, link_of}
use Rattle.pool.specs.States.{is_free}
use Rattle.pool.specs.Retain.{retain}
use Rattle.pool.proofs.Retained.{retain-register}
use Rattle.pool.proofs.RetainedPool.{retained_used, retained_free}
use Rattle.pool.proofs.Links.{retained_link}
use Rattle.questions.proofs.WellFormed.{Link, Cell, WellFormed}

-- a link that leads to nothing but a kept cell
pub data Kept (n : ℕ) (keep : ℕ → Bool) (x : ℕ) : Type 0 where
  nil : x ≡ 0 → Kept n keep x
  kept : 0 < x → x ≤ n → keep x ≡ true → Kept n keep x

module _ (R n : ℕ) (keep : ℕ → Bool) (w : List ℕ) (room : pool_length R n ≤ length w) where
  kept-link : (x y : ℕ) → x ≡ y → Kept n keep y → Link R n (retain R n keep w) x
  kept-link x y e (Kept.nil z) = Link.nil (e ∙ z)
  kept-link x y e (Kept.kept low high k) = rw e (Link.used low high (retained_used R n keep w room y low high k))

  pub retained_well_formed : ((k : ℕ) → k < R → Kept n keep (register w k))
      → ((i : ℕ) → 0 < i → i ≤ n → keep i ≡ true → Kept n keep (link_of R w i 1) × Kept n keep (link_of R w i 2))
      → WellFormed R n (retain R n keep w)
  retained_well_formed roots links =
      record {
        registers = λ k low. kept-link (register (retain R n keep w) k) (register w k) (retain-register R n keep w room k low) (roots k low);
        cells = λ i low high. go i low high (keep i) refl;
      }
    where
      go : (i : ℕ) → 0 < i → i ≤ n → (t : Bool) → keep i ≡ t → Cell R n (retain R n keep w) i
      go i low high true e =
          Cell.used (retained_used R n keep w room i low high e)
          (kept-link (link_of R (retain R n keep w) i 1) (link_of R w i 1) (retained_link R n keep w room i low high e 0 (omega arith)) (links i low high e).0)
          (kept-link (link_of R (retain R n keep w) i 2) (link_of R w i 2) (retained_link R n keep w room i low high e 1 (omega arith)) (links i low high e).1)
      go i low high false e = Cell.free (ap is_free (retained_free R n keep w room i low high e))
