-- Fresh words represent the empty reference model.
use Prim.Native.Nat.{ℕ, ◌<◌}
use native.Mathlib.Omega.{arith}
use native.Mathlib.Decide.{dec_lt}
use mathlib.Core.Path.{◌≡◌, refl, sym, ap, ◌∙◌}
use mathlib.Core.List.{List}
use mathlib.Core.Bool.{false}
use lib.ListN.{length, replicate, get_or-replicate, get_or-eq_default}
use Rattle.pool.specs.Layout.{register_count}
use Rattle.pool.specs.Lengths.{LengthOf}
use Rattle.pool.specs.States.{is_free}
use Rattle.pool.specs.Retain.{blank_words, fresh_words}
use Rattle.questions.proofs.WellFormed.{Link}
use Rattle.pool.proofs.RetainedPool.{retained_free}
use Rattle.reference.specs.Model.{empty, held}
use Rattle.invariant.proofs.FreeList.{free_or_used}
use Rattle.invariant.proofs.Rebuilt.{blank_room, fresh_inv}
use Rattle.reference.proofs.Represents.{Represents, rep_made}

module _ (N e : ℕ) (lent : List ℕ) (fits : LengthOf register_count N e (length lent)) where
  -- Every cell is free, so that a valid link is nil.
  link-nil : {x : ℕ} → Link register_count N (fresh_words register_count N lent) x → x ≡ 0
  link-nil (Link.nil e) = e
  link-nil {x} (Link.used some top s) =
      let free = retained_free register_count N (λ i. false) (blank_words register_count N lent) (blank_room N e lent fits) x some top refl in
      absurd (free_or_used (fresh_words register_count N lent) x (ap is_free free) s)

  all_nil : (k : ℕ) → held empty k ≡ 0
  all_nil k = go (dec_lt k register_count)
    where
      go : Dec (k < register_count) → held empty k ≡ 0
      go (yes below) = get_or-replicate register_count k 0 0 below
      go (no above) = get_or-eq_default (replicate register_count 0) 0 {n = k} (omega arith)

  pub fresh_rep : Represents (fresh_words register_count N lent) empty
  fresh_rep =
      rep_made (fresh_words register_count N lent) empty (λ x y. (x ≡ 0) × (y ≡ 0))
      (record {
        nil = λ x y a. (λ e. a.1, λ e. a.0);
        forward = λ x y z a b. a.1 ∙ sym b.1;
        backward = λ x y z a b. a.0 ∙ sym b.0;
      })
      (record { registers = refl; roots = λ k. omega (arith, all_nil k); cells = λ x. omega arith })
      (λ k below. (link-nil ((fresh_inv N e lent fits).pool.well.registers k below), all_nil k))
      (λ x y a hx hy. absurd (omega arith))
