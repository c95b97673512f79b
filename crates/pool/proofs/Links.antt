-- The links of a cell: a pair's fields, nil of a point.
use Prim.Native.Nat.{ℕ, suc, ◌<◌, ◌≤◌}
use mathlib.Core.Path.{◌≡◌, refl, ap, ap₂, ◌∙◌}
use mathlib.Core.Bool.{Bool, true, false, cond}
use mathlib.Core.List.{List}
use lib.ListN.{length}
use Rattle.pool.specs.Layout.{pool_length, cell, state, is_point_at, link_of}
use Rattle.pool.specs.States.{is_point}
use Rattle.pool.specs.Retain.{retain}
use Rattle.pool.proofs.States.{point-used}
use Rattle.pool.proofs.RetainedPool.{retained_state, retained_same}

pub link-pair : (R : ℕ) (w : List ℕ) (i f : ℕ) → is_point_at R w i ≡ false → link_of R w i f ≡ cell R w i f
unfolding link_of
link-pair R w i f e = rw e refl

pub link-point : (R : ℕ) (w : List ℕ) (i f : ℕ) → is_point_at R w i ≡ true → link_of R w i f ≡ 0
unfolding link_of
link-point R w i f e = rw e refl

-- they are the same where the kind and the field are
pub link-same : (R : ℕ) (w v : List ℕ) (i j f : ℕ) → is_point_at R w i ≡ is_point_at R v j → cell R w i f ≡ cell R v j f → link_of R w i f ≡ link_of R v j f
unfolding link_of
link-same R w v i j f kind field = ap₂ (λ (t : Bool) (x : ℕ). cond t 0 x) kind field

-- so they are in a pool that keeps the cell
module _ (R n : ℕ) (keep : ℕ → Bool) (w : List ℕ) (room : pool_length R n ≤ length w) (i : ℕ) (low : 0 < i) (high : i ≤ n) (kept : keep i ≡ true) where
  pub retained_kind : is_point_at R (retain R n keep w) i ≡ is_point_at R w i
  retained_kind = ap is_point (retained_state R n keep w room i low high kept) ∙ point-used (state R w i)

  pub retained_link : (f : ℕ) → suc f < 4 → link_of R (retain R n keep w) i (suc f) ≡ link_of R w i (suc f)
  retained_link f hf = link-same R (retain R n keep w) w i i (suc f) retained_kind (retained_same R n keep w room i f low high hf kept)
