-- Marking the same cells in another order leaves the same words.
use Prim.Native.Nat.{ℕ, zero, suc, ◌<◌, ◌≤◌}
use native.Mathlib.Omega.{arith}
use mathlib.Core.Path.{◌≡◌, refl, sym, ◌∙◌}
use mathlib.Core.Logic.{◌↔◌}
use mathlib.Core.List.{List, Memᴰ}
use mathlib.Core.Bool.{Bool, true, false, true≢false}
use lib.ListN.{length, get_or}
use lib.Seq.{ext_get_or}
use Rattle.graph.specs.Preorder.{elem}
use Rattle.graph.proofs.Lists.{has_member, member_has}
use Rattle.pool.specs.Layout.{pool_length, cell}
use Rattle.pool.proofs.Retained.{Place, place}
use Rattle.reversal.specs.ReversalTheorem.{mark_all}
use Rattle.reversal.proofs.MarkAll.{length-mark_all, field_mark_all, state-mark_all, state-mark_all_other}
use Rattle.collector.proofs.MarkSweep.{mark_all_elsewhere}

pub mark_all_members : (R n : ℕ) (w t u : List ℕ) → pool_length R n ≤ length w → ((x : ℕ) → Memᴰ x t → (0 < x) × (x ≤ n))
    → ((x : ℕ) → Memᴰ x t ↔ Memᴰ x u) → mark_all R w t ≡ mark_all R w u
unfolding cell
mark_all_members R n w t u room cells same =
    ext_get_or 0 (mark_all R w t) (mark_all R w u) (length-mark_all R w t ∙ sym (length-mark_all R w u)) λ k below. at k (place R n k)
  where
    cells_u : (x : ℕ) → Memᴰ x u → (0 < x) × (x ≤ n)
    cells_u x mem = cells x ((same x).1 mem)

    field : (i f : ℕ) → 0 < i → i ≤ n → f < 4 → (b : Bool) → elem i t ≡ b → cell R (mark_all R w t) i f ≡ cell R (mark_all R w u) i f
    field i zero low high hf true e =
        let mem = member_has i t e in
        state-mark_all R i low t (λ x m. (cells x m).0) mem w (omega arith)
        ∙ sym (state-mark_all R i low u (λ x m. (cells_u x m).0) ((same i).0 mem) w (omega arith))
    field i zero low high hf false e =
        let out : Memᴰ i t → ⊥ = λ m. true≢false (sym (has_member i m) ∙ e) in
        state-mark_all_other R i low t (λ x m. (cells x m).0) out w
        ∙ sym (state-mark_all_other R i low u (λ x m. (cells_u x m).0) (λ m. out ((same i).1 m)) w)
    field i (suc f) low high hf b e =
        field_mark_all R i (suc f) low (omega arith) hf t (λ x m. (cells x m).0) w
        ∙ sym (field_mark_all R i (suc f) low (omega arith) hf u (λ x m. (cells_u x m).0) w)

    at : (k : ℕ) → Place R n k → get_or (mark_all R w t) k 0 ≡ get_or (mark_all R w u) k 0
    at k (Place.first e) =
        mark_all_elsewhere R n t w k cells (λ j f low high hf e'. omega arith)
        ∙ sym (mark_all_elsewhere R n u w k cells_u (λ j f low high hf e'. omega arith))
    at k (Place.stays other away test) = mark_all_elsewhere R n t w k cells away ∙ sym (mark_all_elsewhere R n u w k cells_u away)
    at k (Place.field i f low high hf e) = rw e (field i f low high hf (elem i t) refl)
