-- Sweeping a marked pool keeps the reached cells.
use Prim.Native.Nat.{ℕ, zero, suc, ◌<◌, ◌≤◌}
use native.Mathlib.Omega.{arith}
use mathlib.Core.Path.{◌≡◌, refl, sym, ap, ap₂, ◌∙◌}
use mathlib.Core.List.{List, [], ◌∷◌, Memᴰ}
use mathlib.Core.Bool.{Bool, true, false, true≢false}
use lib.ListN.{length, get_or}
use Rattle.graph.proofs.Lists.{has_member, member_has}
use Rattle.graph.proofs.Reached.{reach_above, reach_within}
use Rattle.pool.specs.Layout.{pool_length, state, mark_cell}
use Rattle.pool.specs.Retain.{kept_field, marked_cell, sweep_of}
use Rattle.pool.specs.States.{is_marked, as_marked}
use Rattle.pool.proofs.States.{used-alike}
use Rattle.questions.proofs.WellFormed.{Cell, WellFormed, cell_unmarked}
use Rattle.questions.proofs.PoolGraph.{pool-within}
use Rattle.pool.proofs.Retained.{Elsewhere, set_cell_elsewhere, kept_cong, retain_cong}
use Rattle.reversal.specs.ReversalTheorem.{mark_all}
use Rattle.reversal.specs.Reached.{reached_cells, is_reached, reached_count}
use Rattle.collector.specs.Collect.{collected}
use Rattle.reversal.proofs.MarkAll.{length-mark_all, field_mark_all, kind-mark_all, state-mark_all_same, state-mark_all_other}
use Rattle.collector.proofs.Collected.{kept-reached, kept-count}

-- marking cells changes no word but theirs
pub mark_all_elsewhere : (R n : ℕ) (t w : List ℕ) (k : ℕ) → ((x : ℕ) → Memᴰ x t → (0 < x) × (x ≤ n)) → Elsewhere R n k
    → get_or (mark_all R w t) k 0 ≡ get_or w k 0
unfolding mark_all
mark_all_elsewhere R n [] w k cells away = refl
mark_all_elsewhere R n (x ∷ t) w k cells away =
    let here = cells x (Memᴰ.head refl) in
    mark_all_elsewhere R n t (mark_cell R w x) k (λ y mem. cells y (Memᴰ.tail mem)) away
    ∙ set_cell_elsewhere R n w x 0 (as_marked (state R w x)) k here.0 here.1 (omega arith) away

module _ (R n : ℕ) (w : List ℕ) (well : WellFormed R n w) (room : pool_length R n ≤ length w) where
  -- the reached cells are cells
  reached-cells : (x : ℕ) → Memᴰ x (reached_cells R n w) → (0 < x) × (x ≤ n)
  reached-cells x mem =
      let reach = kept-reached R n w well x (has_member x mem) in
      (reach_above reach, reach_within (pool-within well) reach)

  positive : (x : ℕ) → Memᴰ x (reached_cells R n w) → 0 < x
  positive x mem = (reached-cells x mem).0

  -- after marking, a cell is marked exactly where it is reached
  marked-reached : (j : ℕ) → 0 < j → j ≤ n → marked_cell R (mark_all R w (reached_cells R n w)) j ≡ is_reached R n w j
  marked-reached j low high = go (is_reached R n w j) refl (well.cells j low high)
    where
      go : (t : Bool) → is_reached R n w j ≡ t → Cell R n w j → marked_cell R (mark_all R w (reached_cells R n w)) j ≡ is_reached R n w j
      go true e h = rw e (state-mark_all_same R j low (reached_cells R n w) positive (member_has j (reached_cells R n w) e) w (omega arith))
      go false e h =
          rw e
          (ap is_marked (state-mark_all_other R j low (reached_cells R n w) positive (λ mem. true≢false (sym (has_member j mem) ∙ e)) w)
          ∙ cell_unmarked h)

  -- so the sweep counts and keeps the reached cells
  pub swept-reached : sweep_of R n (mark_all R w (reached_cells R n w)) ≡ (reached_count R n w, collected R n w)
  swept-reached =
      ap₂ (λ (k : ℕ) (v : List ℕ). (k, v))
      (kept_cong (marked_cell R (mark_all R w (reached_cells R n w))) (is_reached R n w) n marked-reached ∙ kept-count R n w well room)
      (retain_cong R n (marked_cell R (mark_all R w (reached_cells R n w))) (is_reached R n w) (mark_all R w (reached_cells R n w)) w
      (length-mark_all R w (reached_cells R n w)) marked-reached
      (λ k other away. mark_all_elsewhere R n (reached_cells R n w) w k reached-cells away)
      same)
    where
      -- marking changes no kind, no link and no value
      same : (j f : ℕ) → 0 < j → j ≤ n → f < 4 → marked_cell R (mark_all R w (reached_cells R n w)) j ≡ true
          → kept_field R (mark_all R w (reached_cells R n w)) j f ≡ kept_field R w j f
      same j zero low high hf e = used-alike _ _ (kind-mark_all R j low (reached_cells R n w) positive w (omega arith))
      same j (suc f) low high hf e = field_mark_all R j (suc f) low (omega arith) hf (reached_cells R n w) positive w
