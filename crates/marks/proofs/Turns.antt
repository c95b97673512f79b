-- The sweep, turn by turn.
use Prim.Native.Nat.{ℕ, zero, suc, ◌+◌, ◌-◌, ◌<◌, ◌≤◌}
use native.Mathlib.Numerals.{add-one}
use native.Mathlib.Omega.{arith}
use native.Mathlib.Decide.{ℕ_discrete}
use mathlib.Core.Path.{◌≡◌, sym, ap, ap₂, ◌∙◌}
use mathlib.Core.List.{List}
use mathlib.Core.Bool.{Bool, true, false}
use lib.ListN.{length}
use Rattle.pool.specs.Layout.{pool_length, cell, set_cell, put_cell, state, set_head, unmark_cell}
use Rattle.pool.specs.States.{free_state, is_marked, as_used}
use Rattle.pool.specs.Retain.{lowest_free, free_above, kept_field, retained_field, kept_count, marked_cell, sweep_of}
use Rattle.pool.proofs.Laws.{cell_same, cell_other, length-set_cell}
use Rattle.pool.proofs.Retained.{set_cell_elsewhere, Swept, swept_none, swept-free, swept_all, free-kept, free_here}

-- the turn of a cell that is kept
module _ (R n : ℕ) (keep : ℕ → Bool) (w₀ w : List ℕ) (i : ℕ) (here : i < n) (room : pool_length R n ≤ length w₀) (s : Swept R n keep w₀ w (suc i)) where
  swept_kept : keep (suc i) ≡ true → Swept R n keep w₀ (unmark_cell R w (suc i)) i
  swept_kept e =
      record {
        len = length-set_cell R w (suc i) 0 (as_used (state R w (suc i))) ∙ s.len;
        elsewhere = λ k away. set_cell_elsewhere R n w (suc i) 0 (as_used (state R w (suc i))) k (omega arith) here (omega arith) away ∙ s.elsewhere k away;
        below = λ j f hj low hf.
            cell_other R w (suc i) 0 (as_used (state R w (suc i))) j f (omega arith) (omega arith) hj hf (λ q. omega arith) ∙ s.below j f hj (omega arith) hf;
        above = λ j f low high hf. go j f low high hf (ℕ_discrete j (suc i));
      }
    where
      this : (f : ℕ) → f < 4 → cell R (unmark_cell R w (suc i)) (suc i) f ≡ kept_field R w₀ (suc i) f
      this zero hf =
          cell_same R w (suc i) 0 (as_used (state R w (suc i))) (omega arith) hf (omega (arith, s.len))
          ∙ ap as_used (s.below (suc i) 0 (omega arith) (omega arith) hf)
      this (suc f) hf =
          cell_other R w (suc i) 0 (as_used (state R w (suc i))) (suc i) (suc f) (omega arith) (omega arith) (omega arith) hf (λ q. omega arith)
          ∙ s.below (suc i) (suc f) (omega arith) (omega arith) hf

      go : (j f : ℕ) → i < j → j ≤ n → f < 4 → Dec (j ≡ suc i) → cell R (unmark_cell R w (suc i)) j f ≡ retained_field R n keep w₀ j f
      go j f low high hf (yes same) = rw (same, e) (this f hf)
      go j f low high hf (no other) =
          cell_other R w (suc i) 0 (as_used (state R w (suc i))) j f (omega arith) (omega arith) (omega arith) hf (λ q. other (omega arith))
          ∙ s.above j f (omega arith) high hf

-- how many cells are kept, the topmost first
kept_more : (keep : ℕ → Bool) (i : ℕ) → 0 < i → keep i ≡ true → kept_count keep i ≡ suc (kept_count keep (i - 1))
unfolding kept_count
kept_more keep zero some e = absurd (omega arith)
kept_more keep (suc i) some e = let less : suc i - 1 ≡ i = omega arith in simp (less, e) (omega arith)

kept_same : (keep : ℕ → Bool) (i : ℕ) → 0 < i → keep i ≡ false → kept_count keep i ≡ kept_count keep (i - 1)
unfolding kept_count
kept_same keep zero some e = absurd (omega arith)
kept_same keep (suc i) some e = let less : suc i - 1 ≡ i = omega arith in simp (less, e) (omega arith)

-- what the loop of the sweep keeps: the cells above i are done, next is the lowest free one of them, and freed counts those that are free
pub record Turn (R n : ℕ) (w₀ w : List ℕ) (i next freed : ℕ) : Type 0 where
  pub few : freed + i ≤ n
  pub swept : Swept R n (marked_cell R w₀) w₀ w i
  pub chain : next ≡ free_above (marked_cell R w₀) n i
  pub counted : kept_count (marked_cell R w₀) n + freed + i ≡ n + kept_count (marked_cell R w₀) i

module _ (R n : ℕ) (w₀ : List ℕ) (room : pool_length R n ≤ length w₀) where
  pub turn_first : Turn R n w₀ w₀ n 0 0
  unfolding lowest_free
  turn_first =
      let none : n - n ≡ 0 = omega arith in
      record { few = omega arith; swept = swept_none R n (marked_cell R w₀) w₀; chain = rw none; counted = omega arith }

  module _ (w : List ℕ) (i next freed : ℕ) (some : 0 < i) (t : Turn R n w₀ w i next freed) where
    top : i - 1 < n
    top = omega (arith, t.few)

    this : suc (i - 1) ≡ i
    this = omega arith

    -- the state that is read is still the one at the start
    state-read : (s : ℕ) → s ≡ cell R w (i - 1 + 1) 0 → cell R w₀ (suc (i - 1)) 0 ≡ s
    state-read s read = rw (← add-one (i - 1)) (sym (read ∙ t.swept.below (i - 1 + 1) 0 (omega arith) (omega arith) (omega arith)))

    pub turn_kept : (s u : ℕ) (w' : List ℕ) → s ≡ cell R w (i - 1 + 1) 0 → is_marked s ≡ true → as_used s ≡ u → w' ≡ set_cell R w (i - 1 + 1) 0 u
        → Turn R n w₀ w' (i - 1) next freed
    turn_kept s u w' read is used write =
        let made : w' ≡ unmark_cell R w (i - 1 + 1) = write ∙ ap (set_cell R w (i - 1 + 1) 0) (sym used ∙ ap as_used read) in
        let keep : marked_cell R w₀ (suc (i - 1)) ≡ true = ap is_marked (state-read s read) ∙ is in
        record {
          few = omega (arith, t.few);
          swept = rw (made ∙ ap (λ (k : ℕ). unmark_cell R w k) (add-one (i - 1)))
              (swept_kept R n (marked_cell R w₀) w₀ w (i - 1) top room (rw this t.swept) keep);
          chain = t.chain ∙ sym (free-kept (marked_cell R w₀) n (i - 1) top keep ∙ ap (free_above (marked_cell R w₀) n) this);
          counted = omega (arith, t.counted, kept_more (marked_cell R w₀) i some (rw this at keep));
        }

    pub turn_free : (s : ℕ) (w' : List ℕ) → s ≡ cell R w (i - 1 + 1) 0 → is_marked s ≡ false → w' ≡ put_cell R w (i - 1 + 1) free_state next 0 0
        → Turn R n w₀ w' (i - 1) (i - 1 + 1) (freed + 1)
    turn_free s w' read is write =
        let drop : marked_cell R w₀ (suc (i - 1)) ≡ false = ap is_marked (state-read s read) ∙ is in
        record {
          few = omega (arith, t.few);
          swept = rw (write ∙ ap (λ (k : ℕ). put_cell R w k free_state next 0 0) (add-one (i - 1)))
              (swept-free R n (marked_cell R w₀) w₀ w (i - 1) top room (rw this t.swept) next drop (t.chain ∙ ap (free_above (marked_cell R w₀) n) (sym this)));
          chain = add-one (i - 1) ∙ sym (free_here (marked_cell R w₀) n (i - 1) top drop);
          counted = omega (arith, t.counted, kept_same (marked_cell R w₀) i some (rw this at drop));
        }

  pub turn_last : (w w' : List ℕ) (i next freed : ℕ) → i ≤ 0 → Turn R n w₀ w i next freed → w' ≡ set_head w next
      → ◌≡◌ {A = ℕ × List ℕ} (n - freed, w') (sweep_of R n w₀)
  unfolding kept_count
  turn_last w w' zero next freed last t write =
      ap₂ (λ (k : ℕ) (l : List ℕ). (k, l)) (omega (arith, t.counted)) (write ∙ (ap (set_head w) t.chain ∙ swept_all R n (marked_cell R w₀) w₀ w room t.swept))
  turn_last w w' (suc i) next freed last t write = absurd (omega arith)
