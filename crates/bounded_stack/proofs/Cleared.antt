-- Clearing marks: a turn of the loop, and that clearing undoes marking.
use Prim.Native.Nat.{ℕ, zero, suc, ◌+◌, ◌-◌, ◌<◌, ◌≤◌}
use native.Mathlib.Omega.{arith}
use native.Mathlib.Decide.{ℕ_discrete}
use mathlib.Core.Path.{◌≡◌, refl, sym, ap, ◌∙◌}
use mathlib.Core.Logic.{◌⊎◌, inl, inr}
use mathlib.Core.List.{List, [], ◌∷◌, Memᴰ}
use mathlib.Core.Bool.{Bool, true, false, cond}
use lib.ListN.{length}
use Rattle.pool.specs.Layout.{pool_length, set_cell, state, mark_cell, unmark_cell}
use Rattle.pool.specs.States.{is_used, is_marked, as_marked, as_used}
use Rattle.pool.specs.Retain.{marked_cell}
use Rattle.pool.proofs.States.{used_not_marked, used-same, used-alike, marked-marked, point-marked}
use Rattle.pool.proofs.Laws.{length-set_cell, cell_same, cell_other, set_cell-again, set_cell_comm, set_cell-cell}
use Rattle.questions.proofs.WellFormed.{WellFormed, cell_unmarked}
use Rattle.questions.proofs.PoolGraph.{Used}
use Rattle.reversal.specs.ReversalTheorem.{mark_all}
use Rattle.bounded_stack.specs.Steps.{cleared}

module _ (R : ℕ) where
  -- the turns of the loop
  pub cleared-none : (w : List ℕ) (i : ℕ) → i ≤ 0 → cleared R i w ≡ w
  unfolding cleared
  cleared-none w zero h = refl
  cleared-none w (suc i) h = absurd (omega arith)

  pub cleared-marked : (w w' : List ℕ) (i s : ℕ) → 0 < i → s ≡ state R w (i - 1 + 1) → is_marked s ≡ true → w' ≡ unmark_cell R w (i - 1 + 1) → cleared R (i - 1) w' ≡ cleared R i w
  unfolding cleared
  cleared-marked w w' zero s some read is wrote = absurd (omega arith)
  cleared-marked w w' (suc i) s some read is wrote =
      let less : suc i - 1 ≡ i = omega arith in
      let this : suc i - 1 + 1 ≡ suc i = omega arith in
      rw (less, ap is_marked (sym (rw this at read)) ∙ is, rw this at wrote)

  pub cleared_other : (w : List ℕ) (i s : ℕ) → 0 < i → s ≡ state R w (i - 1 + 1) → is_marked s ≡ false → cleared R (i - 1) w ≡ cleared R i w
  unfolding cleared
  cleared_other w zero s some read other = absurd (omega arith)
  cleared_other w (suc i) s some read other =
      let less : suc i - 1 ≡ i = omega arith in
      let this : suc i - 1 + 1 ≡ suc i = omega arith in
      rw (less, ap is_marked (sym (rw this at read)) ∙ other)

  -- where no cell is marked nothing changes
  cleared_clean : (i : ℕ) (w : List ℕ) → ((j : ℕ) → 0 < j → j ≤ i → marked_cell R w j ≡ false) → cleared R i w ≡ w
  unfolding cleared
  cleared_clean zero w clean = refl
  cleared_clean (suc i) w clean =
      rw (clean (suc i) (omega arith) (omega arith)) (cleared_clean i w λ j low high. clean j low (omega arith))

  -- a used cell, or one that is marked already, can be marked before
  Markable : List ℕ → ℕ → Type 0
  Markable w x = (is_used (state R w x) ≡ true) ⊎ (is_marked (state R w x) ≡ true)

  cleared-one : (i : ℕ) (w : List ℕ) (x : ℕ) → 0 < x → x ≤ i → pool_length R x ≤ length w → Markable w x
      → cleared R i (mark_cell R w x) ≡ cleared R i w
  unfolding cleared Markable
  cleared-one zero w x low high room from = absurd (omega arith)
  cleared-one (suc i) w x low high room from = go (ℕ_discrete (suc i) x) (marked_cell R w (suc i)) refl (λ v l k. cleared-one i v x low l k)
    where
      here : Markable w x → cond (marked_cell R w x) (unmark_cell R w x) w ≡ unmark_cell R w x
      here (inl e) = rw (used_not_marked (state R w x) e) (sym (set_cell-cell R w x 0) ∙ ap (set_cell R w x 0) (used-same (state R w x) e))
      here (inr e) = rw e

      go : Dec (suc i ≡ x) → (t : Bool) → marked_cell R w (suc i) ≡ t
          → ((v : List ℕ) → x ≤ i → pool_length R x ≤ length v → Markable v x → cleared R i (mark_cell R v x) ≡ cleared R i v)
          → cleared R i (cond (marked_cell R (mark_cell R w x) (suc i)) (unmark_cell R (mark_cell R w x) (suc i)) (mark_cell R w x))
          ≡ cleared R i (cond (marked_cell R w (suc i)) (unmark_cell R w (suc i)) w)
      go (yes e) t et rest =
          rw (
            e,
            cell_same R w x 0 (as_marked (state R w x)) low (omega arith) room,
            marked-marked (state R w x),
            used-alike (as_marked (state R w x)) (state R w x) (point-marked (state R w x)),
            set_cell-again R w x 0 (as_marked (state R w x)) (as_used (state R w x)),
          )
          (ap (cleared R i) (sym (here from)))
      go (no apart) true et rest =
          let same : state R (unmark_cell R w (suc i)) x ≡ state R w x =
          cell_other R w (suc i) 0 (as_used (state R w (suc i))) x 0 (omega arith) (omega arith) low (omega arith) (λ e. apart (omega arith)) in
          rw (
            cell_other R w x 0 (as_marked (state R w x)) (suc i) 0 low (omega arith) (omega arith) (omega arith) (λ e. apart (omega arith)),
            et,
            set_cell_comm R w x 0 (as_marked (state R w x)) (suc i) 0 (as_used (state R w (suc i))) low (omega arith) (omega arith) (omega arith) (λ e. apart (omega arith)),
          )
          (rw same at (rest (unmark_cell R w (suc i)) (omega arith) (simp length-set_cell room) (rw same from)))
      go (no apart) false et rest =
          rw (cell_other R w x 0 (as_marked (state R w x)) (suc i) 0 low (omega arith) (omega arith) (omega arith) (λ e. apart (omega arith)), et)
          (rest w (omega arith) room from)

  -- so clearing is the same before and after marking such cells
  cleared-mark_all : (i : ℕ) (t w : List ℕ) → pool_length R i ≤ length w → ((x : ℕ) → Memᴰ x t → (0 < x) × (x ≤ i) × Markable w x)
      → cleared R i (mark_all R w t) ≡ cleared R i w
  unfolding mark_all Markable
  cleared-mark_all i [] w room from = refl
  cleared-mark_all i (x ∷ xs) w room from =
      let here = from x (Memᴰ.head refl) in
      cleared-mark_all i xs (mark_cell R w x) (simp length-set_cell room)
      (λ y mem. let there = from y (Memᴰ.tail mem) in (there.0, there.1, still y there.0 there.2 (ℕ_discrete y x)))
      ∙ cleared-one i w x here.0 here.1 (omega arith) here.2
    where
      still : (y : ℕ) → 0 < y → Markable w y → Dec (y ≡ x) → Markable (mark_cell R w x) y
      still y low h (yes e) =
          let first = from x (Memᴰ.head refl) in
          let same : state R (mark_cell R w x) y ≡ as_marked (state R w x) =
          rw e (cell_same R w x 0 (as_marked (state R w x)) first.0 (omega arith) (omega (arith, first.1))) in
          inr (ap is_marked same ∙ marked-marked (state R w x))
      still y low h (no apart) =
          rw (cell_other R w x 0 (as_marked (state R w x)) y 0 (from x (Memᴰ.head refl)).0 (omega arith) low (omega arith) (λ e. apart (omega arith))) h

  -- clearing undoes the marking of used cells of a well-formed pool
  pub cleared-marks : (n : ℕ) (w t : List ℕ) → WellFormed R n w → pool_length R n ≤ length w → ((x : ℕ) → Memᴰ x t → Used R n w x)
      → cleared R n (mark_all R w t) ≡ w
  unfolding Markable
  cleared-marks n w t well room used =
      cleared-mark_all n t w room (λ x mem. ((used x mem).positive, (used x mem).bounded, inl (used x mem).state))
      ∙ cleared_clean n w λ j low high. cell_unmarked (well.cells j low high)
