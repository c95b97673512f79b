-- A pool still represents the reference model after the same write to both: of a register, or of a field of a cell.
use Prim.Native.Nat.{ℕ, ◌-◌, ◌<◌, ◌≤◌}
use native.Mathlib.Omega.{arith}
use native.Mathlib.Decide.{ℕ_discrete}
use mathlib.Core.Path.{◌≡◌, sym, ap, subst, ◌∙◌}
use mathlib.Core.Logic.{inl, inr, ⊎_elim}
use mathlib.Core.List.{List}
use lib.ListN.{length, length-set}
use lib.Seq.{get_or-set_same, get_or-set_other}
use Rattle.pool.specs.Layout.{register_count, pool_length, register, set_register, cell, set_cell}
use Rattle.pool.specs.States.{is_point}
use Rattle.pool.proofs.Laws.{register-same, register_other, cell-set_register, register-set_cell, cell_same, cell_other}
use Rattle.reference.specs.Model.{Entry, Model, any_entry, entry, held, hold, replace}
use Rattle.reference.proofs.Places.{set_holds}
use Rattle.invariant.proofs.Standing.{Standing}
use Rattle.reference.proofs.Fields.{Field, number, number_above, number-below, put, put_point, Related, link_related, Linked, put_linked, put_related}
use Rattle.reference.proofs.Represents.{Pair, More, nil-one, Alike, alike-map, alike_same, Represents, rep_made, root-pair, pair_place, pair-used}

module _ {N : ℕ} {w : List ℕ} {m : Model} (pool : Standing N w) (rep : Represents w m) where
  -- A register gets a link that is paired, or nil in both.
  pub rep_hold : (r x y : ℕ) → r < register_count → More (Pair w m) 0 0 x y → Represents (set_register w r x) (hold m r y)
  rep_hold r x y low link =
      rep_made (set_register w r x) (hold m r y) (More (Pair w m) 0 0) (nil-one (Pair w m) rep.one_to_one)
      (record {
        registers = length-set m.registers r y ∙ rep.bounded.registers;
        roots = λ k. set_holds (λ z. z ≤ length m.cells) m.registers r k y 0 (rep.bounded.roots k) (place link);
        cells = rep.bounded.cells;
      })
      (λ k below. roots k below (ℕ_discrete k r)) alike
    where
      place : More (Pair w m) 0 0 x y → y ≤ length m.cells
      place = ⊎_elim (pair_place rep) (λ nil. omega arith)

      roots : (k : ℕ) → k < register_count → Dec (k ≡ r) → More (Pair w m) 0 0 (register (set_register w r x) k) (held (hold m r y) k)
      roots k below (yes e) =
          rw (
            e,
            register-same register_count w r x (omega (arith, pool.sized.room, pool.sized.least)),
            get_or-set_same m.registers r y 0 (omega (arith, rep.bounded.registers)),
          ) link
      roots k below (no e) =
          rw (register_other register_count w r x k e, get_or-set_other m.registers r k y 0 e) (inl (root-pair rep k below))

      alike : (i j : ℕ) → More (Pair w m) 0 0 i j → 0 < i → 0 < j → Alike (More (Pair w m) 0 0) (set_register w r x) i (entry m j)
      alike i j (inl p) hi hj =
          alike_same (set_register w r x) (λ f hf. cell-set_register register_count w r x i f low) (alike-map (λ a b. inl) (rep.alike i j p hi hj))
      alike i j (inr p) hi hj = absurd (omega arith)

  -- A field of two cells that are paired gets what is related.
  pub rep_put : (f : Field) (x y u v : ℕ) → Pair w m x y → 0 < x → 0 < y → Related (entry m y).point (Pair w m) f u v
      → Represents (set_cell register_count w x (number f) u) (replace m y (put f (entry m y) v))
  rep_put f x y u v pair hx hy new =
      rep_made after model (Pair w m) rep.one_to_one
      (record {
        registers = rep.bounded.registers;
        roots = λ k. rw (length-set m.cells (y - 1) e) (rep.bounded.roots k);
        cells = λ j. rw (length-set m.cells (y - 1) e)
            (set_holds (Linked (length m.cells)) m.cells (y - 1) (j - 1) e _ (rep.bounded.cells j)
            (put_linked (length m.cells) f (entry m y) v (rep.bounded.cells y) (λ is link. pair_place rep ((link_related (Pair w m) f u v link).1 (rw is at new)))));
      })
      (λ k below. rw (register-set_cell register_count w x (number f) u k below) (root-pair rep k below))
      (λ i j p hi hj. go i j p hi hj (ℕ_discrete i x))
    where
      e : Entry
      e = put f (entry m y) v

      after : List ℕ
      after = set_cell register_count w x (number f) u

      model : Model
      model = replace m y e

      room : pool_length register_count x ≤ length w
      room = omega (arith, pool.sized.room, (pair-used rep pool pair hx).bounded)

      -- the cell written, field by field, and every other cell
      here : Alike (Pair w m) after x e
      here =
          let old = rep.alike x y pair hx hy in
          record {
            kind = ap is_point (cell_other register_count w x (number f) u x 0 hx (number-below f) hx (omega arith) (λ k. omega (arith, number_above f))) ∙ (old.kind ∙ sym (put_point f (entry m y) v));
            field = λ g. rw (put_point f (entry m y) v)
                (put_related (entry m y).point (Pair w m) f g (entry m y) u v (cell register_count after x (number g)) new
                (λ q. rw (← q) (cell_same register_count w x (number f) u hx (number-below f) room))
                (λ q. rw (cell_other register_count w x (number f) u x (number g) hx (number-below f) hx (number-below g) (λ k. q (omega arith))) (old.field g)));
          }

      go : (i j : ℕ) → Pair w m i j → 0 < i → 0 < j → Dec (i ≡ x) → Alike (Pair w m) after i (entry model j)
      go i j p hi hj (yes q) =
          let place : j ≡ y = rep.one_to_one.forward x j y (subst (λ (z : ℕ). Pair w m z j) q p) pair in
          rw (q, place, get_or-set_same m.cells (y - 1) e any_entry (omega (arith, pair_place rep pair))) here
      go i j p hi hj (no q) =
          let place : j - 1 ≡ y - 1 → ⊥ = λ k. q (rep.one_to_one.backward i x y (subst (λ (z : ℕ). Pair w m i z) (omega arith) p) pair) in
          rw (get_or-set_other m.cells (y - 1) (j - 1) e any_entry place)
          (alike_same after
          (λ g hg. cell_other register_count w x (number f) u i g hx (number-below f) hi hg (λ k. q (omega (arith, number-below f))))
          (rep.alike i j p hi hj))
