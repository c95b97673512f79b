-- A pool that takes its first free cell represents the reference model that appends one.
use Prim.Native.Nat.{ℕ, suc, ◌-◌, ◌<◌, ◌≤◌}
use native.Mathlib.Omega.{arith}
use native.Mathlib.Decide.{ℕ_discrete}
use mathlib.Core.Path.{◌≡◌, ap, subst, ◌∙◌}
use mathlib.Core.Bool.{Bool, true}
use mathlib.Core.Logic.{inl, inr}
use mathlib.Core.List.{List, [], ◌∷◌}
use lib.ListN.{length, length-set, length-append, get_or-append}
use lib.Seq.{get_or-set_same, get_or-set_other, get_or-append_seam}
use Rattle.graph.specs.Compare.{OneToOne}
use Rattle.pool.specs.Layout.{register_count, head, register}
use Rattle.pool.specs.States.{is_point, is_used}
use Rattle.pool.proofs.Node.{written}
use Rattle.allocator.specs.Allocation.{take}
use Rattle.reference.specs.Model.{Entry, Model, any_entry, entry, entry_link, held, append}
use Rattle.reference.proofs.Places.{set_holds, append_holds}
use Rattle.invariant.proofs.FreeList.{free_or_used}
use Rattle.invariant.proofs.Invariant.{Invariant, inv_first}
use Rattle.invariant.proofs.Taken.{taken-cell, taken_other, taken-register, taken-register_other}
use Rattle.reference.proofs.Fields.{Field, number, number-below, get, Related, related_map, link_related, Linked, link-most}
use Rattle.reference.proofs.Represents.{Pair, More, more-one, Bounded, Alike, alike-map, alike_same, Represents, rep_made, root-pair, pair_place, pair-used}

module _ {N : ℕ} {w : List ℕ} {m : Model} (inv : Invariant N w) (rep : Represents w m) (some : 0 < head w) where
  -- No pair has the cell or the place that is new.
  new_cell : {x y : ℕ} → Pair w m x y → x ≡ head w → ⊥
  new_cell {x} pair e =
      let used = pair-used rep inv.pool pair (omega arith) in
      free_or_used w x (rw e (inv_first inv some).free) used.state

  new_place : {x y : ℕ} → Pair w m x y → y ≡ suc (length m.cells) → ⊥
  new_place pair e = omega (arith, pair_place rep pair)

  abbrev Added : ℕ → ℕ → Type 0
  Added = More (Pair w m) (head w) (suc (length m.cells))

  added-one : OneToOne Added
  added-one =
      more-one (Pair w m) rep.one_to_one (head w) (suc (length m.cells)) (λ e. absurd (omega arith), λ e. absurd (omega arith))
      (λ x y pair. (λ e. absurd (new_cell pair e), λ e. absurd (new_place pair e)))

  -- The cell that is taken, of the state c, and the entry e that is appended: of one kind, with equal values, and of a pair the links paired, of a point the
  -- coordinates equal.
  module _ (r c x y v : ℕ) (e : Entry) (used : is_used c ≡ true) (hr : r < register_count) (kind : is_point c ≡ e.point)
      (fields : (f : Field) → Related e.point (Pair w m) f (written c x y v (number f)) (get f e)) where
    abbrev after : List ℕ
    after = take w r c x y v

    abbrev model : Model
    model = append m r e

    cells-length : length model.cells ≡ suc (length m.cells)
    cells-length = length-append m.cells (e ∷ []) ∙ omega arith

    linked : Linked (suc (length m.cells)) e
    linked = (most Field.left (omega arith), most Field.right (omega arith))
      where
        most : (f : Field) → number f < 3 → entry_link e (get f e) ≤ suc (length m.cells)
        most f below =
            link-most e.point (get f e) (suc (length m.cells)) λ pair.
            omega (arith, pair_place rep ((link_related (Pair w m) f _ _ below).1 (subst (λ (t : Bool). Related t (Pair w m) f (written c x y v (number f)) (get f e)) pair (fields f))))

    append-bounded : Bounded model
    append-bounded =
        record {
          registers = length-set m.registers r _ ∙ rep.bounded.registers;
          roots = λ k. rw cells-length
              (set_holds (λ z. z ≤ suc (length m.cells)) m.registers r k (suc (length m.cells)) 0
              (omega (arith, rep.bounded.roots k)) (omega arith));
          cells = λ j. rw cells-length
              (append_holds (Linked (suc (length m.cells))) m.cells (j - 1) e any_entry
              (omega (arith, rep.bounded.cells j)) linked (omega arith));
        }

    pub rep_append : Represents after model
    rep_append =
        rep_made after model Added added-one append-bounded (λ k below. roots k below (ℕ_discrete k r)) alike
      where
        roots : (k : ℕ) → k < register_count → Dec (k ≡ r) → Added (register after k) (held model k)
        roots k below (yes q) =
            inr (
              rw q (taken-register inv r c x y v used hr some),
              rw q (get_or-set_same m.registers r (suc (length m.cells)) 0 (omega (arith, rep.bounded.registers))),
            )
        roots k below (no q) =
            rw (
              taken-register_other inv r c x y v used hr some k below q,
              get_or-set_other m.registers r k (suc (length m.cells)) 0 q,
            )
            (inl (root-pair rep k below))

        alike : (i j : ℕ) → Added i j → 0 < i → 0 < j → Alike Added after i (entry model j)
        alike i j (inl pair) hi hj =
            rw (get_or-append m.cells (e ∷ []) any_entry (j - 1) (omega (arith, pair_place rep pair)))
            (alike-map (λ p q. inl)
            (alike_same after (λ f hf. taken_other inv r c x y v used hr some i f hi hf (new_cell pair)) (rep.alike i j pair hi hj)))
        alike i j (inr here) hi hj =
            let place : j - 1 ≡ length m.cells = omega arith in
            rw (here.0, place, get_or-append_seam m.cells e [] any_entry)
            (record {
              kind = ap is_point (taken-cell inv r c x y v used hr some 0 (omega arith)) ∙ kind;
              field = λ f. rw (taken-cell inv r c x y v used hr some (number f) (number-below f)) (related_map e.point (λ p q. inl) f _ _ (fields f));
            })
