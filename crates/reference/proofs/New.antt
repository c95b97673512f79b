-- `new` and `point` on a pool that represents the reference model: accepted exactly where fewer than N cells are live.
use Prim.Native.Nat.{ℕ, ◌<◌, ◌≤◌}
use native.Mathlib.Omega.{arith}
use mathlib.Core.Path.{◌≡◌, refl}
use mathlib.Core.Bool.{true, false}
use mathlib.Core.List.{List}
use Rattle.pool.specs.Layout.{register_count, register}
use Rattle.pool.specs.States.{pair_state, point_state, is_point, is_used}
use Rattle.pool.proofs.States.{pair_is, point_is}
use Rattle.pool.proofs.Node.{written}
use Rattle.answers.specs.Outcome.{Outcome, refused}
use Rattle.allocator.specs.Allocation.{allocate_in, new_in, point_in}
use Rattle.invariant.proofs.Invariant.{Invariant}
use Rattle.invariant.proofs.New.{Source, Allocated, allocated_case, source_register, new_allocates}
use Rattle.reference.specs.Model.{Entry, Model, held, live, append, done}
use Rattle.reference.specs.Equivalence.{observed}
use Rattle.reference.proofs.Represents.{Pair, Represents, root-pair, kept-live}
use Rattle.reference.proofs.Fields.{Field, number, get, Related}
use Rattle.reference.proofs.Append.{rep_append}
use Rattle.reference.proofs.Steps.{Step}
use Rattle.reference.proofs.Collecting.{collected_rep}

-- What an allocation does, where the model appends the cell e: it is accepted, or refused with 5.
pub data AllocateStep (N : ℕ) (w : List ℕ) (m : Model) (r : ℕ) (e : Entry) (p : Outcome × List ℕ) : Type 0 where
  accepted : live m < N → Step (observed p.0, p.1) (done (append m r e)) → AllocateStep N w m r e p
  full : N ≤ live m → p ≡ (refused 5, w) → AllocateStep N w m r e p

module _ {N : ℕ} {w : List ℕ} {m : Model} (inv : Invariant N w) (rep : Represents w m) where
  source_rep : {p : List ℕ} → Source N w p → Represents p m
  source_rep Source.itself = rep
  source_rep Source.swept = collected_rep inv.pool rep

  allocate_step : (r c x y v : ℕ) (e : Entry) → is_used c ≡ true → r < register_count → is_point c ≡ e.point
      → ((p : List ℕ) → Source N w p → (f : Field) → Related e.point (Pair p m) f (written c x y v (number f)) (get f e))
      → AllocateStep N w m r e (allocate_in N w r c x y v)
  allocate_step r c x y v e used hr kind fields = go (allocated_case inv r c x y v)
    where
      go : Allocated N w r c x y v → AllocateStep N w m r e (allocate_in N w r c x y v)
      go (Allocated.accepted {p = p} source inv' some few visits did) =
          let rep' = source_rep source in
          accepted (omega (arith, kept-live rep' inv'.pool))
          (rw did (record { answer = refl; rep = rep_append inv' rep' some r c x y v e used hr kind (fields p source) }))
      go (Allocated.full all did) = full (omega (arith, kept-live rep inv.pool)) did

  pub new_step : (r a b v : ℕ) → r < register_count → a < register_count → b < register_count
      → AllocateStep N w m r (record { point = false; left = held m a; right = held m b; value = v }) (new_in N w r a b v)
  new_step r a b v hr ha hb =
      rw (new_allocates inv r a b v ha hb)
      (allocate_step r pair_state (register w a) (register w b) v _ (pair_is pair_state refl).0 hr (pair_is pair_state refl).1 fields)
    where
      fields : (p : List ℕ) → Source N w p → (f : Field)
          → Related false (Pair p m) f (written pair_state (register w a) (register w b) v (number f)) (get f (record { point = false; left = held m a; right = held m b; value = v }))
      fields p source Field.left = rw (source_register inv source a ha) at (root-pair (source_rep source) a ha)
      fields p source Field.right = rw (source_register inv source b hb) at (root-pair (source_rep source) b hb)
      fields p source Field.value = refl

  pub point-step : (r v x y : ℕ) → r < register_count → AllocateStep N w m r (record { point = true; left = x; right = y; value = v }) (point_in N w r v x y)
  point-step r v x y hr =
      allocate_step r point_state x y v _ (point_is point_state refl).0 hr (point_is point_state refl).1 fields
    where
      fields : (p : List ℕ) → Source N w p → (f : Field)
          → Related true (Pair p m) f (written point_state x y v (number f)) (get f (record { point = true; left = x; right = y; value = v }))
      fields p source Field.left = refl
      fields p source Field.right = refl
      fields p source Field.value = refl
