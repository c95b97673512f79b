-- A `new` or a `point` is refused exactly when all cells are reached: the proof of the statement of specs/Memory.antt.
use Prim.Native.Nat.{ℕ, ◌<◌}
use native.Mathlib.Omega.{arith}
use mathlib.Core.Path.{◌≡◌, refl, sym, ap, ◌∙◌}
use mathlib.Core.Bool.{true, false≢true}
use mathlib.Core.List.{List}
use lib.ListN.{length}
use Rattle.pool.specs.Layout.{register_count, register}
use Rattle.pool.specs.States.{pair_state, point_state}
use Rattle.pool.proofs.AllKept.{counted-all, all-counted}
use Rattle.questions.proofs.Admission.{Registers, registers_there}
use Rattle.reversal.specs.Reached.{is_reached, reached_count}
use Rattle.collector.proofs.Collected.{kept-reached, reached-kept, kept-count, collected-order}
use Rattle.allocator.specs.Allocation.{allocate_in}
use Rattle.calls.specs.declared.Call.{Call}
use Rattle.calls.specs.declared.Call.TheVariants as call
use Rattle.calls.specs.Calls.{registers_of, body_of, allocates}
use Rattle.invariant.specs.Memory.{AllReached, FullOnly, RefusedWhenFull}
use Rattle.invariant.proofs.Standing.{called, standing_room}
use Rattle.invariant.proofs.Invariant.{Invariant}
use Rattle.invariant.proofs.Rebuilt.{fresh_inv}
use Rattle.invariant.proofs.New.{Source, Allocated, allocated_case, new_allocates}
use Rattle.invariant.proofs.Theorems.{calls_inv}

module _ {N : ℕ} {w : List ℕ} (inv : Invariant N w) where
  -- As many cells are reached as there are exactly where each is.
  full-reached : reached_count register_count N w ≡ N → AllReached N w
  full-reached e i low high =
      kept-reached register_count N w inv.pool.well i
      (counted-all (is_reached register_count N w) N (kept-count register_count N w inv.pool.well (standing_room inv.pool) ∙ e) i low high)

  reached-full : AllReached N w → reached_count register_count N w ≡ N
  reached-full all =
      sym (kept-count register_count N w inv.pool.well (standing_room inv.pool))
      ∙ all-counted (is_reached register_count N w) N (λ j low high. reached-kept register_count N w inv.pool.well (all j low high))

  -- A collection does not change how many are reached.
  source_fewer : {p : List ℕ} → Source N w p → reached_count register_count N p < N → reached_count register_count N w < N
  source_fewer Source.itself few = few
  source_fewer Source.swept few = omega (arith, ap length (collected-order register_count N w inv.pool.well (standing_room inv.pool)))

  full-only : (r c x y v : ℕ) → Allocated N w r c x y v → FullOnly N w (allocate_in N w r c x y v).0
  full-only r c x y v (Allocated.accepted source inv' some few visits e) =
      rw e
      (record {
        full = (
          λ q. let z : ◌≡◌ {A = ℕ} 0 1 = cc in absurd (omega arith),
          λ all. absurd (omega (arith, source_fewer source few, reached-full all)),
        );
        only = λ k q. let z : ◌≡◌ {A = ℕ} 0 1 = cc in absurd (omega arith);
      })
  full-only r c x y v (Allocated.full all e) = rw e (record { full = (λ q. full-reached all, λ q. refl); only = λ k q. cc })

  body_full : (c : Call) → allocates c ≡ true → Registers (registers_of c) → FullOnly N w (body_of c N w).0
  body_full (call.New r a b v) h named =
      rw (new_allocates inv r a b v named.1.0 named.1.1.0) (full-only r pair_state (register w a) (register w b) v (allocated_case inv r pair_state (register w a) (register w b) v))
  body_full (call.Point r v x y) h named = full-only r point_state x y v (allocated_case inv r point_state x y v)
  body_full (call.Copy r a) h named = absurd (false≢true h)
  body_full (call.Clear r) h named = absurd (false≢true h)
  body_full (call.Left r a) h named = absurd (false≢true h)
  body_full (call.Right r a) h named = absurd (false≢true h)
  body_full (call.SetLeft a b) h named = absurd (false≢true h)
  body_full (call.SetRight a b) h named = absurd (false≢true h)
  body_full (call.SetValue a v) h named = absurd (false≢true h)
  body_full (call.Value a) h named = absurd (false≢true h)
  body_full (call.Same a b) h named = absurd (false≢true h)
  body_full call.Collect h named = absurd (false≢true h)
  body_full (call.East a) h named = absurd (false≢true h)
  body_full (call.North a) h named = absurd (false≢true h)

pub refused_when_full : RefusedWhenFull
refused_when_full N e lent calls c fits allocating there =
    let inv = calls_inv calls (fresh_inv N e lent fits) in
    rw (called inv.pool c, there) (body_full inv c allocating (registers_there (registers_of c) there))
