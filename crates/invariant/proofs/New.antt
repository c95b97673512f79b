-- What `new` and `point` do on a pool that the invariant holds of: each takes the first free cell, of the pool as it is or as a collection leaves it, or is
-- refused with 5.
use Prim.Native.Nat.{ℕ, ◌<◌, ◌≤◌}
use native.Mathlib.Omega.{arith}
use mathlib.Core.Path.{◌≡◌, refl, sym, ◌∙◌}
use mathlib.Core.Logic.{⊎_elim}
use mathlib.Core.List.{List, Memᴰ}
use mathlib.Core.Bool.{true, false, true≢false}
use borrow.Author.Tests.{eq-eqb, ne_eqb, le-leb}
use Rattle.graph.specs.Theorems.{Distinct}
use Rattle.graph.proofs.Lists.{each_cons}
use Rattle.graph.proofs.Marks.{zero_or_above}
use Rattle.graph.proofs.Theorems.{preorder-reached, preorder-distinct}
use Rattle.pool.specs.Layout.{register_count, head, register, left, graph_of, roots_of}
use Rattle.pool.specs.States.{pair_state, point_state, is_point, is_used}
use Rattle.pool.proofs.States.{pair_is, point_is}
use Rattle.answers.specs.Outcome.{allocated, refused}
use Rattle.questions.proofs.PoolGraph.{reached-used, pool-within}
use Rattle.pool.proofs.Retained.{retain-register}
use Rattle.questions.proofs.WellFormed.{Link, well_formed_made}
use Rattle.reversal.specs.Reached.{is_reached, reached_cells, reached_count, reached_visits}
use Rattle.collector.specs.Collect.{collected}
use Rattle.collector.proofs.Collected.{head-nil_full}
use Rattle.allocator.specs.Allocation.{allocate_in, new_in, point_in, good_head, take}
use Rattle.invariant.proofs.Pigeonhole.{distinct-length}
use Rattle.invariant.proofs.FreeList.{free_or_used, chain-within}
use Rattle.invariant.proofs.Standing.{standing_room, holds_link_lem}
use Rattle.invariant.proofs.Invariant.{Invariant, inv_first}
use Rattle.invariant.proofs.Taken.{taken_inv}
use Rattle.invariant.proofs.Rebuilt.{collected_inv}

-- The pool that the cell is taken from: the words as they are, or collected.
pub data Source (N : ℕ) (w : List ℕ) : List ℕ → Type 0 where
  itself : Source N w w
  swept : Source N w (collected register_count N w)

pub data Allocated (N : ℕ) (w : List ℕ) (r c x y v : ℕ) : Type 0 where
  accepted : {p : List ℕ} → Source N w p → Invariant N p → 0 < head p → reached_count register_count N p < N → (visits : ℕ)
      → allocate_in N w r c x y v ≡ (allocated visits, take p r c x y v) → Allocated N w r c x y v
  full : reached_count register_count N w ≡ N → allocate_in N w r c x y v ≡ (refused 5, w) → Allocated N w r c x y v

-- The first free cell is not kept, so fewer than N are.
free-fewer : {N : ℕ} {w : List ℕ} → Invariant N w → 0 < head w → reached_count register_count N w < N
free-fewer {N} {w} inv some =
    let first = inv_first inv some in
    let g = graph_of register_count w in
    let roots = roots_of register_count w in
    let reach = preorder-reached N g roots (pool-within inv.pool.well) in
    distinct-length N
    (Distinct.more (λ (mem : Memᴰ (head w) (reached_cells register_count N w)). free_or_used w (head w) first.free (reached-used inv.pool.well ((reach (head w)).0 mem)).state)
    (preorder-distinct N g roots (pool-within inv.pool.well)))
    (each_cons (λ x. (0 < x) × (x ≤ N)) (some, first.high)
    (λ x mem. let used = reached-used inv.pool.well ((reach x).0 mem) in (used.positive, used.bounded)))

module _ {N : ℕ} {w : List ℕ} (inv : Invariant N w) where
  -- A collection changes no register, and a valid link stays valid.
  pub source_register : {p : List ℕ} → Source N w p → (k : ℕ) → k < register_count → register p k ≡ register w k
  source_register itself k low = refl
  source_register swept k low = retain-register register_count N (is_reached register_count N w) w (standing_room inv.pool) k low

  pub allocated_case : (r c x y v : ℕ) → Allocated N w r c x y v
  allocated_case r c x y v = ⊎_elim nil some (zero_or_above (head w))
    where
      some : 0 < head w → Allocated N w r c x y v
      some low =
          let first = inv_first inv low in
          let good : good_head N w ≡ true =
          rw (le-leb (head w) N first.high, first.free, le-leb (left register_count w (head w)) N (chain-within first.chain)) in
          accepted itself inv low (free-fewer inv low) 0 (rw (ne_eqb (head w) 0 (λ e. omega arith), good))

      nil : head w ≡ 0 → Allocated N w r c x y v
      nil none = ⊎_elim out again (zero_or_above (head (collected register_count N w)))
        where
          out : head (collected register_count N w) ≡ 0 → Allocated N w r c x y v
          out e =
              full (head-nil_full register_count N w inv.pool.well (standing_room inv.pool) inv.pool.sized.least e)
              (rw (
                eq-eqb (head w) 0 none,
                well_formed_made register_count N w inv.pool.well,
                eq-eqb (head (collected register_count N w)) 0 e,
              ))

          again : 0 < head (collected register_count N w) → Allocated N w r c x y v
          again low =
              accepted swept (collected_inv inv) low (free-fewer (collected_inv inv) low) (reached_visits register_count N w)
              (rw (
                eq-eqb (head w) 0 none,
                well_formed_made register_count N w inv.pool.well,
                ne_eqb (head (collected register_count N w)) 0 (λ e. omega arith),
              ))

  -- `new` with valid registers allocates.
  pub new_allocates : (r a b v : ℕ) → a < register_count → b < register_count
      → new_in N w r a b v ≡ allocate_in N w r pair_state (register w a) (register w b) v
  new_allocates r a b v ha hb = rw (holds_link_lem inv.pool a ha, holds_link_lem inv.pool b hb)

  -- What is allocated keeps the invariant, where a pair gets links that are valid in the pool it is taken from.
  allocate_inv : (r c x y v : ℕ) → is_used c ≡ true → r < register_count
      → ((p : List ℕ) → Source N w p → Invariant N p → is_point c ≡ false → Link register_count N p x × Link register_count N p y)
      → Invariant N (allocate_in N w r c x y v).1
  allocate_inv r c x y v used hr fits = go (allocated_case r c x y v)
    where
      go : Allocated N w r c x y v → Invariant N (allocate_in N w r c x y v).1
      go (accepted {p = p} source inv' some few visits e) = rw e (taken_inv inv' r c x y v used hr some (fits p source inv'))
      go (full all e) = rw e inv

  pub new_inv : (r a b v : ℕ) → r < register_count → a < register_count → b < register_count → Invariant N (new_in N w r a b v).1
  new_inv r a b v hr ha hb =
      rw (new_allocates r a b v ha hb)
      (allocate_inv r pair_state (register w a) (register w b) v (pair_is pair_state refl).0 hr
      (λ p source inv' pair. (
        rw (source_register source a ha) at (inv'.pool.well.registers a ha),
        rw (source_register source b hb) at (inv'.pool.well.registers b hb),
      )))

  pub point_inv : (r v x y : ℕ) → r < register_count → Invariant N (point_in N w r v x y).1
  point_inv r v x y hr =
      allocate_inv r point_state x y v (point_is point_state refl).0 hr (λ p source inv' pair. absurd (true≢false (sym (point_is point_state refl).1 ∙ pair)))
