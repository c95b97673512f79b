-- The proof of what a collection does to a well-formed pool.
use Prim.Native.Nat.{ℕ, ◌<◌, ◌≤◌}
use native.Mathlib.Omega.{arith}
use mathlib.Core.Path.{◌≡◌, refl, sym, ap, ap₂, ◌∙◌}
use mathlib.Core.List.{List, [], ◌∷◌}
use mathlib.Core.Bool.{Bool, true, false}
use lib.ListN.{length}
use borrow.Author.Tests.{lt-ltb}
use Rattle.graph.proofs.Theorems.{preorder-reached, preorder-distinct}
use Rattle.graph.proofs.Reached.{reach_above, reach_within}
use Rattle.pool.specs.Layout.{register_count, pool_length, cell_count, count, graph_of, roots_of}
use Rattle.questions.specs.Validity.{well_formed}
use Rattle.pool.specs.States.{is_free}
use Rattle.pool.specs.Retain.{sweep_of}
use Rattle.answers.specs.Outcome.{Outcome, answered}
use Rattle.pool.proofs.Sizes.{cells_sized, cells_same}
use Rattle.questions.proofs.WellFormed.{WellFormed, well_formed_read, well_formed_made}
use Rattle.questions.proofs.PoolGraph.{pool-within}
use Rattle.pool.proofs.Retained.{length-retain, retain-register, retain-count}
use Rattle.pool.proofs.RetainedPool.{retained_used, retained_free, retained_free_list}
use Rattle.reversal.specs.Reached.{reached_cells, is_reached, reached_visits}
use Rattle.collector.specs.Collect.{collected, collect_in, collect_of}
use Rattle.reversal.specs.ReversalTheorem.{marked_of}
use Rattle.collector.specs.CollectTheorem.{Reached, Collected, CollectionKeepsTheReached, CollectionMarksAndSweeps}
use Rattle.reversal.proofs.Roots.{run-over_pool, roots-same}
use Rattle.collector.proofs.MarkSweep.{swept-reached}
use Rattle.collector.proofs.Collected.{reached-kept, kept-reached, collected_field, collected-well_formed, collected-order, collected-visits, collected-again, collected-full}

-- the collection of a pool of n cells is the marker's runs and the sweep
swept : (n : ℕ) (w : List ℕ) → well_formed register_count n w ≡ true → pool_length register_count n ≤ length w
    → let (visits, marked) = marked_of register_count n w in
    let (kept, after) = sweep_of register_count n marked in
    collect_in n w ≡ (answered (kept ∷ visits ∷ []), after)
swept n w well room =
    rw well
    (ap (λ (x : ℕ × List ℕ). (answered (x.0 ∷ reached_visits register_count n w ∷ []), x.1))
    (sym (swept-reached register_count n w (well_formed_read register_count n w well) room)))

-- so the code that marks and then sweeps collects
pub collect_made : (n : ℕ) (w w₁ w₂ : List ℕ) (visits kept : ℕ) → well_formed register_count n w ≡ true → pool_length register_count n ≤ length w
    → ◌≡◌ {A = ℕ × List ℕ} (visits, w₁) (marked_of register_count n w) → ◌≡◌ {A = ℕ × List ℕ} (kept, w₂) (sweep_of register_count n w₁)
    → ◌≡◌ {A = Outcome × List ℕ} (answered (kept ∷ visits ∷ []), w₂) (collect_in n w)
collect_made n w w₁ w₂ visits kept well room mark sweep =
    sym
    (swept n w well room
    ∙ ap₂ (λ (m s : ℕ × List ℕ). (answered (s.0 ∷ m.0 ∷ []), s.1)) (sym mark)
    (ap (λ (m : ℕ × List ℕ). sweep_of register_count n m.1) (sym mark) ∙ sym sweep))

-- the words of a pool of n cells pass the first question
accepted : (n : ℕ) (w : List ℕ) → 0 < n → cell_count register_count w ≡ n → collect_of w ≡ collect_in n w
accepted n w some cells = rw cells (simp (lt-ltb 0 n some))

module _ (n : ℕ) (w : List ℕ) (some : 0 < n) (cells : cell_count register_count w ≡ n) (well : well_formed register_count n w ≡ true) where
  facts : WellFormed register_count n w
  facts = well_formed_read register_count n w well

  abbrev keep : ℕ → Bool
  keep = is_reached register_count n w

  abbrev after : List ℕ
  after = collected register_count n w

  room : pool_length register_count n ≤ length w
  room = rw cells at (cells_sized register_count w (rw cells some)).0.room

  -- the words afterwards are a pool of as many cells
  count_after : count after ≡ count w
  count_after = retain-count register_count n keep w room

  cells_after : cell_count register_count after ≡ n
  cells_after = cells_same register_count after w (length-retain register_count n keep w) count_after ∙ cells

  well_after : well_formed register_count n after ≡ true
  well_after = well_formed_made register_count n after (collected-well_formed register_count n w facts room)

  not_kept : (x : ℕ) → (Reached w x → ⊥) → keep x ≡ false
  not_kept x none = go (keep x) refl
    where
      go : (t : Bool) → keep x ≡ t → keep x ≡ false
      go true e = absurd (none (kept-reached register_count n w facts x e))
      go false e = e

  what_is_left : Collected n w after (reached_cells register_count n w)
  what_is_left =
      record {
        reached = preorder-reached n (graph_of register_count w) (roots_of register_count w) (pool-within facts);
        once = preorder-distinct n (graph_of register_count w) (roots_of register_count w) (pool-within facts);
        same = λ x reach.
            record {
              used = retained_used register_count n keep w room x (reach_above reach) (reach_within (pool-within facts) reach) (reached-kept register_count n w facts reach);
              state = collected_field register_count n w facts room 0 (omega arith) reach;
              left = collected_field register_count n w facts room 1 (omega arith) reach;
              right = collected_field register_count n w facts room 2 (omega arith) reach;
              value = collected_field register_count n w facts room 3 (omega arith) reach;
            };
        free = λ x low high none. ap is_free (retained_free register_count n keep w room x low high (not_kept x none));
        chain = retained_free_list register_count n keep w some room;
        registers = retain-register register_count n keep w room;
        count = count_after;
        cells = cells_after;
        is_well_formed = well_after;
        again = accepted n after some cells_after
            ∙ rw (well_after, collected-visits register_count n w facts room)
            (ap₂ (λ (t v : List ℕ). (answered (length t ∷ reached_visits register_count n w ∷ []), v)) (collected-order register_count n w facts room) (collected-again register_count n w facts room));
        full = collected-full register_count n w facts room;
      }

pub collection-marks_and_sweeps : CollectionMarksAndSweeps
collection-marks_and_sweeps n w some cells well =
    let (visits, marked) = marked_of register_count n w in
    let (kept, after) = sweep_of register_count n marked in
    let wide = room n w some cells well in
    let runs = run-over_pool register_count n w wide well in (
      kept,
      visits,
      after,
      accepted n w some cells ∙ swept n w well wide,
      record { marked = marked; runs = runs; only = λ end other. roots-same register_count n other runs; swept = refl },
    )

pub collection-keeps_the_reached : CollectionKeepsTheReached
collection-keeps_the_reached n w some cells well =
    (reached_cells register_count n w, collected register_count n w, accepted n w some cells ∙ rw well refl, what_is_left n w some cells well)
