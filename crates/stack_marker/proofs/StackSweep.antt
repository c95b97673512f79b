-- The marker with a lent stack, with reversal where the stack is not enough, marks what is reached; with the sweep it is the collection of the definition.
use Prim.Native.Nat.{ℕ, ◌≤◌}
use mathlib.Core.Path.{◌≡◌, sym, ap, ap₂, ◌∙◌}
use mathlib.Core.List.{List, [], ◌∷◌}
use mathlib.Core.Bool.{Bool, true, false, cond, not}
use lib.ListN.{length, replicate}
use borrow.Author.Tests.{not-false}
use Rattle.graph.specs.Graph.{Within}
use Rattle.graph.proofs.Theorems.{preorder-reached}
use Rattle.graph.proofs.Reached.{reach_above, reach_within}
use Rattle.pool.specs.Layout.{register_count, pool_length, graph_of, roots_of}
use Rattle.pool.specs.Retain.{sweep_of}
use Rattle.questions.specs.Validity.{well_formed}
use Rattle.questions.proofs.WellFormed.{WellFormed, well_formed_read}
use Rattle.questions.proofs.PoolGraph.{pool-within, reached-used}
use Rattle.answers.specs.Outcome.{Outcome, answered}
use Rattle.reversal.specs.ReversalTheorem.{marked_of}
use Rattle.reversal.specs.Reached.{reached_cells, reached_count}
use Rattle.collector.specs.Collect.{collected}
use Rattle.collector.proofs.MarkSweep.{swept-reached}
use Rattle.stack_algorithm.specs.Check.{is_enough}
use Rattle.stack_algorithm.proofs.Checking.{limited-marks_the_reached, limited-marks_only_reached}
use Rattle.bounded_stack.specs.Steps.{cleared, result_in}
use Rattle.bounded_stack.proofs.Cleared.{cleared-marks}
use Rattle.stack_marker.specs.StackCollect.{lent_run, marked_by, stack_in}
use Rattle.stack_marker.proofs.Members.{mark_all_members}

module _ (n : ℕ) (w stack w' : List ℕ) (well : well_formed register_count n w ≡ true) (room : pool_length register_count n ≤ length w) (enough : Bool) (checks : ℕ)
    (ran : ◌≡◌ {A = List ℕ × Bool × ℕ} (w', enough, checks) (result_in register_count w (lent_run n w stack))) where
  facts : WellFormed register_count n w
  facts = well_formed_read register_count n w well

  within : Within n (graph_of register_count w) (roots_of register_count w)
  within = pool-within facts

  said : enough ≡ is_enough (lent_run n w stack)
  said = ap (λ (x : List ℕ × Bool × ℕ). x.1) ran

  words : w' ≡ (result_in register_count w (lent_run n w stack)).0
  words = ap (λ (x : List ℕ × Bool × ℕ). x.0) ran

  -- the answer, for words that are marked as by reversal
  answered_so : {w₁ : List ℕ} → w₁ ≡ (marked_of register_count n w).1 → ◌≡◌ {A = List ℕ × Bool × ℕ} (w₁, enough, checks) (marked_by n w stack)
  answered_so {w₁} marked = rw marked (ap (λ (x : List ℕ × Bool × ℕ). ((marked_of register_count n w).1, x.1, x.2)) ran)

  -- the stack was enough: the cells that it marked are the reached ones
  pub marked-enough : not enough ≡ false → ◌≡◌ {A = List ℕ × Bool × ℕ} (w', enough, checks) (marked_by n w stack)
  marked-enough e =
      let g = graph_of register_count w in
      let roots = roots_of register_count w in
      let reached = limited-marks_the_reached (length stack) n g roots within (sym said ∙ not-false enough e) in
      let order = preorder-reached n g roots within in
      answered_so
      (words
      ∙ mark_all_members register_count n w (lent_run n w stack).0 (reached_cells register_count n w) room
      (λ x mem. let reach = (reached x).0 mem in (reach_above reach, reach_within within reach))
      (λ x. (λ mem. (order x).1 ((reached x).0 mem), λ mem. (reached x).1 ((order x).0 mem))))

  -- it was not: clearing the marks gives the pool back
  pub marked_anew : (w₂ : List ℕ) → w₂ ≡ cleared register_count n w' → w₂ ≡ w
  marked_anew w₂ clear =
      let only = limited-marks_only_reached (length stack) n (graph_of register_count w) (roots_of register_count w) within in
      clear
      ∙ (ap (cleared register_count n) words
      ∙ cleared-marks register_count n w (lent_run n w stack).0 facts room (λ x mem. reached-used facts (only.0 x mem)))

  pub marked-again : (w₂ : List ℕ) → w₂ ≡ cleared register_count n w' → {w₃ : List ℕ} → w₃ ≡ (marked_of register_count n w₂).1
      → ◌≡◌ {A = List ℕ × Bool × ℕ} (w₃, enough, checks) (marked_by n w stack)
  marked-again w₂ clear reversed = answered_so (reversed ∙ ap (λ (x : List ℕ). (marked_of register_count n x).1) (marked_anew w₂ clear))

-- marked, swept and the stack cleared
pub stack_made : (n : ℕ) (w stack w₁ stack₁ w₂ stack₂ : List ℕ) (enough : Bool) (checks kept : ℕ) → well_formed register_count n w ≡ true
    → pool_length register_count n ≤ length w → ◌≡◌ {A = List ℕ × Bool × ℕ} (w₁, enough, checks) (marked_by n w stack) → length stack₁ ≡ length stack
    → ◌≡◌ {A = ℕ × List ℕ} (kept, w₂) (sweep_of register_count n w₁) → stack₂ ≡ replicate (length stack₁) 0
    → ◌≡◌ {A = Outcome × List ℕ × List ℕ} (answered (kept ∷ cond enough 1 0 ∷ checks ∷ []), w₂, stack₂) (stack_in n w stack)
stack_made n w stack w₁ stack₁ w₂ stack₂ enough checks kept well room mark lent sweep clear =
    let swept : ◌≡◌ {A = ℕ × List ℕ} (kept, w₂) (reached_count register_count n w, collected register_count n w) =
    sweep
    ∙ (ap (λ (x : List ℕ × Bool × ℕ). sweep_of register_count n x.0) mark
    ∙ swept-reached register_count n w (well_formed_read register_count n w well) room) in
    rw (well, clear, lent)
    (ap₂ (λ (x : ℕ × List ℕ) (y : List ℕ × Bool × ℕ). (answered (x.0 ∷ cond y.1 1 0 ∷ y.2 ∷ []), x.1, replicate (length stack) 0)) swept mark)
