-- A collection that marks with a lent stack (01, "Marking with a lent stack"; 02, S-5, "Fewer stack words").
use Rattle.std.specs.Prelude.{ℕ, List, [], ◌∷◌, Bool, cond, length, replicate, Result, Ok, Err}
use Rattle.pool.specs.Layout.{register_count, graph_of, roots_of}
use Rattle.questions.specs.Validity.{well_formed}
use Rattle.questions.specs.Questions.{sized_of, admitted_to}
use Rattle.answers.specs.Outcome.{Outcome, answered, refused, refusal_number, Determined}
use Rattle.reversal.specs.ReversalTheorem.{marked_of}
use Rattle.reversal.specs.Reached.{reached_count}
use Rattle.collector.specs.Collect.{collected}
use Rattle.stack_algorithm.specs.Check.{is_enough, check_count, limited_run}
use Rattle.answers.specs.declared.Refusal.{Refusal}
use Rattle.stack_marker.specs.declared.StackCollection.{StackCollection}

-- "Answers: kept, and whether the stack was enough" (01), 1 for yes and 0 for no; "the answer adds how many ran" (02, S-5).
abbrev pub stack_outcome : Result StackCollection Refusal → Outcome
stack_outcome (Ok made) = answered (made.kept ∷ cond made.enough 1 0 ∷ made.checks ∷ [])
stack_outcome (Err k) = refused (refusal_number k)

-- What is said determines the answer, its case too.
abbrev pub StackAnswerDetermined : Type 0
StackAnswerDetermined = Determined (Result StackCollection Refusal) stack_outcome

-- The marker with as many words as are lent, from the registers of a pool of n cells: the cells that it marks, and how many entries each check dropped.
abbrev pub lent_run : ℕ → List ℕ → List ℕ → List ℕ × List ℕ
lent_run n w stack = limited_run (length stack) n (graph_of register_count w) (roots_of register_count w)

-- "Only if none went does reversal take over": the pool is marked as by reversal in every case; beside it, whether the stack was enough, and how many checks ran.
abbrev pub marked_by : ℕ → List ℕ → List ℕ → List ℕ × Bool × ℕ
marked_by n w stack = ((marked_of register_count n w).1, is_enough (lent_run n w stack), check_count (lent_run n w stack))

-- A pool of n cells: "is the pool whole? .. No: 3" (01). "The pool ends as after collect; the stack words end 0" (01).
abbrev pub stack_in : ℕ → List ℕ → List ℕ → Outcome × List ℕ × List ℕ
stack_in n w stack =
    let end = lent_run n w stack in
    cond (well_formed register_count n w)
    (answered (reached_count register_count n w ∷ cond (is_enough end) 1 0 ∷ check_count end ∷ []), collected register_count n w, replicate (length stack) 0)
    (refused 3, w, stack)

-- The call: the first question, then the collection. A refusal leaves pool and stack as they were.
abbrev pub stack_of : List ℕ → List ℕ → Outcome × List ℕ × List ℕ
stack_of w stack = admitted_to (λ n. stack_in n w stack) (λ k. (refused k, w, stack)) (sized_of w)
