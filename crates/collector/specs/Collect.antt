-- A collection (01, "Marking by reversal"): what it keeps, what it answers and what it leaves.
use Rattle.std.specs.Prelude.{ℕ, List, [], ◌∷◌, cond}
use Rattle.pool.specs.Layout.{register_count}
use Rattle.questions.specs.Validity.{well_formed}
use Rattle.questions.specs.Questions.{sized_of, admitted_to}
use Rattle.pool.specs.Retain.{retain}
use Rattle.answers.specs.Outcome.{Outcome, answered, refused}
use Rattle.reversal.specs.Reached.{is_reached, reached_count, reached_visits}

-- The words after a collection: every reached cell is used, its links and its value as before, and every other cell is on the ascending chain.
abbrev pub collected : ℕ → ℕ → List ℕ → List ℕ
collected R n w = retain R n (is_reached R n w) w

-- A collection of a pool of n cells: "is the pool whole? .. No: 3"; then kept, and the visits.
abbrev pub collect_in : ℕ → List ℕ → Outcome × List ℕ
collect_in n w =
    cond (well_formed register_count n w)
    (answered (reached_count register_count n w ∷ reached_visits register_count n w ∷ []), collected register_count n w)
    (refused 3, w)

-- The call: the first question, then the collection.
abbrev pub collect_of : List ℕ → Outcome × List ℕ
collect_of w = admitted_to (λ n. collect_in n w) (λ k. (refused k, w)) (sized_of w)
