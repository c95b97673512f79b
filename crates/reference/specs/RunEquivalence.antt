-- Demand 3 of code that runs: the words that `batch::run` writes for a list of calls on a fresh pool, against the reference model.
use Rattle.std.specs.Prelude.{ℕ, ◌*◌, ◌≤◌, ◌≡◌, ◌↔◌, List, [], ◌∷◌, true, cond, length, get_or, drop, Result, Ok}
use Rattle.pool.specs.Layout.{register_count}
use Rattle.pool.specs.Lengths.{LengthOf}
use Rattle.pool.specs.Retain.{fresh_words}
use Rattle.calls.specs.declared.Call.{Call}
use Rattle.calls.specs.Calls.{allocates}
use Rattle.batch.specs.declared.Stopped.{Stopped}
use Rattle.batch.specs.declared.Stopped.TheVariants as stopped
use Rattle.batch.specs.Program.{program_of, program_of_calls}
use Rattle.batch.specs.Run.{run_of, after_all, answer_words}
use Rattle.reference.specs.Model.{empty}
use Rattle.reference.specs.Equivalence.{model_answers, none_distinguishes}

-- What is observed of the words of answers, three for each call: all of them but the visits that a "new" reports, which count as 0.
unfoldable pub observed_words : List Call → List ℕ → List ℕ
observed_words [] out = []
observed_words (c ∷ cs) out = get_or out 0 0 ∷ cond (allocates c) 0 (get_or out 1 0) ∷ get_or out 2 0 ∷ observed_words cs (drop 3 out)

-- What a run of the calls cs on a fresh pool of N cells gives (`end`): all of them ran, one after the other; words behind those of their answers stay;
-- and what is observed of the words of their answers is the words of the model's answers with limit L exactly when no call distinguishes the two.
pub record RunsAlike (N L : ℕ) (lent : List ℕ) (cs : List Call) (out : List ℕ) (end : Result ℕ Stopped × List ℕ × List ℕ) : Type 0 where
  pub all : end.0 ≡ Ok (length cs)
  pub pool : end.1 ≡ after_all cs (fresh_words register_count N lent)
  pub behind : drop (3 * length cs) end.2 ≡ drop (3 * length cs) out
  pub alike : (observed_words cs end.2 ≡ answer_words (model_answers L cs empty)) ↔ (none_distinguishes N L cs empty ≡ true)

-- `batch::run`, given words that hold the calls cs and room for their answers, on a pool with e words behind its cells. (`run_of` is what its contract says.)
abbrev pub RunEquivalence : Type 0
RunEquivalence =
    (N e L : ℕ) (lent list out : List ℕ) (cs : List Call) → LengthOf register_count N e (length lent) → program_of list ≡ program_of_calls cs → 3 * length cs ≤ length out
    → RunsAlike N L lent cs out (run_of list (fresh_words register_count N lent) out)
