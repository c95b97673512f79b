-- A run: the calls of a list, one after the other, and the words that their answers are written to.
use Rattle.std.specs.Prelude.{ℕ, suc, ◌+◌, ◌*◌, ◌≤◌, ◌≡◌, List, [], ◌∷◌, ◌++◌, true, false, length, set, drop, leb, Result, Ok, Err}
use Rattle.answers.specs.Outcome.{Outcome, status, given}
use Rattle.calls.specs.declared.Call.{Call}
use Rattle.calls.specs.Calls.{call_of}
use Rattle.batch.specs.declared.Stopped.{Stopped}
use Rattle.batch.specs.declared.Stopped.TheVariants as stopped
use Rattle.batch.specs.Program.{Program, ended, malformed, then, program_of, program_of_calls, program_words}

-- An answer as three words, written at place k: 0 or the refusal's number, then the numbers given, 0 where there are fewer.
abbrev pub written : List ℕ → ℕ → Outcome → List ℕ
written out k o = set (set (set out (3 * k) (status o)) (3 * k + 1) (given o 0 0)) (3 * k + 2) (given o 1 0)

-- Runs the calls from place k on. It ends with the number of calls that ran: at the end of the list, at an entry that is no call, or at a call
-- for whose answer there is no room. Later answer words stay.
unfoldable pub run_from : ℕ → Program → List ℕ → List ℕ → Result ℕ Stopped × List ℕ × List ℕ
run_from k ended w out = (Ok k, w, out)
run_from k malformed w out = (Err (stopped.Malformed k), w, out)
run_from k (then c rest) w out =
    elim (leb (3 * k + 3) (length out)) [
      | true ↦ run_from (suc k) rest (call_of c w).1 (written out k (call_of c w).0)
      | false ↦ (Err (stopped.NoRoom k), w, out)
    ]

-- What `batch::run` answers and leaves: the calls that `list` holds run on the pool w, and their answers are written to `out`.
abbrev pub run_of : List ℕ → List ℕ → List ℕ → Result ℕ Stopped × List ℕ × List ℕ
run_of list w out = run_from 0 (program_of list) w out

-- The answers of a list of calls: "each call gets what the one before it left, refused or not".
unfoldable pub answers_of : List Call → List ℕ → List Outcome
answers_of [] w = []
answers_of (c ∷ cs) w = (call_of c w).0 ∷ answers_of cs (call_of c w).1

-- The words that the last of them leaves.
unfoldable pub after_all : List Call → List ℕ → List ℕ
after_all [] w = w
after_all (c ∷ cs) w = after_all cs (call_of c w).1

-- The words of answers, three each.
unfoldable pub answer_words : List Outcome → List ℕ
answer_words [] = []
answer_words (o ∷ os) = status o ∷ given o 0 0 ∷ given o 1 0 ∷ answer_words os

-- A list that holds the calls cs, with room for their answers: all of them run, one after the other, and the answers written are theirs.
abbrev pub RunsOneAfterTheOther : Type 0
RunsOneAfterTheOther =
    (list : List ℕ) (cs : List Call) (w out : List ℕ) → program_of list ≡ program_of_calls cs → 3 * length cs ≤ length out
    → run_of list w out ≡ (Ok (length cs), after_all cs w, answer_words (answers_of cs w) ++ drop (3 * length cs) out)

-- Every list of calls has words that hold it.
abbrev pub EveryListHasWords : Type 0
EveryListHasWords = (cs : List Call) → program_of (program_words cs) ≡ program_of_calls cs
