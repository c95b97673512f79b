-- A list of words that holds calls and nothing else, with room for their answers: the calls run one after the other, and each answer is written.
use Rattle.std.proofs.Common.{Ok}
use Prim.Native.Nat.{ℕ, zero, suc, ◌+◌, ◌*◌, ◌≤◌}
use native.Mathlib.Omega.{arith}
use native.Mathlib.Nat.{add-zero, zero-add}
use mathlib.Core.Path.{◌≡◌, refl, ap}
use mathlib.Core.List.{List, [], ◌∷◌, ◌++◌, append_assoc}
use lib.ListN.{length, set, drop, length-append}
use borrow.Author.Tests.{le-leb}
use Rattle.answers.specs.Outcome.{Outcome, status, given}
use Rattle.calls.specs.declared.Call.{Call}
use Rattle.calls.specs.declared.Call.TheVariants as call
use Rattle.calls.specs.Calls.{call_of}
use Rattle.batch.specs.declared.Stopped.TheVariants as stopped
use Rattle.batch.specs.Program.{then, program_of, program_of_calls, program_words}
use Rattle.batch.specs.Run.{written, run_from, answers_of, after_all, answer_words, RunsOneAfterTheOther, EveryListHasWords}

pub every-list_has_words : EveryListHasWords
unfolding program_of program_words program_of_calls
every-list_has_words [] = refl
every-list_has_words (call.Copy r a ∷ cs) = ap (then (call.Copy r a)) (every-list_has_words cs)
every-list_has_words (call.Clear r ∷ cs) = ap (then (call.Clear r)) (every-list_has_words cs)
every-list_has_words (call.New r a b v ∷ cs) = ap (then (call.New r a b v)) (every-list_has_words cs)
every-list_has_words (call.Left r a ∷ cs) = ap (then (call.Left r a)) (every-list_has_words cs)
every-list_has_words (call.Right r a ∷ cs) = ap (then (call.Right r a)) (every-list_has_words cs)
every-list_has_words (call.SetLeft a b ∷ cs) = ap (then (call.SetLeft a b)) (every-list_has_words cs)
every-list_has_words (call.SetRight a b ∷ cs) = ap (then (call.SetRight a b)) (every-list_has_words cs)
every-list_has_words (call.SetValue a v ∷ cs) = ap (then (call.SetValue a v)) (every-list_has_words cs)
every-list_has_words (call.Value a ∷ cs) = ap (then (call.Value a)) (every-list_has_words cs)
every-list_has_words (call.Same a b ∷ cs) = ap (then (call.Same a b)) (every-list_has_words cs)
every-list_has_words (call.Collect ∷ cs) = ap (then call.Collect) (every-list_has_words cs)
every-list_has_words (call.Point r v x y ∷ cs) = ap (then (call.Point r v x y)) (every-list_has_words cs)
every-list_has_words (call.East a ∷ cs) = ap (then (call.East a)) (every-list_has_words cs)
every-list_has_words (call.North a ∷ cs) = ap (then (call.North a)) (every-list_has_words cs)

-- a store behind a front
set-behind : (front back : List ℕ) (n i v : ℕ) → n ≡ length front + i → set (front ++ back) n v ≡ front ++ set back i v
set-behind [] back n i v e = let same : n ≡ i = omega arith in rw same
set-behind (x ∷ front) back zero i v e = absurd (omega arith)
set-behind (x ∷ front) back (suc n) i v e = ap (λ (l : List ℕ). x ∷ l) (set-behind front back n i v (omega arith))

-- the three words of an answer, written behind those of the answers before
written_next : (front : List ℕ) (x y z : ℕ) (back : List ℕ) (k : ℕ) → length front ≡ 3 * k → (o : Outcome)
    → written (front ++ x ∷ y ∷ z ∷ back) k o ≡ front ++ status o ∷ given o 0 0 ∷ given o 1 0 ∷ back
written_next front x y z back k e o =
    rw (
      set-behind front (x ∷ y ∷ z ∷ back) (3 * k) 0 (status o) (omega arith),
      set-behind front (status o ∷ y ∷ z ∷ back) (3 * k + 1) 1 (given o 0 0) (omega arith),
      set-behind front (status o ∷ given o 0 0 ∷ z ∷ back) (3 * k + 2) 2 (given o 1 0) (omega arith),
    )

-- the run of the calls cs behind k others, whose answers are the words in front
from : (cs : List Call) (k : ℕ) (w front back : List ℕ) → length front ≡ 3 * k → 3 * length cs ≤ length back
    → run_from k (program_of_calls cs) w (front ++ back) ≡ (Ok (k + length cs), after_all cs w, front ++ (answer_words (answers_of cs w) ++ drop (3 * length cs) back))
unfolding run_from program_of_calls after_all answers_of answer_words
from [] k w front back e room = rw add-zero
from (c ∷ cs) k w front [] e room = absurd (omega arith)
from (c ∷ cs) k w front (x ∷ []) e room = absurd (omega arith)
from (c ∷ cs) k w front (x ∷ y ∷ []) e room = absurd (omega arith)
from (c ∷ cs) k w front (x ∷ y ∷ z ∷ back) e room =
    let p = call_of c w in
    let three = status p.0 ∷ given p.0 0 0 ∷ given p.0 1 0 ∷ [] in
    let place : k + suc (length cs) ≡ suc k + length cs = omega arith in
    let behind : 3 * suc (length cs) ≡ suc (suc (suc (3 * length cs))) = omega arith in
    let fits : 3 * k + 3 ≤ length (front ++ x ∷ y ∷ z ∷ back) = simp length-append (omega arith) in
    rw (
      run_from,
      le-leb (3 * k + 3) (length (front ++ x ∷ y ∷ z ∷ back)) fits,
      written_next front x y z back k e p.0,
      place,
      behind,
      ← append_assoc front three back,
      ← append_assoc front three (answer_words (answers_of cs p.1) ++ drop (3 * length cs) back),
    ) (from cs (suc k) p.1 (front ++ three) back (simp length-append (omega arith)) (omega arith))

pub runs-one_after_the_other : RunsOneAfterTheOther
runs-one_after_the_other list cs w out holds room = rw holds (simp zero-add at (from cs 0 w [] out refl room))

-- each answer has three words
pub words-length : (cs : List Call) (w : List ℕ) → length (answer_words (answers_of cs w)) ≡ 3 * length cs
unfolding answers_of answer_words
words-length [] w = refl
words-length (c ∷ cs) w = omega (arith, words-length cs (call_of c w).1)
