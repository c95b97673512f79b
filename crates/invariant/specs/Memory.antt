-- Memory over a long plan: when `new` and `point` are refused.
use Rattle.std.specs.Prelude.{ℕ, ◌≤◌, ◌<◌, ◌≡◌, ◌↔◌, List, true, length}
use Rattle.answers.specs.Outcome.{Outcome, refused}
use Rattle.pool.specs.Layout.{register_count}
use Rattle.pool.specs.Lengths.{LengthOf}
use Rattle.pool.specs.Retain.{fresh_words}
use Rattle.questions.specs.Questions.{are_registers}
use Rattle.collector.specs.CollectTheorem.{Reached}
use Rattle.calls.specs.declared.Call.{Call}
use Rattle.calls.specs.Calls.{registers_of, allocates, call_of}
use Rattle.batch.specs.Run.{after_all}

-- The registers reach every one of the n cells.
abbrev pub AllReached : ℕ → List ℕ → Type 0
AllReached n w = (i : ℕ) → 0 < i → i ≤ n → Reached w i

-- What a call that allocates a cell says on the pool w of n cells: refused with 5 exactly when the registers reach all n cells, and never refused otherwise.
pub record FullOnly (n : ℕ) (w : List ℕ) (said : Outcome) : Type 0 where
  pub full : (said ≡ refused 5) ↔ AllReached n w
  pub only : (k : ℕ) → said ≡ refused k → k ≡ 5

-- So does every "new" and every "point" with valid registers, on every pool that a list of calls leads to from fresh words.
abbrev pub RefusedWhenFull : Type 0
RefusedWhenFull =
    (N e : ℕ) (lent : List ℕ) (calls : List Call) (c : Call) → LengthOf register_count N e (length lent) → allocates c ≡ true → are_registers (registers_of c) ≡ true
    → let w = after_all calls (fresh_words register_count N lent) in
    FullOnly N w (call_of c w).0
