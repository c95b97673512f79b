-- "no call ever changes the e words at the end" (02, S-6): of every operation, on every list of words; and that no answer depends on them.
use Rattle.std.specs.Prelude.{ℕ, ◌≡◌, List, ◌++◌, length, take}
use Rattle.pool.specs.Layout.{register_count, pool_length, cell_count_of_length, leftover_words}
use Rattle.pool.specs.Fresh.{fresh_of}
use Rattle.recursive_marker.specs.Recursive.{recursive_of}
use Rattle.stack_marker.specs.StackCollect.{stack_of}
use Rattle.worst_case.specs.WorstCase.{worst_case_of}
use Rattle.tally.specs.declared.Tally.{Tally}
use Rattle.tally.specs.TallyOf.{tally_of}
use Rattle.calls.specs.declared.Call.{Call}
use Rattle.calls.specs.Calls.{call_of}
use Rattle.batch.specs.Run.{run_of}
use Rattle.load.specs.Load.{load_of}
use Rattle.save.specs.Save.{save_of}

-- Every operation that is lent the words of a pool for writing: fresh; each of the fourteen calls, collect among them; the other forms of collect, with the
-- tally, with the stack and recursive; the builder of S-3; load of some bytes; and a run of a list of calls, its answers written to `out`. Save is lent the
-- words only for reading.
pub data Operation : Type 0 where
  fresh : Operation
  call : Call → Operation
  collect_tally : Tally → Operation
  collect_stack : List ℕ → Operation
  collect_recursive : Operation
  worst_case : Operation
  load : List ℕ → Operation
  run : List ℕ → List ℕ → Operation

-- The words that it leaves, by its contract.
abbrev pub words_after : Operation → List ℕ → List ℕ
words_after fresh w = (fresh_of w).1
words_after (call c) w = (call_of c w).1
words_after (collect_tally tally) w = (tally_of w tally).1
words_after (collect_stack stack) w = (stack_of w stack).1
words_after collect_recursive w = (recursive_of w).1
words_after worst_case w = (worst_case_of w).1
words_after (load bytes) w = (load_of w bytes).1
words_after (run list out) w = (run_of list w out).1

-- The words behind the cells are the same afterwards, accepted or refused, whatever the words hold. (There are as many words as before.)
abbrev pub LeftoversStay : Type 0
LeftoversStay =
    (o : Operation) (w : List ℕ) → (length (words_after o w) ≡ length w) × (leftover_words register_count (words_after o w) ≡ leftover_words register_count w)

-- The words of a pool without those behind its cells. (Of a length that no pool has, those before the first cell's word.)
abbrev pub without_leftover : List ℕ → List ℕ
without_leftover w = take (pool_length register_count (cell_count_of_length register_count (length w))) w

-- What an operation says and the words that it leaves, with others behind them.
abbrev pub and_behind : {A : Type 0} → A × List ℕ → List ℕ → A × List ℕ
and_behind end behind = (end.0, end.1 ++ behind)

-- The same of an operation that is lent a second block: a tally, a stack, or words for answers.
abbrev pub and_behind_first : {A B : Type 0} → A × List ℕ × B → List ℕ → A × List ℕ × B
and_behind_first end behind = (end.0, end.1 ++ behind, end.2)

-- Every operation does to the words w of a pool what it does to the words `own` without those `behind` its cells: it says the same, leaves the same words, and
-- those behind them as they were, and leaves the same in whatever else is lent. (Fresh leaves the same words, but says another e.) So a save of a pool with
-- leftovers is the save without them, and a load into longer words leaves those at the end.
pub record AsWithout (w own behind : List ℕ) : Type 0 where
  pub fresh : (fresh_of w).1 ≡ (fresh_of own).1 ++ behind
  pub call : (c : Call) → call_of c w ≡ and_behind (call_of c own) behind
  pub tally : (tally : Tally) → tally_of w tally ≡ and_behind_first (tally_of own tally) behind
  pub stack : (stack : List ℕ) → stack_of w stack ≡ and_behind_first (stack_of own stack) behind
  pub recursive : recursive_of w ≡ and_behind (recursive_of own) behind
  pub worst_case_behind : worst_case_of w ≡ and_behind (worst_case_of own) behind
  pub load : (bytes : List ℕ) → load_of w bytes ≡ and_behind (load_of own bytes) behind
  pub save : (scratch out : List ℕ) → save_of w scratch out ≡ save_of own scratch out
  pub run : (list out : List ℕ) → run_of list w out ≡ and_behind_first (run_of list own out) behind

-- So nothing that is answered or left depends on the words behind the cells, whatever the words hold.
abbrev pub LeftoversUnseen : Type 0
LeftoversUnseen = (w : List ℕ) → AsWithout w (without_leftover w) (leftover_words register_count w)
