use Rattle.pool.specs.Layout.{register_count}
use Rattle.stack_check.proofs.Descending.{Down}
use Rattle.stack_check.proofs.walk_entries.Given as goal

abbrev pub invariant-loop-i : goal.invariant-loop-i
invariant-loop-i l = Down register_count l.n l.initial.words l.initial.stack l.words l.stack l.i
