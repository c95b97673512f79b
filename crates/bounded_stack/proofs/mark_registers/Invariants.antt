use Rattle.pool.specs.Layout.{register_count}
use Rattle.bounded_stack.proofs.RootLoop.{Registers}
use Rattle.bounded_stack.proofs.mark_registers.Given as goal

abbrev pub invariant-loop-k : goal.invariant-loop-k
invariant-loop-k l = Registers register_count l.n l.initial.words l.initial.stack l.words l.stack l.checks l.k
