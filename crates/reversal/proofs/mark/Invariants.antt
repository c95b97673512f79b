use Rattle.pool.specs.Layout.{register_count}
use Rattle.reversal.proofs.RootLoop.{Marking}
use Rattle.reversal.proofs.mark.Given as goal

abbrev pub invariant-loop-k : goal.invariant-loop-k
invariant-loop-k l = Marking register_count l.n l.initial.words l.words l.visits l.k
