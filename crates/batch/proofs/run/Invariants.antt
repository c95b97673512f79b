use Rattle.batch.proofs.Loop.{Running}
use Rattle.batch.proofs.run.Given as goal

abbrev pub invariant-loop-k : goal.invariant-loop-k
invariant-loop-k l = Running l.list l.initial.words l.initial.answers l.words l.answers l.k
