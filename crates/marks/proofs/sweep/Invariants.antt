use Rattle.pool.specs.Layout.{register_count}
use Rattle.marks.proofs.Turns.{Turn}
use Rattle.marks.proofs.sweep.Given as goal

abbrev pub invariant-loop-i : goal.invariant-loop-i
invariant-loop-i l = Turn register_count l.n l.initial.words l.words l.i l.next l.freed
