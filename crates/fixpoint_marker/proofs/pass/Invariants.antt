use Rattle.fixpoint_marker.proofs.Passes.{Passed}
use Rattle.fixpoint_marker.proofs.pass.Given as goal

abbrev pub invariant-loop-i : goal.invariant-loop-i
invariant-loop-i l = Passed l.n l.words l.initial.marks l.marks l.found l.i
