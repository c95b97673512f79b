use Rattle.fixpoint_marker.proofs.Passes.{Started}
use Rattle.fixpoint_marker.proofs.mark_roots.Given as goal

abbrev pub invariant-loop-k : goal.invariant-loop-k
invariant-loop-k l = Started l.n l.words l.initial.marks l.marks l.k
