use Rattle.stack_check.proofs.Entries.{Closing}
use Rattle.stack_check.proofs.close_gaps.Given as goal

abbrev pub invariant-loop-i : goal.invariant-loop-i
invariant-loop-i l = Closing l.initial.stack l.stack l.kept l.i
