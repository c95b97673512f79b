-- `stack_check::close_gaps` meets its contract: each turn passes over a gap, or moves an entry down (`Closing`).
use Rattle.stack_check.proofs.Entries.{closing_first, closing_gap, closing_entry}
use Rattle.stack_check.proofs.close_gaps.Goals as goal
use Rattle.stack_check.proofs.close_gaps.Goals.{then-entry-ne0, else-entry-ne0}

pub loop-i-init : goal.loop-i-init
loop-i-init c = closing_first _

pub loop-i-preserved : goal.loop-i-preserved
loop-i-preserved c = elim c.if-entry-ne0.branch [
  | then-entry-ne0 w ↦ rw (w.stack-is, w.kept-is) (closing_entry c.loop-i.invariant c.loop-i-test.true w.if-entry-ne0.true)
  | else-entry-ne0 w ↦ rw (w.stack-is, w.kept-is) (closing_gap c.loop-i.invariant c.loop-i-test.true w.if-entry-ne0.false)
]
