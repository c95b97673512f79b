-- `fixpoint_marker::mark_link` meets its contract: a cell that was not marked is, and nothing else changes.
use native.Mathlib.Omega.{arith}
use Rattle.fixpoint_marker.proofs.Passes.{linked-set}
use Rattle.fixpoint_marker.proofs.mark_link.Goals as goal

pub returns-then-marks-x-eq0 : goal.returns-then-marks-x-eq0
returns-then-marks-x-eq0 c = linked-set _ (omega arith) (omega arith) c.requires (omega arith)
