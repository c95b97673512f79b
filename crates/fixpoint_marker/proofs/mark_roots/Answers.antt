-- `fixpoint_marker::mark_roots` meets its contract: the links of the registers below k are marked (`Started`).
use native.Mathlib.Omega.{arith}
use Rattle.fixpoint_marker.proofs.Passes.{started_more}
use Rattle.fixpoint_marker.proofs.mark_roots.Goals as goal

pub loop-k-preserved : goal.loop-k-preserved
loop-k-preserved c = started_more _ _ _ (omega arith) c.read_register.ensures c.loop-k.invariant c.mark_link.ensures
