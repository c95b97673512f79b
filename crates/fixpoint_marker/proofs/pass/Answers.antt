-- `fixpoint_marker::pass` meets its contract: the cells above i are closed, where nothing was newly marked (`Passed`).
use native.Mathlib.Omega.{arith}
use Rattle.fixpoint_marker.proofs.Passes.{passed_more, grown_fits}
use Rattle.fixpoint_marker.proofs.pass.Goals as goal

pub overflow_add-found : goal.overflow_add-found
overflow_add-found c = omega (arith, grown_fits _ _ (passed_more _ _ _ c.loop-i-test.true c.loop-i.invariant c.mark_links-found.ensures).grown)
