-- `fixpoint_marker::mark` meets its contract. The measure is the number of unmarked cells.
use native.Mathlib.Omega.{arith}
use Rattle.fixpoint_marker.proofs.Passes.{exact, grown_fits}
use Rattle.fixpoint_marker.proofs.mark.Goals as goal

pub loop-smaller : goal.loop-smaller
loop-smaller c = omega (arith, grown_fits _ _ c.pass.ensures.grown, c.pass.ensures.grown.count)

pub returns : goal.returns
returns c = exact _ _ c.pass.ensures.grown c.loop.invariant.0 c.loop.invariant.1 (c.pass.ensures.closed (omega arith))
