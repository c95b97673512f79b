-- `recursive_marker::mark` meets its contract: the loop makes the visits of the registers' links (`Marking`), from the first to the last.
use native.Mathlib.Omega.{arith}
use Rattle.recursive_marker.proofs.Registers.{marking_first, marking_visit, marking_next, marking_last}
use Rattle.recursive_marker.proofs.mark.Goals as goal

pub loop-k-init : goal.loop-k-init
loop-k-init c = marking_first _ _ _ c.requires.0 c.requires.1

pub visit-visits-requires : goal.visit-visits-requires
visit-visits-requires c = marking_visit _ _ _ c.requires.0 c.requires.1 _ _ _ _ _ c.loop-k.invariant c.loop-k-test.true c.read_register-p.ensures (omega (arith, c.requires.2)) (omega (arith, c.requires.2))

pub loop-k-preserved : goal.loop-k-preserved
loop-k-preserved c = marking_next _ _ _ c.requires.0 c.requires.1 _ _ _ _ _ c.loop-k.invariant c.loop-k-test.true c.read_register-p.ensures (omega (arith, c.requires.2)) (omega (arith, c.requires.2)) _ _ c.visit-visits.ensures

pub returns : goal.returns
returns c = marking_last _ _ _ c.requires.0 c.requires.1 _ _ _ c.loop-k.invariant c.loop-k-test.false
