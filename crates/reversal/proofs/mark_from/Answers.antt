-- `reversal::mark_from` meets its contract: every turn of the loop leads on to the end of the run (`Leads`) and is counted, and the count has an end.
use native.Mathlib.Numerals.{add-one}
use Rattle.reversal.proofs.RunLoop.{leads_here, leads_last, turn_leads, turn_less}
use Rattle.reversal.proofs.mark_from.Goals as goal

pub loop-m-init : goal.loop-m-init
loop-m-init c = rw (add-one c.args.n) (leads_here _ _ _)

pub loop-m-preserved : goal.loop-m-preserved
loop-m-preserved c = turn_leads _ c.turn-m.ensures c.loop-m.invariant c.loop-m-test.true

pub loop-m-smaller : goal.loop-m-smaller
loop-m-smaller c = turn_less _ c.turn-m.ensures c.loop-m.invariant c.loop-m-test.true c.requires.0

pub returns : goal.returns
returns c = leads_last _ _ c.loop-m.invariant c.loop-m-test.false
