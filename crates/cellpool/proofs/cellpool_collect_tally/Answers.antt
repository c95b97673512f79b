-- `cellpool::cellpool_collect_tally` meets its contract: accepted, the collection's numbers and the tally after it; refused, all lent numbers stay.
use Rattle.cellpool.proofs.Answered.{tally_advanced, tally-left}
use Rattle.cellpool.proofs.cellpool_collect_tally.Goals as goal

pub returns-then-status-ne0 : goal.returns-then-status-ne0
returns-then-status-ne0 c = tally-left _ _ _ _ c.collect-answer.ensures _ _ _ c.status-status.ensures c.if-status-ne0.true

pub returns : goal.returns
returns c = tally_advanced _ _ (record { collections = c.args.collections.now; visits = c.args.total_visits.now }) _ c.collect-answer.ensures _ _ _ _ c.after-after.ensures _ _ c.store_two.ensures
