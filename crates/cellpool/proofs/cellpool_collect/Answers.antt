-- `cellpool::cellpool_collect` meets its contract: the call's answer, as a status and two lent numbers.
use Rattle.cellpool.proofs.Answered.{giving_two_made}
use Rattle.cellpool.proofs.cellpool_collect.Goals as goal

pub returns : goal.returns
returns c = giving_two_made _ _ _ c.collect.ensures _ _ _ _ _ c.store_two.ensures
