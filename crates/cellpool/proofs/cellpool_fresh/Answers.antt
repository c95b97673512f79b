-- `cellpool::cellpool_fresh` meets its contract: what fresh answers, as a status and two lent numbers.
use Rattle.cellpool.proofs.Answered.{giving_two_made}
use Rattle.cellpool.proofs.cellpool_fresh.Goals as goal

pub returns : goal.returns
returns c = giving_two_made _ _ _ c.fresh.ensures _ _ _ _ _ c.store_two.ensures
