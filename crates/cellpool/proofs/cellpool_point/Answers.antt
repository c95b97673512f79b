-- `cellpool::cellpool_point` meets its contract: the call's answer, as a status and a lent number.
use Rattle.cellpool.proofs.Answered.{giving_made}
use Rattle.cellpool.proofs.cellpool_point.Goals as goal

pub returns : goal.returns
returns c = giving_made _ _ _ c.point.ensures _ _ _ c.store.ensures
