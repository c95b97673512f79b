-- `cellpool::cellpool_right` meets its contract: the call's answer, as a status.
use Rattle.cellpool.proofs.Answered.{giving_none_made}
use Rattle.cellpool.proofs.cellpool_right.Goals as goal

pub returns : goal.returns
returns c = giving_none_made _ _ _ c.right.ensures _ c.status.ensures
