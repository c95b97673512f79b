-- `cellpool::cellpool_left` meets its contract: the call's answer, as a status.
use Rattle.cellpool.proofs.Answered.{giving_none_made}
use Rattle.cellpool.proofs.cellpool_left.Goals as goal

pub returns : goal.returns
returns c = giving_none_made _ _ _ c.left.ensures _ c.status.ensures
