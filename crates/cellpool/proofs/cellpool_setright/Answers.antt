-- `cellpool::cellpool_setright` meets its contract: the call's answer, as a status.
use Rattle.cellpool.proofs.Answered.{giving_none_made}
use Rattle.cellpool.proofs.cellpool_setright.Goals as goal

pub returns : goal.returns
returns c = giving_none_made _ _ _ c.set_right.ensures _ c.status.ensures
