-- `cellpool::cellpool_copy` meets its contract: the call's answer, as a status.
use Rattle.cellpool.proofs.Answered.{giving_none_made}
use Rattle.cellpool.proofs.cellpool_copy.Goals as goal

pub returns : goal.returns
returns c = giving_none_made _ _ _ c.copy.ensures _ c.status.ensures
