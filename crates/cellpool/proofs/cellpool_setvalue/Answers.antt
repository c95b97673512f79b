-- `cellpool::cellpool_setvalue` meets its contract: the call's answer, as a status.
use Rattle.cellpool.proofs.Answered.{giving_none_made}
use Rattle.cellpool.proofs.cellpool_setvalue.Goals as goal

pub returns : goal.returns
returns c = giving_none_made _ _ _ c.set_value.ensures _ c.status.ensures
