-- `cellpool::cellpool_value` meets its contract: the call's answer, as a status and a lent number.
use Rattle.cellpool.proofs.Answered.{giving_made}
use Rattle.cellpool.proofs.cellpool_value.Goals as goal

pub returns : goal.returns
returns c = giving_made _ _ _ c.value.ensures _ _ _ c.store.ensures
