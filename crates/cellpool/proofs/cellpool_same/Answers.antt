-- `cellpool::cellpool_same` meets its contract: the call's answer, as a status and a lent number.
use Rattle.cellpool.proofs.Answered.{giving_made}
use Rattle.cellpool.proofs.cellpool_same.Goals as goal

pub returns : goal.returns
returns c = giving_made _ _ _ c.same.ensures _ _ _ c.store.ensures
