-- `cellpool::cellpool_worst_case` meets its contract: what the builder answers, as a status and a lent number.
use Rattle.cellpool.proofs.Answered.{giving_made}
use Rattle.cellpool.proofs.cellpool_worst_case.Goals as goal

pub returns : goal.returns
returns c = giving_made _ _ _ c.worst_case.ensures _ _ _ c.store.ensures
