-- `cellpool::cellpool_collect_recursive` meets its contract: the collection's answer, as a status and two lent numbers.
use Rattle.cellpool.proofs.Answered.{giving_two_made}
use Rattle.cellpool.proofs.cellpool_collect_recursive.Goals as goal

pub returns : goal.returns
returns c = giving_two_made _ _ _ c.collect_recursive.ensures _ _ _ _ _ c.store_two.ensures
