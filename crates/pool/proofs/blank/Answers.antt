-- `pool::blank` meets its contract: the pool's words are cleared, and n goes to word 0.
use Rattle.pool.proofs.FreshPool.{blank_made}
use Rattle.pool.proofs.blank.Goals as goal

pub returns : goal.returns
returns c = blank_made _ _ _ c.requires c.clear.ensures
