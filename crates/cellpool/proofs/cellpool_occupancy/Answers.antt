-- `cellpool::cellpool_occupancy` meets its contract: what occupancy answers, as a status and a lent number.
use mathlib.Core.Path.{◌∙◌}
use Rattle.cellpool.proofs.cellpool_occupancy.Goals as goal

pub returns : goal.returns
returns c = c.store.ensures ∙ simp c.occupancy.ensures
