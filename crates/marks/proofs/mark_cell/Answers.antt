-- `marks::mark_cell` meets its contract: the state that is read is that of a used cell.
use Rattle.pool.specs.Layout.{register_count}
use Rattle.marks.proofs.Marking.{mark_made}
use Rattle.marks.proofs.mark_cell.Goals as goal

pub returns : goal.returns
returns c = mark_made register_count _ _ c.read_cell-used.ensures c.write_cell.ensures c.requires.2
