-- `marks::unmark_cell` meets its contract: the state that is read is that of a marked one.
use Rattle.pool.specs.Layout.{register_count}
use Rattle.marks.proofs.Marking.{unmark_made}
use Rattle.marks.proofs.unmark_cell.Goals as goal

pub returns : goal.returns
returns c = unmark_made register_count _ _ c.read_cell-marked.ensures c.write_cell.ensures c.requires.2
