-- `allocator::take_head` meets its contract: the reads, then the writes, one after the other.
use Rattle.allocator.proofs.Allocation.{taken}
use Rattle.allocator.proofs.take_head.Goals as goal

pub returns : goal.returns
returns c = taken _ _ _ _ _ _ c.read_head-i.ensures c.read_cell-next.ensures c.put_cell.ensures c.write_head.ensures c.write_register.ensures
