-- `allocator::allocate_in` meets its contract: the head decides.
use Rattle.allocator.proofs.Allocation.{allocate_collected, allocate_free}
use Rattle.allocator.proofs.allocate_in.Goals as goal

pub returns-then-read_head-eq0 : goal.returns-then-read_head-eq0
returns-then-read_head-eq0 c = allocate_collected _ _ _ _ _ _ _ c.read_head.ensures c.if-read_head-eq0.true c.take_collected.ensures

pub returns-else-read_head-eq0 : goal.returns-else-read_head-eq0
returns-else-read_head-eq0 c = allocate_free _ _ _ _ _ _ _ c.read_head.ensures c.if-read_head-eq0.false c.take_free.ensures
