-- `allocator::take_free` meets its contract: whether the head may be taken decides.
use native.Mathlib.Omega.{arith}
use mathlib.Core.Path.{sym, ◌∙◌}
use Rattle.allocator.proofs.Allocation.{good_bound}
use Rattle.allocator.proofs.take_free.Goals as goal

pub take_head-requires : goal.take_head-requires
take_head-requires c = omega (arith, good_bound _ _ (sym c.good_head.ensures ∙ c.if-good_head.true))

pub returns-then-good_head : goal.returns-then-good_head
returns-then-good_head c = simp (sym c.good_head.ensures ∙ c.if-good_head.true, c.take_head.ensures)

pub returns-else-good_head : goal.returns-else-good_head
returns-else-good_head c = simp (sym c.good_head.ensures ∙ c.if-good_head.false)
