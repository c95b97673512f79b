-- `operations::held_cell` meets its contract: the read is taken apart, and then the link.
use Rattle.questions.proofs.RegisterLinks.{holds, holds_none}
use Rattle.operations.proofs.Bodies.{held-nil, held-cell}
use Rattle.operations.proofs.held_cell.Goals as goal

pub returns-in_default : goal.returns-in_default
returns-in_default c = simp (holds_none _ _ _ c.read_link.ensures c.in_default.is)

pub returns-then-x-eq0 : goal.returns-then-x-eq0
returns-then-x-eq0 c = held-nil _ _ (holds _ _ _ c.read_link.ensures c.in-Ok.is) c.if-x-eq0.true

pub returns : goal.returns
returns c = held-cell _ _ (holds _ _ _ c.read_link.ensures c.in-Ok.is) c.if-x-eq0.false
