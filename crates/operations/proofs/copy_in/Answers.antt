-- `operations::copy_in` meets its contract: the read is taken apart before the write.
use Rattle.questions.proofs.RegisterLinks.{holds, holds_none}
use Rattle.operations.proofs.Bodies.{copied}
use Rattle.operations.proofs.copy_in.Goals as goal

pub returns-in_default : goal.returns-in_default
returns-in_default c = simp (holds_none _ _ _ c.read_link.ensures c.in_default.is)

pub returns : goal.returns
returns c = copied _ _ (holds _ _ _ c.read_link.ensures c.in-Ok.is) _ c.write_register.ensures
