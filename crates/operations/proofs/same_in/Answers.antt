-- `operations::same_in` meets its contract.
use Rattle.questions.proofs.RegisterLinks.{holds, holds_none}
use Rattle.operations.proofs.Bodies.{same-malformed, same_told}
use Rattle.operations.proofs.same_in.Goals as goal

pub returns-in_default : goal.returns-in_default
returns-in_default c = simp (holds_none _ _ _ c.read_link.ensures c.in_default.is)

pub returns-in_default-read_link : goal.returns-in_default-read_link
returns-in_default-read_link c = same-malformed _ _ (holds _ _ _ c.read_link.ensures c.in-Ok.is) _ (holds_none _ _ _ c.read_link-2.ensures c.in_default-read_link.is)

pub returns : goal.returns
returns c = same_told _ _ (holds _ _ _ c.read_link.ensures c.in-Ok.is) (holds _ _ _ c.read_link-2.ensures c.in-Ok-read_link.is) c.from.ensures
