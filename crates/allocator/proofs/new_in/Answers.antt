-- `allocator::new_in` meets its contract: both registers are read first.
use Rattle.questions.proofs.RegisterLinks.{holds, holds_none}
use Rattle.allocator.proofs.Allocation.{new_malformed, new_made}
use Rattle.allocator.proofs.new_in.Goals as goal

pub returns-in_default : goal.returns-in_default
returns-in_default c = simp (holds_none _ _ _ c.read_link.ensures c.in_default.is)

pub returns-in_default-read_link : goal.returns-in_default-read_link
returns-in_default-read_link c = new_malformed _ _ (holds _ _ _ c.read_link.ensures c.in-Ok.is) _ _ _ (holds_none _ _ _ c.read_link-2.ensures c.in_default-read_link.is)

pub returns : goal.returns
returns c =
    new_made c.args.n c.args.words.now (holds _ _ _ c.read_link.ensures c.in-Ok.is) c.args.r c.args.v (holds _ _ _ c.read_link-2.ensures c.in-Ok-read_link.is)
    c.allocate_in.ensures
