-- `operations::clear_in` meets its contract: one write.
use Rattle.operations.proofs.clear_in.Goals as goal

pub returns : goal.returns
returns c = simp c.write_register.ensures
