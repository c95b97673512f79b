-- `cellpool::cellpool_collect_stack` meets its contract: the collection's answer, as a status and three lent numbers.
use mathlib.Core.Path.{refl, ◌∙◌}
use Rattle.answers.proofs.Flags.{flag_number}
use Rattle.cellpool.proofs.Answered.{stack_made}
use Rattle.cellpool.proofs.cellpool_collect_stack.Goals as goal

pub returns-in-Ok : goal.returns-in-Ok
returns-in-Ok c = stack_made _ _ _ _ c.collect_stack.ensures c.in-Ok.is _ _ _ _ _ _ _ refl refl (c.from.ensures ∙ flag_number c.in-Ok.made.enough) refl

pub returns-in-Err : goal.returns-in-Err
returns-in-Err c = stack_made _ _ _ _ c.collect_stack.ensures c.in-Err.is _ _ _ _ _ _ _ c.number.ensures refl refl refl
