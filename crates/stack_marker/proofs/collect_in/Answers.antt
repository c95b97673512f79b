-- `stack_marker::collect_in` meets its contract: a well-formed pool is marked and swept, and any other is refused.
use mathlib.Core.Path.{sym, ◌∙◌}
use Rattle.stack_marker.proofs.StackSweep.{stack_made}
use Rattle.stack_marker.proofs.collect_in.Goals as goal

pub returns-then-well_formed : goal.returns-then-well_formed
returns-then-well_formed c = stack_made _ _ c.args.stack.now _ c.mark-marking.new.stack _ _ _ _ _ (sym c.well_formed-2.ensures ∙ c.if-well_formed.true) c.requires.0 c.mark-marking.ensures c.mark-marking.auto.stack c.sweep-kept.ensures c.clear.ensures
