-- `bounded_stack::clear_marks` meets its contract: the turns that are left clear the same cells.
use mathlib.Core.Path.{sym, ◌∙◌}
use Rattle.bounded_stack.proofs.Cleared.{cleared-none, cleared-marked, cleared_other}
use Rattle.bounded_stack.proofs.clear_marks.Goals as goal

pub loop-i-preserved-then-is_marked : goal.loop-i-preserved-then-is_marked
loop-i-preserved-then-is_marked c = cleared-marked _ _ _ _ _ c.loop-i-test.true c.read_cell.ensures (sym c.is_marked.ensures ∙ c.if-is_marked.true) c.unmark_cell.ensures ∙ c.loop-i.invariant

pub loop-i-preserved : goal.loop-i-preserved
loop-i-preserved c = cleared_other _ _ _ _ c.loop-i-test.true c.read_cell.ensures (sym c.is_marked.ensures ∙ c.if-is_marked.false) ∙ c.loop-i.invariant

pub returns : goal.returns
returns c = sym (cleared-none _ _ _ c.loop-i-test.false) ∙ c.loop-i.invariant
