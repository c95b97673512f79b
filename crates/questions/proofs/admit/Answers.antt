-- `questions::admit` meets its contract: the answers to the two questions decide the definition's.
use mathlib.Core.Path.{sym, ◌∙◌}
use Rattle.questions.proofs.admit.Goals as goal

pub returns-then-are_registers : goal.returns-then-are_registers
returns-then-are_registers c = rw (sym c.sized.ensures ∙ c.in_ok-n.was, sym c.are_registers.ensures ∙ c.if-are_registers.true)

pub returns-else-are_registers : goal.returns-else-are_registers
returns-else-are_registers c = rw (sym c.sized.ensures ∙ c.in_ok-n.was, sym c.are_registers.ensures ∙ c.if-are_registers.false)
