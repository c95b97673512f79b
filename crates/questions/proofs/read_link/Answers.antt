-- `questions::read_link` meets its contract: the test of the link is the definition's.
use mathlib.Core.Path.{sym, ◌∙◌}
use Rattle.questions.proofs.read_link.Goals as goal

pub returns-then-valid_link : goal.returns-then-valid_link
returns-then-valid_link c = simp (← c.read_register-x.ensures, sym c.valid_link.ensures ∙ c.if-valid_link.true)

pub returns-else-valid_link : goal.returns-else-valid_link
returns-else-valid_link c = simp (← c.read_register-x.ensures, sym c.valid_link.ensures ∙ c.if-valid_link.false)
