-- `interpreter::make` meets its contract: refused, all words stay; made, the pool's part is that of a new pool.
use mathlib.Core.Path.{sym, ◌∙◌}
use Rattle.interpreter.proofs.Turns.{fresh-refused, fresh_made}
use Rattle.interpreter.proofs.make.Goals as goal

pub returns-in_default : goal.returns-in_default
returns-in_default c = fresh-refused _ _ c.requires _ (sym c.in_default.is ∙ c.size.ensures)

pub returns : goal.returns
returns c = fresh_made _ _ _ _ (rw c.in-Some.is at c.size.ensures) _ _ c.fresh.ensures c.fresh.auto.words
