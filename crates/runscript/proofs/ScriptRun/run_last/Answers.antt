-- `runscript::ScriptRun::run_last` meets its contract: a line that has begun ends at a line feed; without one nothing is left to print.
use mathlib.Core.Path.{sym, ◌∙◌}
use Rattle.runscript.proofs.Running.{last_line, no_line}
use Rattle.runscript.proofs.ScriptRun.run_last.Goals as goal

pub returns-in_err-run_some : goal.returns-in_err-run_some
returns-in_err-run_some g c = last_line _ c.args.self.now.progress _ _ _ (rw c.handed-self.ensures at c.run_some.ensures) (sym c.begun.ensures ∙ c.if-begun.true)

pub returns-in_ok-run_some : goal.returns-in_ok-run_some
returns-in_ok-run_some g c = last_line _ c.args.self.now.progress _ _ _ (rw c.handed-self.ensures at c.run_some.ensures) (sym c.begun.ensures ∙ c.if-begun.true)

pub returns-else-begun : goal.returns-else-begun
returns-else-begun g c = no_line _ c.args.self.now.progress _ (sym c.begun.ensures ∙ c.if-begun.false)
