-- `runner::advance` meets its contract: at a line end the line is run, without one all of the part is read.
use mathlib.Core.Path.{sym, ◌∙◌}
use Rattle.runner.proofs.Working.{advanced_line, advanced_more}
use Rattle.runner.proofs.advance.Goals as goal

pub returns-in-Line : goal.returns-in-Line
returns-in-Line c = advanced_line _ _ _ c.args.p _ _ _ _ _ (sym c.next_line.ensures ∙ c.in-Line.is) c.run_line.auto.words c.run_line.ensures

pub returns-in-More : goal.returns-in-More
returns-in-More c = advanced_more _ _ _ c.args.p _ (sym c.next_line.ensures ∙ c.in-More.is) c.requires
