-- `collector::collect` meets its contract: the first question, then the collection.
use native.Mathlib.Omega.{arith}
use mathlib.Core.Path.{sym, ◌∙◌}
use Rattle.questions.proofs.Admission.{sized_cells}
use Rattle.collector.proofs.collect.Goals as goal

pub collect_in-requires : goal.collect_in-requires
collect_in-requires c = omega (arith, (sized_cells c.args.words.now (sym c.sized.ensures ∙ c.in_ok-n.was)).0)
