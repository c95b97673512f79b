-- `save::save` meets its contract: the first question, then the save.
use native.Mathlib.Omega.{arith}
use mathlib.Core.Path.{sym, ◌∙◌}
use Rattle.questions.proofs.Admission.{sized_cells}
use Rattle.save.proofs.save.Goals as goal

pub save_in-requires : goal.save_in-requires
save_in-requires c = omega (arith, (sized_cells c.args.words.now (sym c.sized.ensures ∙ c.in_ok-n.was)).0)
