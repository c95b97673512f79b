-- `recursive_marker::collect_recursive` meets its contract: the first question, the limit, then the collection.
use native.Mathlib.Omega.{arith}
use mathlib.Core.Path.{sym, ◌∙◌}
use Rattle.questions.proofs.Admission.{sized_cells}
use Rattle.recursive_marker.proofs.collect_recursive.Goals as goal

pub collect_in-requires : goal.collect_in-requires
collect_in-requires c = omega (arith, c.if-n-gt-DEPTH.false, (sized_cells c.args.words.now (sym c.sized.ensures ∙ c.in_ok-n.was)).0)
