-- `questions::sized` meets its contract: the length decides, and then word 0.
use mathlib.Core.Path.{sym, ap, ◌∙◌}
use native.Mathlib.Omega.{arith}
use lib.ListN.{length}
use Rattle.std.proofs.Common.{Ok}
use Rattle.pool.specs.Layout.{register_count, count}
use Rattle.pool.proofs.Sizes.{no_cells, same_count, other_count, counted_sized}
use Rattle.questions.proofs.Admission.{sized_some, sized_none}
use Rattle.questions.proofs.sized.Goals as goal

pub returns-in_default : goal.returns-in_default
returns-in_default c = sym (sized_none _ (no_cells register_count c.args.words.now c.in_default.ensures))

pub bounds-words-0 : goal.bounds-words-0
bounds-words-0 c = omega (arith, counted_sized register_count (length c.args.words.now) c.in-Some.ensures.0 c.in-Some.ensures.1)

pub returns-then-words-n : goal.returns-then-words-n
unfolding count
returns-then-words-n c =
    let same = same_count register_count c.args.words.now (c.if-words-n.true ∙ c.in-Some.ensures.0) in
    ap Ok (c.in-Some.ensures.0 ∙ sym same) ∙ sym (sized_some c.args.words.now (omega (arith, same, c.in-Some.ensures.0, c.in-Some.ensures.1)))

pub returns-else-words-n : goal.returns-else-words-n
unfolding count
returns-else-words-n c = sym (sized_none c.args.words.now (other_count register_count c.args.words.now λ e. c.if-words-n.false (e ∙ sym c.in-Some.ensures.0)))
