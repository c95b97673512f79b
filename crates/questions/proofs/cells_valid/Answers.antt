-- `questions::cells_valid` meets its contract: `all` asks each cell, the last one first, and all cells are plausible exactly if all are valid.
use Prim.Native.Nat.{suc, ◌-◌}
use native.Mathlib.Omega.{arith}
use mathlib.Core.Path.{refl, ap, ◌∙◌}
use borrow.Author.Tests.{tests}
use Rattle.std.proofs.Common.{rules}
use Rattle.std.proofs.lemmas.Iterator.{YieldsList-from_range}
use Rattle.std.proofs.lemmas.Iterator.Search.{all_from_yields_List}
use Rattle.pool.specs.Layout.{register_count}
use Rattle.questions.specs.Steps.{plausible_cell}
use Rattle.pool.proofs.Every.{every_range, every_cong, every_down}
use Rattle.questions.proofs.Plausible.{plausible_valid}
use Rattle.questions.proofs.cells_valid.Goals as goal

pub returns : goal.returns
returns c =
    all_from_yields_List (λ k. plausible_cell register_count c.args.n c.args.words.now (c.args.n - k)) _ _ _ c.all.ensures.ran
    (YieldsList-from_range 0 c.args.n c.args.n refl (omega arith)) (λ x b q k. search (rules, tests))
    ∙ every_range c.args.n (λ k. plausible_cell register_count c.args.n c.args.words.now (c.args.n - k))
    ∙ every_cong c.args.n _ (λ k. plausible_cell register_count c.args.n c.args.words.now (suc (c.args.n - 1 - k)))
    (λ k below. ap (plausible_cell register_count c.args.n c.args.words.now) (omega arith))
    ∙ every_down c.args.n (λ k. plausible_cell register_count c.args.n c.args.words.now (suc k))
    ∙ plausible_valid register_count c.args.n c.args.words.now
