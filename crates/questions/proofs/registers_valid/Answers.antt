-- `questions::registers_valid` meets its contract: `all` asks each register, the last one first.
use Prim.Native.Nat.{◌-◌}
use mathlib.Core.Path.{refl, ◌∙◌}
use borrow.Author.Tests.{tests}
use Rattle.std.proofs.Common.{rules}
use Rattle.std.proofs.lemmas.Iterator.{YieldsList-from_range}
use Rattle.std.proofs.lemmas.Iterator.Search.{all_from_yields_List}
use Rattle.pool.specs.Layout.{register_count, register}
use Rattle.questions.specs.Validity.{valid_link}
use Rattle.pool.proofs.Every.{every_range, every_down}
use Rattle.questions.proofs.registers_valid.Goals as goal

pub returns : goal.returns
returns c =
    all_from_yields_List (λ k. valid_link register_count c.args.n c.args.words.now (register c.args.words.now (register_count - 1 - k))) _ _ _ c.all.ensures.ran
    (YieldsList-from_range 0 register_count register_count refl refl) (λ x b q k. search (rules, tests))
    ∙ every_range register_count (λ k. valid_link register_count c.args.n c.args.words.now (register c.args.words.now (register_count - 1 - k)))
    ∙ every_down register_count (λ k. valid_link register_count c.args.n c.args.words.now (register c.args.words.now k))
