-- `interpreter::execute` meets its contract: each kind of line, on the pool's part of the words.
use Rattle.std.proofs.Common.{rules}
use lib.ListN.{length}
use mathlib.Core.Path.{◌≡◌, ◌∙◌}
use Rattle.std.specs.Prelude.{Some}
use Rattle.lines.specs.declared.Line.TheVariants as line
use Rattle.interpreter.proofs.Turns.{used-inside, bad_line, settled}
use Rattle.interpreter.proofs.execute.Goals as goal

pub returns-in-None : goal.returns-in-None
returns-in-None c = rw c.in-None.is (bad_line _ _ (used-inside (length c.args.words.now) c.args.used c.pool_words-pool.ensures) ∙ settled _ c.args.used _ c.args.words.now c.pool_words-pool.ensures)

pub returns-in-Some-Fresh : goal.returns-in-Some-Fresh
returns-in-Some-Fresh c =
    let line-is : c.args.line ≡ Some (line.Fresh c.in-Some-Fresh.n) = search rules in
    rw line-is (c.make.ensures ∙ settled _ c.args.used _ c.args.words.now c.pool_words-pool.ensures)

pub returns-in-Some-Run : goal.returns-in-Some-Run
returns-in-Some-Run c =
    let line-is : c.args.line ≡ Some (line.Run c.in-Some-Run.call) = search rules in
    rw line-is (c.run.ensures ∙ settled _ c.args.used _ c.args.words.now c.pool_words-pool.ensures)
