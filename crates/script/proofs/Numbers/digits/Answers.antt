-- `script::Numbers::digits` meets its contract: each digit that is read is the next.
use mathlib.Core.Path.{◌∙◌}
use Rattle.script.proofs.Digits.{digit_read}
use Rattle.script.proofs.Numbers.digits.Goals as goal

pub loop-i-preserved : goal.loop-i-preserved
loop-i-preserved c = digit_read _ _ _ _ c.loop-i-test.true (rw c.in-Some.is at c.longer.ensures) ∙ c.loop-i.invariant
