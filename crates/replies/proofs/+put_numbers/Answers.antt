-- `replies::put_numbers` meets its contract: a space, the first number and the others; without a number the line end.
use Rattle.std.proofs.Common.{ap, length, arith}
use Rattle.replies.proofs.Putting.{puts, spaced-none, spaced-some, length-some}
use Rattle.replies.proofs.+put_numbers.Goals as goal

pub put-requires : goal.put-requires
put-requires t c = omega (arith, ap length (spaced-none c.args.numbers.now (omega arith)))

pub returns-in-empty : goal.returns-in-empty
returns-in-empty t c = rw (spaced-none c.args.numbers.now (omega arith)) c.put.ensures

pub put-space-requires : goal.put-space-requires
put-space-requires t c = omega (arith, length-some c.args.numbers.now (omega arith))

pub put_decimal-next-requires : goal.put_decimal-next-requires
put_decimal-next-requires t c = omega (arith, length-some c.args.numbers.now (omega arith))

pub put_numbers-requires : goal.put_numbers-requires
put_numbers-requires t c = (omega arith, omega (arith, length-some c.args.numbers.now (omega arith)))

pub returns-in-len1-up : goal.returns-in-len1-up
returns-in-len1-up t c = rw (spaced-some c.args.numbers.now (omega arith)) (puts c.put-space.ensures (puts c.put_decimal-next.ensures c.put_numbers.ensures))
