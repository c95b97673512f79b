-- The digits of a tenth of the number, and then its last digit.
use Rattle.std.proofs.Common.{ap, length, arith}
use Rattle.replies.proofs.Decimals.{decimal-last, decimal-more, length_more}
use Rattle.replies.proofs.Putting.{puts}
use Rattle.replies.proofs.+put_decimal.Goals as goal

pub put-requires : goal.put-requires
put-requires t c = omega (arith, ap length (decimal-last c.args.v c.if-v-lt10.true))

pub returns-then-v-lt10 : goal.returns-then-v-lt10
returns-then-v-lt10 t c = rw (decimal-last c.args.v c.if-v-lt10.true) c.put.ensures

pub put_decimal-next-requires : goal.put_decimal-next-requires
put_decimal-next-requires t c = (omega arith, omega (arith, length_more c.args.v c.if-v-lt10.false))

pub put-requires-2 : goal.put-requires-2
put-requires-2 t c = omega (arith, length_more c.args.v c.if-v-lt10.false)

pub returns : goal.returns
returns t c = rw (decimal-more c.args.v c.if-v-lt10.false) (puts c.put_decimal-next.ensures c.put-2.ensures)
