-- `replies::put_answer` meets its contract: no line is longer than the room.
use Rattle.std.proofs.Common.{rules, arith}
use Rattle.replies.proofs.Putting.{one-most}
use Rattle.replies.proofs.put_answer.Goals as goal

pub put_line-requires : goal.put_line-requires
put_line-requires c = omega (arith, one-most c.number.result (search rules))

pub returns-in-Err-clause-answer_len_bound : goal.returns-in-Err-clause-answer_len_bound
returns-in-Err-clause-answer_len_bound c = rw c.in-Err.is (omega (arith, rw c.number.ensures at (one-most c.number.result (search rules))))
