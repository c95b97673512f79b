-- `replies::put_given` meets its contract: no line is longer than the room.
use Rattle.std.proofs.Common.{rules, arith}
use mathlib.Core.Logic.{⊎_elim}
use Rattle.replies.proofs.Putting.{none-most, one-most, two-most}
use Rattle.replies.proofs.put_given.Goals as goal

pub put_line-requires : goal.put_line-requires
put_line-requires c = omega (arith, none-most)

pub put_line-requires-in-Number : goal.put_line-requires-in-Number
put_line-requires-in-Number c = omega (arith, one-most c.in-Number.x (search rules))

pub put_line-requires-in-Pair : goal.put_line-requires-in-Pair
put_line-requires-in-Pair c = omega (arith, two-most c.in-Pair.x c.in-Pair.y (search rules) (search rules))

pub returns-in-Done-clause-answer_len_bound : goal.returns-in-Done-clause-answer_len_bound
returns-in-Done-clause-answer_len_bound c =
    ⊎_elim (λ done. rw done (omega (arith, none-most))) (λ allocated. rw allocated.1 (omega (arith, none-most))) c.in-Done.is

pub returns-in-Number-clause-answer_len_bound : goal.returns-in-Number-clause-answer_len_bound
returns-in-Number-clause-answer_len_bound c = rw c.in-Number.is (omega (arith, one-most c.in-Number.x (search rules)))

pub returns-in-Pair-clause-answer_len_bound : goal.returns-in-Pair-clause-answer_len_bound
returns-in-Pair-clause-answer_len_bound c = rw c.in-Pair.is (omega (arith, two-most c.in-Pair.x c.in-Pair.y (search rules) (search rules)))
