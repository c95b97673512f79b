-- `replies::write_reply` meets its contract: where there is room for any text, the reply's is put.
use Rattle.std.proofs.Common.{arith}
use Rattle.replies.proofs.Putting.{written, no_room}
use Rattle.replies.proofs.write_reply.Goals as goal

pub returns-then-out-at : goal.returns-then-out-at
returns-then-out-at c = no_room _ _ _ (omega arith)

pub returns-then-out-at-lt-ROOM : goal.returns-then-out-at-lt-ROOM
returns-then-out-at-lt-ROOM c = no_room _ _ _ (omega arith)

pub returns : goal.returns
returns c = written c.put_reply.ensures.put_text c.put_reply.ensures.reply_len_bound (omega arith)
