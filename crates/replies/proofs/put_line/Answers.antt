-- `replies::put_line` meets its contract: the word, and then the numbers.
use Rattle.replies.proofs.Putting.{puts}
use Rattle.replies.proofs.put_line.Goals as goal

pub returns : goal.returns
returns c = puts c.put-next.ensures c.put_numbers.ensures
