-- The first number, and then the others: the measure is how many there are.
use Rattle.std.proofs.Common.{length}
use Rattle.replies.proofs.+put_numbers.Given as goal

abbrev pub decreases-put_numbers : goal.decreases-put_numbers
decreases-put_numbers l = length l.numbers.now
