-- The digits of a tenth of the number, and then its last digit: the measure is the number.
use Rattle.replies.proofs.+put_decimal.Given as goal

abbrev pub decreases-put_decimal : goal.decreases-put_decimal
decreases-put_decimal l = l.v
