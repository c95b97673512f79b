-- `image_scan::pair_end` meets its contract: what ends nowhere is refused, and behind what ends the next number is read.
use native.Mathlib.Omega.{arith}
use Rattle.image_scan.proofs.Ends.{no_left, no_right, pair_ends}
use Rattle.image_scan.proofs.pair_end.Goals as goal

pub returns-in_err-behind_left : goal.returns-in_err-behind_left
returns-in_err-behind_left c = rw c.from_residual.ensures (no_left c.args.k _ _ (omega arith) c.if-bytes-at-ne0.false c.in_err-behind_left.ensures.0)

pub returns-in_err-behind_right : goal.returns-in_err-behind_right
returns-in_err-behind_right c =
    rw c.from_residual-in_err-behind_right.ensures
    (no_right c.args.k _ _ (omega arith) c.if-bytes-at-ne0.false _ c.in_ok-behind_left.ensures.0 c.in_err-behind_right.ensures.0)

pub returns : goal.returns
returns c =
    pair_ends c.args.k _ _ (omega arith) c.if-bytes-at-ne0.false _ c.in_ok-behind_left.ensures.0 _ c.in_ok-behind_right.ensures.0 _ c.number_end.ensures
