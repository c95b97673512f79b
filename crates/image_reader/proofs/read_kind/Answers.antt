-- `image_reader::read_kind` meets its contract: a byte of 0 or 1 is the kind, and where another stands, or none, there is no kind.
use native.Mathlib.Omega.{arith}
use mathlib.Core.Path.{sym}
use Rattle.image_reader.proofs.Fields.{pair_byte, point_byte, no_kind}
use Rattle.image_reader.proofs.read_kind.Goals as goal
use Rattle.image_reader.proofs.read_kind.Goals.{then-at-bytes+else-first-eq0+else-first-eq1, else-at-bytes}

pub returns-then-first-eq0 : goal.returns-then-first-eq0
returns-then-first-eq0 c = sym (pair_byte c.args.bytes.now c.args.at c.if-at-bytes.true c.if-first-eq0.true)

pub returns-then-first-eq1 : goal.returns-then-first-eq1
returns-then-first-eq1 c = sym (point_byte c.args.bytes.now c.args.at c.if-at-bytes.true (omega (arith, c.if-first-eq1.true)))

pub returns : goal.returns
returns c =
    sym (no_kind c.args.bytes.now c.args.at (λ i. (c.type_inv.bytes i).fits)
    (λ there. elim c.if-at-bytes.branch [ then-at-bytes+else-first-eq0+else-first-eq1 w ↦ omega arith | else-at-bytes w ↦ omega arith ]) _ _
    (sym c.in_ok-read_number.ensures))
