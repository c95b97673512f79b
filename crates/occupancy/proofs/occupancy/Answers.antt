-- `occupancy::occupancy` meets its contract: at each return the tests that led there decide the definition's.
use borrow.Author.Rules.{rules}
use Prim.Native.Nat.{◌*◌}
use native.Mathlib.Omega.{arith}
use native.Mathlib.Nat.{mod-lt, div-le_self}
use borrow.Author.Tests.{le-leb, lt-leb}
use Rattle.occupancy.proofs.Nearest.{goes_up, stays, answers_rounded}
use Rattle.occupancy.proofs.occupancy.Goals as goal

pub returns-then-n-rest : goal.returns-then-n-rest
returns-then-n-rest c =
    answers_rounded c.args.kept c.args.n c.if-n-lt1.false c.if-n-gt-CELLS.false c.if-n-kept.false
    (goes_up (100 * c.args.kept) c.args.n (omega (arith, c.if-n-rest.true)))

pub returns : goal.returns
returns c =
    answers_rounded c.args.kept c.args.n c.if-n-lt1.false c.if-n-gt-CELLS.false c.if-n-kept.false
    (stays (100 * c.args.kept) c.args.n (omega (arith, c.if-n-rest.false)))
