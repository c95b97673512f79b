-- `stack_check::is_open` meets its contract: the bit tells a marked state from a used one.
use native.Mathlib.Omega.{arith}
use borrow.Author.Tests.{ne_eqb}
use Rattle.pool.proofs.States.{marked_bit}
use Rattle.stack_check.proofs.is_open.Goals as goal

pub returns-then-x-ne0 : goal.returns-then-x-ne0
returns-then-x-ne0 c = simp (ne_eqb _ _ c.if-x-ne0.true, marked_bit _ (c.requires.1 (omega (arith, c.if-x-ne0.true))), c.read_cell.ensures)
