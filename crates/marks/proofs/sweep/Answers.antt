-- `marks::sweep` meets its contract: each turn is a turn of the definition's (`Turn`), from the highest cell down.
use native.Mathlib.Omega.{arith}
use Rattle.pool.specs.Layout.{register_count}
use Rattle.pool.proofs.States.{marked-pair_is, marked-point_is, other_unmarked}
use Rattle.marks.proofs.Turns.{turn_first, turn_kept, turn_free, turn_last}
use Rattle.marks.proofs.sweep.Goals as goal

pub loop-i-init : goal.loop-i-init
loop-i-init c = turn_first register_count _ _ c.requires

pub loop-i-preserved-in-6 : goal.loop-i-preserved-in-6
loop-i-preserved-in-6 c =
    let is = marked-point_is _ c.in-6.is in
    turn_kept register_count _ _ c.requires _ _ _ _ c.loop-i-test.true c.loop-i.invariant _ _ _
    c.read_cell.ensures is.0 is.2 c.write_cell.ensures

pub loop-i-preserved-in-3 : goal.loop-i-preserved-in-3
loop-i-preserved-in-3 c =
    let is = marked-pair_is _ c.in-3.is in
    turn_kept register_count _ _ c.requires _ _ _ _ c.loop-i-test.true c.loop-i.invariant _ _ _
    c.read_cell.ensures is.0 is.2 c.write_cell-in-3.ensures

pub loop-i-preserved : goal.loop-i-preserved
loop-i-preserved c =
    turn_free register_count _ _ c.requires _ _ _ _ c.loop-i-test.true c.loop-i.invariant _ _
    c.read_cell.ensures (other_unmarked _ (λ e. omega arith) (λ e. omega arith)) c.put_cell.ensures

pub returns : goal.returns
returns c =
    turn_last register_count _ _ c.requires _ _ _ _ _
    c.loop-i-test.false c.loop-i.invariant c.write_head.ensures
