-- `operations::value_in` meets its contract: the value is read of the cell that a holds.
use Rattle.std.proofs.lemmas.Result.{err_from_is_err_and}
use native.Mathlib.Omega.{arith}
use Rattle.operations.proofs.Bodies.{cell_there, with_cell_lem, with_none}
use Rattle.operations.proofs.value_in.Goals as goal

pub read_cell-requires : goal.read_cell-requires
read_cell-requires c = omega (arith, cell_there _ _ _ c.held_cell.ensures c.in_ok-x.was)

pub returns : goal.returns
returns c = with_cell_lem _ c.held_cell.ensures _ c.in_ok-x.was (simp c.read_cell.ensures)

pub returns-in_err-x : goal.returns-in_err-x
returns-in_err-x c =
    let p = err_from_is_err_and c.from_residual.result c.from_residual.ensures.1 in
    rw (p.1, p.2) (with_none _ c.held_cell.ensures _ c.in_err-x.was)
