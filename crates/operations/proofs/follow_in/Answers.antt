-- `operations::follow_in` meets its contract: the link is read of the cell that a holds, and asked before it is written.
use Rattle.std.proofs.lemmas.Result.{err_from_is_err_and}
use native.Mathlib.Omega.{arith}
use mathlib.Core.Path.{sym, ◌∙◌}
use Rattle.operations.proofs.Bodies.{kind_there, with_cell_lem, with_none, followed, follow_malformed}
use Rattle.operations.proofs.follow_in.Goals as goal

pub read_cell-link-requires : goal.read_cell-link-requires
read_cell-link-requires c = omega (arith, kind_there _ _ _ _ c.held_kind.ensures c.in_ok-x.was)

pub returns-then-valid_link : goal.returns-then-valid_link
returns-then-valid_link c =
    with_cell_lem _ c.held_kind.ensures _ c.in_ok-x.was
    (followed _ _ _ _ _ c.read_cell-link.ensures (sym c.valid_link.ensures ∙ c.if-valid_link.true) c.write_register.ensures)

pub returns-else-valid_link : goal.returns-else-valid_link
returns-else-valid_link c =
    with_cell_lem _ c.held_kind.ensures _ c.in_ok-x.was
    (follow_malformed _ _ _ _ _ c.read_cell-link.ensures (sym c.valid_link.ensures ∙ c.if-valid_link.false))

pub returns-in_err-x : goal.returns-in_err-x
returns-in_err-x c =
    let p = err_from_is_err_and c.from_residual.result c.from_residual.ensures.1 in
    rw (p.1, p.2) (with_none _ c.held_kind.ensures _ c.in_err-x.was)
