-- `operations::held_kind` meets its contract: the kind is asked of the cell that a holds.
use Rattle.std.proofs.lemmas.Result.{err_from_is_err_and}
use native.Mathlib.Omega.{arith}
use mathlib.Core.Path.{sym, ◌∙◌}
use Rattle.operations.proofs.Bodies.{cell-used, kind-told, kind-none}
use Rattle.operations.proofs.held_kind.Goals as goal

pub is_of_kind-requires : goal.is_of_kind-requires
is_of_kind-requires c =
    let (low, high, used) = cell-used _ _ _ c.held_cell.ensures c.in_ok-x.was in
    (low, omega (arith, c.requires.0, high), used)

pub returns-then-is_of_kind : goal.returns-then-is_of_kind
returns-then-is_of_kind c = kind-told _ _ _ _ c.held_cell.ensures c.in_ok-x.was (sym c.if-is_of_kind.true ∙ c.is_of_kind.ensures)

pub returns-else-is_of_kind : goal.returns-else-is_of_kind
returns-else-is_of_kind c = kind-told _ _ _ _ c.held_cell.ensures c.in_ok-x.was (sym c.if-is_of_kind.false ∙ c.is_of_kind.ensures)

pub returns-in_err-x : goal.returns-in_err-x
returns-in_err-x c =
    let p = err_from_is_err_and c.from_residual.result c.from_residual.ensures.1 in
    rw (p.1, p.2) (kind-none _ _ _ _ c.held_cell.ensures c.in_err-x.was)
