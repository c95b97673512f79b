-- `operations::link_in` meets its contract: b is read before a, and both before the write.
use Rattle.std.proofs.lemmas.Result.{err_from_is_err_and}
use native.Mathlib.Omega.{arith}
use Rattle.questions.proofs.RegisterLinks.{holds, holds_none}
use Rattle.operations.proofs.Bodies.{stored, kind_there, with_cell_lem, with_none}
use Rattle.operations.proofs.link_in.Goals as goal

pub returns-in_default : goal.returns-in_default
returns-in_default c = simp (holds_none _ _ _ c.read_link.ensures c.in_default.is)

pub write_cell-requires : goal.write_cell-requires
write_cell-requires c = omega (arith, kind_there _ _ _ _ c.held_kind.ensures c.in_ok-x.was)

pub returns : goal.returns
returns c =
    stored _ _ (holds _ _ _ c.read_link.ensures c.in-Ok.is) _ _
    (with_cell_lem _ c.held_kind.ensures _ c.in_ok-x.was (simp c.write_cell.ensures))

pub returns-in_err-x : goal.returns-in_err-x
returns-in_err-x c =
    let p = err_from_is_err_and c.from_residual.result c.from_residual.ensures.1 in
    rw (p.1, p.2) (stored _ _ (holds _ _ _ c.read_link.ensures c.in-Ok.is) _ _ (with_none _ c.held_kind.ensures _ c.in_err-x.was))
