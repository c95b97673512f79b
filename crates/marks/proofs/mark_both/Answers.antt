-- `marks::mark_both` meets its contract: the first mark does not change the other cell's state.
use Prim.Native.Nat.{ℕ}
use native.Mathlib.Omega.{arith}
use mathlib.Core.Path.{sym, ap, ◌∙◌}
use mathlib.Core.List.{List}
use Rattle.pool.specs.Layout.{register_count, state, mark_cell}
use Rattle.pool.specs.States.{is_used}
use Rattle.pool.proofs.Laws.{cell_other}
use Rattle.marks.proofs.Marking.{mark_made}
use Rattle.marks.proofs.mark_both.Goals as goal

pub returns : goal.returns
returns c =
    let (low, low', apart, fits, fits') = c.requires.cells in
    let first = mark_made register_count _ _ c.read_cell-first.ensures c.write_cell.ensures c.requires.used.0 in
    let other = ap (λ (v : List ℕ). state register_count v c.args.j) first ∙ cell_other register_count _ _ 0 _ _ 0 low (omega arith) low' (omega arith) (λ e. apart (omega arith)) in
    mark_made register_count _ _ (c.read_cell-second.ensures ∙ sym other) c.write_cell-2.ensures (ap is_used other ∙ c.requires.used.1)
    ∙ ap (λ (v : List ℕ). mark_cell register_count v c.args.j) first
