-- `image_scan::scan_image` meets its contract: K, the registers and the cells are read in turn, and the first fault decides.
use Rattle.std.proofs.lemmas.Result.{err_from_is_err_and}
use mathlib.Core.Path.{sym}
use Rattle.pool.specs.Layout.{register_count}
use Rattle.image_scan.proofs.Scanning.{scan_count, scan_registers_lem, scan_cells_lem, scan_whole}
use Rattle.image_scan.proofs.scan_image.Goals as goal

pub returns-in_err-count : goal.returns-in_err-count
returns-in_err-count c =
    let p = err_from_is_err_and c.from_residual.result c.from_residual.ensures.1 in
    rw (p.1, p.2) (scan_count register_count _ _ _ (sym c.in_err-count.ensures))

pub returns-in_err-at : goal.returns-in_err-at
returns-in_err-at c =
    let p = err_from_is_err_and c.from_residual-in_err-at.result c.from_residual-in_err-at.ensures.1 in
    rw (p.1, p.2) (scan_registers_lem register_count _ _ _ _ (sym c.in_ok-count.ensures) _ c.in_err-at.ensures)

pub returns-in_err-end : goal.returns-in_err-end
returns-in_err-end c =
    let p = err_from_is_err_and c.from_residual-in_err-end.result c.from_residual-in_err-end.ensures.1 in
    rw (p.1, p.2) (scan_cells_lem register_count _ _ _ _ (sym c.in_ok-count.ensures) _ c.in_ok-at.ensures _ c.in_err-end.ensures)

pub returns : goal.returns
returns c = scan_whole register_count _ _ _ _ (sym c.in_ok-count.ensures) _ c.in_ok-at.ensures _ c.in_ok-end.ensures
