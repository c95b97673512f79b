-- `image_scan::scan_cells` meets its contract: what is left to read gives the answer (`Scanning`), behind the pairs that were skipped too.
use Prim.Native.Nat.{◌-◌}
use native.Mathlib.Omega.{arith}
use mathlib.Core.Path.{◌∙◌}
use Rattle.std.proofs.lemmas.Result.{err_from_is_err_and}
use Rattle.image_scan.proofs.Scanning.{scan_parsed, scan_fault, scan_last}
use Rattle.image_scan.proofs.scan_cells.Goals as goal

pub returns-then-left-eq0 : goal.returns-then-left-eq0
returns-then-left-eq0 c = scan_last _ _ _ _ _ (c.skip_pairs-rest.ensures.0 ∙ c.loop-left.invariant) (omega arith)

pub returns-in_err-at : goal.returns-in_err-at
returns-in_err-at c =
    let p = err_from_is_err_and c.from_residual.result c.from_residual.ensures.1 in
    rw (p.1, p.2)
    (scan_fault _ _ _ _ _ (c.skip_pairs-rest.ensures.0 ∙ c.loop-left.invariant) (c.skip_pairs-rest.result.left - 1) _ (omega arith) c.in_err-at.ensures)

pub loop-left-preserved : goal.loop-left-preserved
loop-left-preserved c = scan_parsed _ _ _ _ _ (c.skip_pairs-rest.ensures.0 ∙ c.loop-left.invariant) _ _ (omega arith) c.in_ok-at.ensures

pub returns : goal.returns
returns c = scan_last _ _ _ _ _ c.loop-left.invariant (omega arith)
