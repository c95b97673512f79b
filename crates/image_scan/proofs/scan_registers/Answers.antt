-- `image_scan::scan_registers` meets its contract: what is left to read gives the answer (`Scanning`).
use Prim.Native.Nat.{◌+◌, ◌-◌}
use native.Mathlib.Omega.{arith}
use mathlib.Core.Path.{ap}
use Rattle.std.proofs.lemmas.Result.{err_from_is_err_and}
use Rattle.pool.specs.Layout.{register_count}
use Rattle.image_scan.specs.Steps.{place_of}
use Rattle.image_scan.proofs.Scanning.{scan_parsed, scan_fault, scan_last}
use Rattle.image_scan.proofs.scan_registers.Goals as goal

pub returns-in_err-at : goal.returns-in_err-at
returns-in_err-at c =
    let p = err_from_is_err_and c.from_residual.result c.from_residual.ensures.1 in
    rw (p.1, p.2) (scan_fault _ _ _ _ _ c.loop.invariant (register_count - (c.loop.counter + 1)) _ (omega arith) (ap place_of c.in_err-at.ensures))

pub loop-preserved : goal.loop-preserved
loop-preserved c = scan_parsed _ _ _ _ _ c.loop.invariant _ _ (omega arith) (ap place_of c.in_ok-at.ensures)

pub returns : goal.returns
returns c = scan_last _ _ _ _ _ c.loop.invariant (omega arith)
