-- `image_scan::skip_pairs` meets its contract: what is left to read gives the answer (`Scanning`).
use native.Mathlib.Omega.{arith}
use Rattle.image_scan.proofs.Scanning.{scan_parsed}
use Rattle.image_scan.proofs.Ends.{pair_placed}
use Rattle.image_scan.proofs.skip_pairs.Goals as goal

pub loop-left-preserved : goal.loop-left-preserved
loop-left-preserved c = (scan_parsed _ _ _ _ _ c.loop-left.invariant.0 _ _ (omega arith) (pair_placed _ _ _ _ c.in-Some.ensures), omega arith)
