use Prim.Native.Nat.{◌≤◌}
use Rattle.image.specs.Image.{read_cell}
use Rattle.image_scan.proofs.Scanning.{Scanning}
use Rattle.image_scan.proofs.skip_pairs.Given as goal

abbrev pub invariant-loop-left : goal.invariant-loop-left
invariant-loop-left l = Scanning (read_cell l.k l.bytes) l.count l.start l.left l.at × (l.left ≤ l.count)

abbrev pub decreases-loop-left : goal.decreases-loop-left
decreases-loop-left l = l.left
