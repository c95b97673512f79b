use Rattle.image.specs.Image.{read_cell}
use Rattle.image_scan.proofs.Scanning.{Scanning}
use Rattle.image_scan.proofs.scan_cells.Given as goal

abbrev pub invariant-loop-left : goal.invariant-loop-left
invariant-loop-left l = Scanning (read_cell l.k l.bytes) l.k l.start l.left l.at

abbrev pub decreases-loop-left : goal.decreases-loop-left
decreases-loop-left l = l.left
