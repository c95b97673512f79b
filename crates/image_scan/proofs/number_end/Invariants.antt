use Prim.Native.Nat.{◌+◌, ◌-◌}
use mathlib.Core.Path.{◌≡◌}
use Rattle.image.specs.Image.{read_number}
use Rattle.image_scan.specs.Steps.{end_of}
use Rattle.image_scan.proofs.Ends.{further_end}
use Rattle.image_scan.proofs.number_end.Given as goal

abbrev pub invariant-loop-i : goal.invariant-loop-i
invariant-loop-i l = further_end l.bytes (l.at + 4 - l.i) l.i ≡ end_of (read_number l.bytes l.at)
