-- From where it stands, the reader finds what it finds from the start. The measure is what is left of the bytes.
use Prim.Native.Nat.{◌-◌}
use mathlib.Core.Path.{◌≡◌}
use lib.ListN.{length, drop}
use Rattle.script.specs.Scripts.{next_line}
use Rattle.script.proofs.LineReader.next_line.Given as goal

abbrev pub invariant-loop-i : goal.invariant-loop-i
invariant-loop-i l = next_line l.reader (drop l.i l.bytes) l.i ≡ next_line l.initial.reader (drop l.initial.i l.bytes) l.initial.i

abbrev pub decreases-loop-i : goal.decreases-loop-i
decreases-loop-i l = length l.bytes - l.i
