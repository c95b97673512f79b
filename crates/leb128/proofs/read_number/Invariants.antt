use Prim.Native.Nat.{ℕ, ◌-◌, ◌^◌}
use Rattle.leb128.proofs.Reading.{Reading}
use Rattle.leb128.proofs.read_number.Given as goal

abbrev pub invariant-loop-weight : goal.invariant-loop-weight
invariant-loop-weight l = (left : ℕ) × Reading l.bytes l.at left l.value l.weight l.next

abbrev pub decreases-loop-weight : goal.decreases-loop-weight
decreases-loop-weight l = 2 ^ 28 - l.weight
