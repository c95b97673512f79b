use Prim.Native.Nat.{◌-◌}
use lib.ListN.{get_or}
use Rattle.graph.specs.Marking.{marked_count}
use Rattle.fixpoint_marker.specs.Marks.{OnlyReached, Rooted}
use Rattle.fixpoint_marker.proofs.mark.Given as goal

abbrev pub invariant-loop : goal.invariant-loop
invariant-loop l = OnlyReached l.words l.marks × Rooted l.n l.words l.marks

abbrev pub decreases-loop : goal.decreases-loop
decreases-loop l = l.n - marked_count l.n (λ y. get_or l.marks y 0)
