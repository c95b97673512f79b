use mathlib.Core.Path.{◌≡◌}
use Rattle.pool.specs.Layout.{register_count, cell}
use Rattle.bounded_stack.proofs.HandLoop.{Hand, turns_left}
use Rattle.bounded_stack.proofs.mark_from.Given as goal

-- the state of the cell in hand is at hand too
abbrev pub invariant-loop-left : goal.invariant-loop-left
invariant-loop-left l = Hand register_count l.n l.p l.initial.words l.initial.stack l.words l.stack l.hand l.top l.checks × (l.state ≡ cell register_count l.words l.hand 0)

abbrev pub decreases-loop-left : goal.decreases-loop-left
decreases-loop-left l = turns_left register_count l.n l.words l.top
