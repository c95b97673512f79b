use Prim.Native.Nat.{◌+◌, ◌-◌, ◌*◌}
use Rattle.pool.specs.Layout.{register_count}
use Rattle.numbering.proofs.Turns.{Turn}
use Rattle.numbering.proofs.number_cells.Given as goal

abbrev pub invariant-loop-left : goal.invariant-loop-left
invariant-loop-left l = Turn register_count l.n l.words l.initial.scratch l.scratch l.hand l.depth l.count l.root

abbrev pub decreases-loop-left : goal.decreases-loop-left
decreases-loop-left l = 2 * (l.n - l.count) + l.depth + (register_count - l.root)
