use mathlib.Core.Path.{◌≡◌}
use Rattle.pool.specs.Layout.{register_count, cell}
use Rattle.stack_check.proofs.Marked.{unmarked_count}
use Rattle.stack_check.proofs.Walking.{WalkLoop}
use Rattle.stack_check.proofs.walk.Given as goal

-- the cell's own state is at hand
abbrev pub invariant-loop-x : goal.invariant-loop-x
invariant-loop-x l = WalkLoop register_count l.n l.entry l.initial.words l.words l.p × (l.state ≡ cell register_count l.words l.p 0)

abbrev pub decreases-loop-x : goal.decreases-loop-x
decreases-loop-x l = unmarked_count register_count l.n l.words
