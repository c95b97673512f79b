use Rattle.pool.specs.Layout.{register_count}
use mathlib.Core.Path.{◌≡◌}
use Rattle.bounded_stack.specs.Steps.{cleared}
use Rattle.bounded_stack.proofs.clear_marks.Given as goal

abbrev pub invariant-loop-i : goal.invariant-loop-i
invariant-loop-i l = cleared register_count l.i l.words ≡ cleared register_count l.n l.initial.words
