-- `stack_marker::mark` meets its contract: what the stack marked is what is reached, and otherwise reversal starts from the same words.
use native.Mathlib.Omega.{arith}
use mathlib.Core.Path.{ap, ◌∙◌}
use Prim.Native.Nat.{ℕ}
use mathlib.Core.List.{List}
use lib.ListN.{length}
use Rattle.questions.specs.Validity.{well_formed}
use Rattle.stack_marker.proofs.StackSweep.{marked-enough, marked_anew, marked-again}
use Rattle.stack_marker.proofs.mark.Goals as goal

pub mark-requires : goal.mark-requires
mark-requires c =
    let same = marked_anew _ _ c.args.stack.now _ c.requires.0 c.requires.1 _ _ c.mark_registers-marking.ensures _ c.clear_marks.ensures in
    (ap (well_formed _ c.args.n) same ∙ c.requires.0, omega (arith, c.requires.1, ap length same), c.requires.2)

pub returns-then-not-marking : goal.returns-then-not-marking
returns-then-not-marking c = marked-again _ _ c.args.stack.now _ c.requires.0 c.requires.1 _ _ c.mark_registers-marking.ensures _ c.clear_marks.ensures (ap (λ (x : ℕ × List ℕ). x.1) c.mark.ensures)

pub returns-else-not-marking : goal.returns-else-not-marking
returns-else-not-marking c = marked-enough _ _ c.args.stack.now _ c.requires.0 c.requires.1 _ _ c.mark_registers-marking.ensures c.if-not-marking.false
