-- `bounded_stack::mark_registers` meets its contract: the loop makes the runs from the registers (`Registers`), from the first to the last.
use native.Mathlib.Omega.{arith}
use mathlib.Core.Path.{sym, ap, ◌∙◌}
use lib.ListN.{length}
use Rattle.reversal.proofs.Agreement.{unmarked-state}
use Rattle.bounded_stack.proofs.RootLoop.{registers_first, registers-length, registers-last, registers_bound, registers-skip, registers-cell, registers_start, registers-fit, registers-next, registers-full}
use Rattle.bounded_stack.proofs.mark_registers.Goals as goal
use Rattle.bounded_stack.proofs.mark_registers.Goals.{then-is_unmarked+else-not-run, else-is_unmarked}

pub loop-k-init : goal.loop-k-init
loop-k-init c = registers_first _ _ _ _

pub is_unmarked-requires : goal.is_unmarked-requires
is_unmarked-requires c = omega (arith, c.requires.1, registers-length _ _ _ _ _ _ _ _ c.loop-k.invariant, registers_bound _ _ _ c.requires.0 c.requires.1 _ _ _ _ _ c.loop-k.invariant _ c.loop-k-test.true c.read_register-p.ensures)

pub mark_cell-requires : goal.mark_cell-requires
mark_cell-requires c =
    let unmarked = sym c.is_unmarked.ensures ∙ c.if-is_unmarked.true in
    (registers-cell _ _ _ c.requires.0 c.requires.1 _ _ _ _ _ c.loop-k.invariant _ c.loop-k-test.true c.read_register-p.ensures unmarked, omega (arith, c.requires.1, registers-length _ _ _ _ _ _ _ _ c.loop-k.invariant, registers_bound _ _ _ c.requires.0 c.requires.1 _ _ _ _ _ c.loop-k.invariant _ c.loop-k-test.true c.read_register-p.ensures), unmarked-state _ _ _ unmarked)

pub mark_from-run-requires-clause-pending : goal.mark_from-run-requires-clause-pending
mark_from-run-requires-clause-pending c =
    registers_start _ _ _ c.requires.0 c.requires.1 _ _ _ _ _ c.loop-k.invariant _ c.loop-k-test.true c.read_register-p.ensures (sym c.is_unmarked.ensures ∙ c.if-is_unmarked.true) _ c.mark_cell.ensures

pub overflow_add-checks : goal.overflow_add-checks
overflow_add-checks c = omega (arith, c.ranges.n, registers-fit _ _ _ c.requires.0 c.requires.1 _ _ _ _ _ c.loop-k.invariant _ c.loop-k-test.true c.read_register-p.ensures (sym c.is_unmarked.ensures ∙ c.if-is_unmarked.true) _ c.mark_cell.ensures _ _ _ c.mark_from-run.ensures)

pub returns-then-not-run : goal.returns-then-not-run
returns-then-not-run c = registers-full _ _ _ c.requires.0 c.requires.1 _ _ _ _ _ c.loop-k.invariant _ c.loop-k-test.true c.read_register-p.ensures (sym c.is_unmarked.ensures ∙ c.if-is_unmarked.true) _ c.mark_cell.ensures _ _ _ c.mark_from-run.ensures c.if-not-run.true

pub loop-k-preserved : goal.loop-k-preserved
loop-k-preserved c =
    elim c.if-is_unmarked.branch [
      | then-is_unmarked+else-not-run w ↦ registers-next _ _ _ c.requires.0 c.requires.1 _ _ _ _ _ c.loop-k.invariant _ c.loop-k-test.true c.read_register-p.ensures (sym c.is_unmarked.ensures ∙ w.if-is_unmarked.true) _ w.mark_cell.ensures _ _ _ w.mark_from-run.ensures w.if-not-run.false (ap length w.stack-is ∙ w.mark_from-run.auto.stack) w.words-is w.checks-is
      | else-is_unmarked w ↦ registers-skip _ _ _ c.requires.0 c.requires.1 _ _ _ _ _ c.loop-k.invariant _ c.loop-k-test.true c.read_register-p.ensures (sym c.is_unmarked.ensures ∙ w.if-is_unmarked.false) w.words-is w.stack-is w.checks-is
    ]

pub returns : goal.returns
returns c = registers-last _ _ _ c.requires.0 c.requires.1 _ _ _ _ _ c.loop-k.invariant c.loop-k-test.false
