-- `numbering::number_cells` meets its contract: each turn is one of the depth-first walk (`Turn`). The cells without a number, twice, the links on the
-- stack and the registers to come fall.
use native.Mathlib.Omega.{arith}
use lib.ListN.{length-set}
use Rattle.pool.specs.Layout.{register_count}
use Rattle.numbering.proofs.Turns.{turn_first, turn_bounds, turn_room, turn_take, turn_pop, turn_root, turn_end}
use Rattle.numbering.proofs.number_cells.Goals as goal

pub loop-left-init : goal.loop-left-init
loop-left-init c = turn_first register_count _ _ _ c.requires.0 c.requires.1

pub overflow_add-count : goal.overflow_add-count
overflow_add-count c = omega (arith, turn_bounds register_count _ _ _ c.requires.0 _ _ _ _ _ c.loop-left.invariant, turn_room register_count _ _ _ c.requires.0 _ _ _ _ _ c.loop-left.invariant _ c.unnumbered.ensures c.if-unnumbered.true)

pub bounds-scratch-base : goal.bounds-scratch-base
bounds-scratch-base c = simp length-set (omega (arith, turn_bounds register_count _ _ _ c.requires.0 _ _ _ _ _ c.loop-left.invariant, turn_room register_count _ _ _ c.requires.0 _ _ _ _ _ c.loop-left.invariant _ c.unnumbered.ensures c.if-unnumbered.true))

pub loop-left-smaller-then-unnumbered : goal.loop-left-smaller-then-unnumbered
loop-left-smaller-then-unnumbered c = omega (arith, turn_bounds register_count _ _ _ c.requires.0 _ _ _ _ _ c.loop-left.invariant, turn_room register_count _ _ _ c.requires.0 _ _ _ _ _ c.loop-left.invariant _ c.unnumbered.ensures c.if-unnumbered.true)

pub loop-left-preserved-then-unnumbered : goal.loop-left-preserved-then-unnumbered
loop-left-preserved-then-unnumbered c =
    turn_take register_count _ _ _ c.requires.0 _ _ _ _ _ c.loop-left.invariant _ c.unnumbered.ensures _ _ c.if-unnumbered.true
    c.link_of-left.ensures c.link_of-right.ensures

pub bounds-scratch-base-then-depth-gt0 : goal.bounds-scratch-base-then-depth-gt0
bounds-scratch-base-then-depth-gt0 c = omega (arith, turn_bounds register_count _ _ _ c.requires.0 _ _ _ _ _ c.loop-left.invariant)

pub loop-left-preserved-then-depth-gt0 : goal.loop-left-preserved-then-depth-gt0
loop-left-preserved-then-depth-gt0 c =
    turn_pop register_count _ _ _ c.requires.0 _ _ _ _ _ c.loop-left.invariant _ c.unnumbered.ensures c.if-unnumbered.false
    c.if-depth-gt0.true

pub loop-left-preserved : goal.loop-left-preserved
loop-left-preserved c =
    turn_root register_count _ _ _ c.requires.0 _ _ _ _ _ c.loop-left.invariant _ c.unnumbered.ensures c.if-unnumbered.false _
    c.if-depth-gt0.false c.if-root-lt-REGISTERS.true c.read_register-hand.ensures

pub returns-else-root-lt-REGISTERS : goal.returns-else-root-lt-REGISTERS
returns-else-root-lt-REGISTERS c =
    turn_end register_count _ _ _ c.requires.0 _ _ _ _ _ c.loop-left.invariant _ c.unnumbered.ensures c.if-unnumbered.false
    c.if-depth-gt0.false c.if-root-lt-REGISTERS.false
