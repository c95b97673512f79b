-- `bounded_stack::mark_from` meets its contract: each turn is one of the definition's (`Hand`), and leaves fewer turns.
use native.Mathlib.Omega.{arith}
use mathlib.Core.Path.{refl, ap, ◌∙◌}
use mathlib.Core.List.Memᴰ
use Rattle.pool.specs.Layout.{register_count}
use Rattle.pool.specs.States.{is_marked}
use Rattle.stack_check.proofs.Marked.{links_told, new_apart}
use Rattle.bounded_stack.proofs.HandLoop.{Ready, hand_first, hand_cell, hand_links, hand_marked, hand_read, hand_length, hand_new, hand_go, less_go, hand_pop, hand_last, hand_checkable, hand_vain, ready_push, ready_checked, checks_fit}
use Rattle.bounded_stack.proofs.mark_from.Goals as goal
use Rattle.bounded_stack.proofs.mark_from.Goals.{Joined-top-stack, then-top-stack+else-remaining-top, else-top-stack}

-- before a push there is room, whether a check was made or not
ready : (c : Joined-top-stack) → Ready register_count c.args.n c.args.p c.args.words.now c.args.stack.now c.loop-left.words c.loop-left.top c.in-Both.left c.in-Both.right c.if-top-stack.words c.if-top-stack.stack c.if-top-stack.top c.if-top-stack.checks
ready c =
    let links = links_told c.in-Both.is c.look.ensures in
    elim c.if-top-stack.branch [
      | then-top-stack+else-remaining-top w ↦ ready_checked _ _ _ _ c.requires.n_in_bounds _ _ _ _ _ _ c.loop-left.invariant.0 _ _ _ links c.mark_both.ensures w.if-top-stack.true _ _ _ w.check-remaining.ensures c.requires.pending w.check-remaining.auto.stack w.if-remaining-top.false w.words-is w.stack-is w.top-is w.checks-is
      | else-top-stack w ↦ ready_push _ _ _ _ c.requires.n_in_bounds _ _ _ _ _ _ c.loop-left.invariant.0 _ _ _ links c.mark_both.ensures c.requires.pending w.if-top-stack.false w.words-is w.stack-is w.top-is w.checks-is
    ]

pub read_cell-state-requires : goal.read_cell-state-requires
read_cell-state-requires c = hand_read _ _ _ _ c.requires.n_in_bounds _ _ _ _ _ _ (hand_first _ _ _ _ c.requires.n_in_bounds c.args.stack.now) c.requires.pending

pub loop-left-init : goal.loop-left-init
loop-left-init c = (hand_first _ _ _ _ c.requires.n_in_bounds _, c.read_cell-state.ensures)

pub look-requires : goal.look-requires
look-requires c =
    record {
      marked_state = (c.loop-left.invariant.1, ap is_marked c.loop-left.invariant.1 ∙ hand_marked _ _ _ _ c.requires.n_in_bounds _ _ _ _ _ _ c.loop-left.invariant.0 c.requires.pending);
      used_or_marked = hand_links _ _ _ _ c.requires.n_in_bounds _ _ _ _ _ _ c.loop-left.invariant.0 c.requires.pending;
      cells = hand_cell _ _ _ _ c.requires.n_in_bounds _ _ _ _ _ _ c.loop-left.invariant.0 c.requires.pending;
    }

pub mark_both-requires-clause-cells : goal.mark_both-requires-clause-cells
mark_both-requires-clause-cells c =
    let links = links_told c.in-Both.is c.look.ensures in
    let (low, high, used) = hand_new _ _ _ _ c.requires.n_in_bounds _ _ _ _ _ _ c.loop-left.invariant.0 c.requires.pending _ links _ (Memᴰ.head refl) in
    let (low', high', used') = hand_new _ _ _ _ c.requires.n_in_bounds _ _ _ _ _ _ c.loop-left.invariant.0 c.requires.pending _ links _ (Memᴰ.tail (Memᴰ.head refl)) in
    let same = hand_length _ _ _ _ c.requires.n_in_bounds _ _ _ _ _ _ c.loop-left.invariant.0 c.requires.pending in
    (low, low', new_apart _ _ _ _ _ links, omega (arith, c.requires.n_in_bounds, same), omega (arith, c.requires.n_in_bounds, same))

pub check-remaining-requires-clause-checkable : goal.check-remaining-requires-clause-checkable
check-remaining-requires-clause-checkable c =
    hand_checkable _ _ _ _ c.requires.n_in_bounds _ _ _ _ _ _ c.loop-left.invariant.0 _ _ _ (links_told c.in-Both.is c.look.ensures) c.mark_both.ensures c.if-top-stack.true c.requires.pending

pub overflow_add-checks : goal.overflow_add-checks
overflow_add-checks c = omega (arith, c.ranges.n, checks_fit _ _ _ _ c.requires.n_in_bounds _ _ _ _ _ _ c.loop-left.invariant.0 _ _ (links_told c.in-Both.is c.look.ensures) c.requires.pending)

pub returns-then-remaining-top : goal.returns-then-remaining-top
returns-then-remaining-top c = λ h. hand_vain _ _ _ _ c.requires.n_in_bounds _ _ _ _ _ _ c.loop-left.invariant.0 _ _ _ (links_told c.in-Both.is c.look.ensures) c.mark_both.ensures c.if-top-stack.true _ c.check-remaining.new.stack _ c.check-remaining.ensures h c.if-remaining-top.true

pub offset_bounds-stack-top : goal.offset_bounds-stack-top
offset_bounds-stack-top c = omega (arith, (ready (goal.at.offset_bounds-stack-top c).Joined-top-stack).room, (ready (goal.at.offset_bounds-stack-top c).Joined-top-stack).lent)

pub bounds-stack-top : goal.bounds-stack-top
bounds-stack-top c = (ready (goal.at.bounds-stack-top c).Joined-top-stack).room

pub overflow_add-top : goal.overflow_add-top
overflow_add-top c = omega (arith, (ready (goal.at.overflow_add-top c).Joined-top-stack).room, (ready (goal.at.overflow_add-top c).Joined-top-stack).lent)

pub read_cell-state-requires-in-Both : goal.read_cell-state-requires-in-Both
read_cell-state-requires-in-Both c = hand_read _ _ _ _ c.requires.n_in_bounds _ _ _ _ _ _ (ready (goal.at.read_cell-state-requires-in-Both c).Joined-top-stack).hand c.requires.pending

pub loop-left-smaller-in-Both : goal.loop-left-smaller-in-Both
loop-left-smaller-in-Both c = (ready (goal.at.loop-left-smaller-in-Both c).Joined-top-stack).less

pub loop-left-preserved-in-Both : goal.loop-left-preserved-in-Both
loop-left-preserved-in-Both c = ((ready (goal.at.loop-left-preserved-in-Both c).Joined-top-stack).hand, c.read_cell-state-in-Both.ensures)

pub mark_cell-requires : goal.mark_cell-requires
mark_cell-requires c =
    let (low, high, used) = hand_new _ _ _ _ c.requires.n_in_bounds _ _ _ _ _ _ c.loop-left.invariant.0 c.requires.pending _ (links_told c.in-To.is c.look.ensures) _ (Memᴰ.head refl) in
    (low, omega (arith, c.requires.n_in_bounds, hand_length _ _ _ _ c.requires.n_in_bounds _ _ _ _ _ _ c.loop-left.invariant.0 c.requires.pending), used)

pub read_cell-state-requires-in-To : goal.read_cell-state-requires-in-To
read_cell-state-requires-in-To c = hand_read _ _ _ _ c.requires.n_in_bounds _ _ _ _ _ _ (hand_go _ _ _ _ c.requires.n_in_bounds _ _ _ _ _ _ c.loop-left.invariant.0 _ _ (links_told c.in-To.is c.look.ensures) c.mark_cell.ensures) c.requires.pending

pub loop-left-smaller-in-To : goal.loop-left-smaller-in-To
loop-left-smaller-in-To c = less_go _ _ _ _ c.requires.n_in_bounds _ _ _ _ _ _ c.loop-left.invariant.0 c.requires.pending _ _ (links_told c.in-To.is c.look.ensures) c.mark_cell.ensures

pub loop-left-preserved-in-To : goal.loop-left-preserved-in-To
loop-left-preserved-in-To c = (hand_go _ _ _ _ c.requires.n_in_bounds _ _ _ _ _ _ c.loop-left.invariant.0 _ _ (links_told c.in-To.is c.look.ensures) c.mark_cell.ensures, c.read_cell-state-in-To.ensures)

pub returns-then-top-eq0 : goal.returns-then-top-eq0
returns-then-top-eq0 c = hand_last _ _ _ _ c.requires.n_in_bounds _ _ _ _ _ _ c.loop-left.invariant.0 (links_told c.in-Nowhere.is c.look.ensures) c.if-top-eq0.true

pub read_cell-state-requires-in-Nowhere : goal.read_cell-state-requires-in-Nowhere
read_cell-state-requires-in-Nowhere c = hand_read _ _ _ _ c.requires.n_in_bounds _ _ _ _ _ _ (hand_pop _ _ _ _ c.requires.n_in_bounds _ _ _ _ _ _ c.loop-left.invariant.0 (links_told c.in-Nowhere.is c.look.ensures) c.if-top-eq0.false) c.requires.pending

pub loop-left-preserved : goal.loop-left-preserved
loop-left-preserved c = (hand_pop _ _ _ _ c.requires.n_in_bounds _ _ _ _ _ _ c.loop-left.invariant.0 (links_told c.in-Nowhere.is c.look.ensures) c.if-top-eq0.false, c.read_cell-state-in-Nowhere.ensures)
