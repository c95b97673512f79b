-- `reversal::visits` meets its contract: the turn goes on where the cell stays in hand.
use mathlib.Core.Path.{sym, ◌∙◌}
use Rattle.pool.specs.Layout.{register_count}
use Rattle.reversal.proofs.RunLoop.{hand_visit, hand_again, turn_once, turn_again, turn_moved}
use Rattle.reversal.proofs.visits.Goals as goal

pub visit-m-requires : goal.visit-m-requires
visit-m-requires g c = hand_visit c.loop-left.invariant.hand

pub returns-then-m-cell : goal.returns-then-m-cell
returns-then-m-cell g c =
    turn_moved register_count _ c.visit-m.ensures _ c.loop-left-test.true (λ e. c.if-m-cell.true (e ∙ c.loop-left.invariant.stays)) ∙ c.loop-left.invariant.same

pub loop-left-preserved : goal.loop-left-preserved
loop-left-preserved g c =
    let stays = c.if-m-cell.false ∙ sym c.loop-left.invariant.stays in
    record {
      hand = hand_again register_count _ c.visit-m.ensures c.loop-left.invariant.hand stays;
      stays = c.if-m-cell.false;
      same = turn_again register_count _ c.visit-m.ensures _ c.loop-left-test.true stays ∙ c.loop-left.invariant.same;
    }

pub visit-requires : goal.visit-requires
visit-requires g c = hand_visit c.loop-left.invariant.hand

pub returns : goal.returns
returns g c = turn_once register_count _ c.visit.ensures _ c.loop-left-test.false ∙ c.loop-left.invariant.same
