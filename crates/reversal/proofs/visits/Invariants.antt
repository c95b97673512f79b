-- The cell is still in hand, and the visits that are left of it lead on to the same turn.
use mathlib.Core.Path.{◌≡◌}
use Rattle.pool.specs.Layout.{register_count}
use Rattle.reversal.specs.Steps.{InHand, turn_of}
use Rattle.reversal.proofs.visits.Given as goal

abbrev pub invariant-loop-left : goal.invariant-loop-left
invariant-loop-left g l = record {
  hand : InHand register_count l.n (l.m, l.words);
  stays : l.m.cell ≡ l.cell;
  same : turn_of register_count l._left (l.m, l.words) ≡ turn_of register_count g.row.MORE (l.initial.m, l.initial.words);
}
