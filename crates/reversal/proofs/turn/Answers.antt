-- `reversal::turn` meets its contract: the state decides how many visits are left.
use native.Mathlib.Omega.{arith}
use Rattle.pool.specs.Layout.{register_count}
use Rattle.reversal.proofs.RunLoop.{hand_visit, turn_once, turn_by_lem}
use Rattle.reversal.proofs.turn.Goals as goal

pub visit-requires : goal.visit-requires
visit-requires c = hand_visit c.requires

pub returns-in-2 : goal.returns-in-2
returns-in-2 c = turn_by_lem register_count _ 0 _ (turn_once register_count _ c.visit.ensures 0 (omega arith)) (omega (arith, c.in-2.is, c.read_cell-mark.ensures))

pub visit-requires-in_default : goal.visit-requires-in_default
visit-requires-in_default c = hand_visit c.requires

pub returns-in_default : goal.returns-in_default
returns-in_default c = turn_by_lem register_count _ 0 _ (turn_once register_count _ c.visit-in_default.ensures 0 (omega arith)) (omega (arith, c.read_cell-mark.ensures))
