-- `stack_check::walk_entries` meets its contract: each turn is the walk from one entry (`Down`), from the top one to the bottom.
use native.Mathlib.Omega.{arith}
use Rattle.stack_check.proofs.Descending.{down_first, down_length, down_walkable, down_next, down_last}
use Rattle.stack_check.proofs.walk_entries.Goals as goal

pub loop-i-init : goal.loop-i-init
loop-i-init c = down_first _ _ _ _

pub walk-requires : goal.walk-requires
walk-requires c =
    record {
      walkable = down_walkable _ _ _ _ c.loop-i.invariant c.loop-i-test.true c.requires.checkable;
      n_in_bounds = omega (arith, c.requires.n_in_bounds, down_length _ _ _ _ c.loop-i.invariant c.requires.checkable);
    }

pub loop-i-preserved : goal.loop-i-preserved
loop-i-preserved c = down_next _ _ _ _ c.loop-i.invariant c.loop-i-test.true _ _ c.walk.ensures

pub returns : goal.returns
returns c = down_last _ _ _ _ c.loop-i.invariant c.loop-i-test.false
