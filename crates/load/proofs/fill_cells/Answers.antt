-- `load::fill_cells` meets its contract: what was read is in its place (`Filling`).
use native.Mathlib.Omega.{arith}
use mathlib.Core.Path.{◌∙◌}
use Rattle.pool.specs.Layout.{register_count}
use Rattle.load.specs.Load.{put_fields}
use Rattle.load.proofs.Filling.{filling_more, filling_last}
use Rattle.load.proofs.fill_cells.Goals as goal

pub loop-i-preserved : goal.loop-i-preserved
loop-i-preserved c = (
  c.fill_cell-at.auto.words ∙ c.loop-i.invariant.0,
  filling_more _ (put_fields register_count) _ _ _ _ _ _ _ _ c.loop-i.invariant.1 _ _ c.loop-i-test.true (c.fill_cell-at.ensures _),
)

pub returns : goal.returns
returns c = λ list end e. (filling_last _ (put_fields register_count) _ _ _ _ _ _ _ _ c.loop-i.invariant.1 (omega arith) list end e).0
