-- `pool::cell_count_of_length` meets its contract: too short, too many cells, or as many as are counted.
use native.Mathlib.Omega.{arith}
use mathlib.Core.Path.{sym}
use Rattle.pool.specs.Layout.{register_count}
use Rattle.pool.proofs.Sizes.{fitting, too_short, too_long}
use Rattle.pool.proofs.cell_count_of_length.Goals as goal

pub returns-then-len : goal.returns-then-len
returns-then-len c = sym (too_short register_count c.args.len (omega (arith, c.if-len.true)))

pub returns-then-cells : goal.returns-then-cells
returns-then-cells c = sym (too_long register_count c.args.len (omega (arith, c.if-cells.true)))

pub returns : goal.returns
returns c = (fitting register_count c.args.len c.if-len.false (omega (arith, c.if-cells.false)), λ e. omega (arith, c.if-len.false))
