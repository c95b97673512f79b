-- `pool::free_above` meets its contract: the cells above i are freed (`Freeing`); i falls.
use Rattle.pool.specs.Layout.{register_count}
use Rattle.pool.proofs.Freeing.{freeing_first, freeing_turn, freeing_last}
use Rattle.pool.proofs.free_above.Goals as goal

pub loop-i-init : goal.loop-i-init
loop-i-init c = freeing_first register_count _ _ _ c.requires.0 c.requires.1

pub loop-i-preserved : goal.loop-i-preserved
loop-i-preserved c = freeing_turn register_count _ _ _ c.requires.0 c.requires.1 _ _ _ c.loop-i.invariant _ c.loop-i-test.true c.put_cell.ensures

pub returns : goal.returns
returns c = freeing_last register_count _ _ _ c.requires.0 c.requires.1 _ _ _ c.loop-i.invariant _ c.loop-i-test.false c.requires.2 c.write_head.ensures
