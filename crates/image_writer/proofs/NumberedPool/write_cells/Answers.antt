-- `image_writer::NumberedPool::write_cells` meets its contract: what is done is written, and the rest is left (`Writing`).
use native.Mathlib.Omega.{arith}
use Rattle.pool.specs.Layout.{register_count}
use Rattle.image_writer.proofs.ImageBytes.{writing_room, writing_more, writing_last, next-cell, last-cell}
use Rattle.image_writer.proofs.NumberedPool.write_cells.Goals as goal

pub put_cell-at-requires : goal.put_cell-at-requires
put_cell-at-requires c =
    let pool = c.args.self.now in
    writing_room _ _ _ c.requires _ _ _ c.loop-p.invariant _ _
    (next-cell register_count pool.cells pool.words.now c.loop-p.p _ (omega (arith, pool.counted)) c.saved_cell.ensures)

pub loop-p-preserved : goal.loop-p-preserved
loop-p-preserved c =
    let pool = c.args.self.now in
    writing_more _ _ _ c.requires _ _ _ c.loop-p.invariant _ _ _ _
    (next-cell register_count pool.cells pool.words.now c.loop-p.p _ (omega (arith, pool.counted)) c.saved_cell.ensures) c.put_cell-at.ensures
    c.put_cell-at.auto.out

pub returns : goal.returns
returns c =
    let pool = c.args.self.now in
    writing_last _ _ _ c.requires _ _ _ c.loop-p.invariant (last-cell register_count pool.cells pool.words.now c.loop-p.p (omega (arith, pool.counted)))
