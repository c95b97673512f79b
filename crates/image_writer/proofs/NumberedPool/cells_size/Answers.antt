-- `image_writer::NumberedPool::cells_size` meets its contract: the sum and the bytes that are left make the whole (`Sizing`).
use native.Mathlib.Omega.{arith}
use Rattle.pool.specs.Layout.{register_count}
use Rattle.numbering.proofs.Ordering.{few-kept}
use Rattle.image_writer.proofs.ImageBytes.{sizing_more, sizing_last, next-cell, last-cell, cells-most}
use Rattle.image_writer.proofs.NumberedPool.cells_size.Goals as goal

pub overflow_add-size : goal.overflow_add-size
overflow_add-size c =
    let pool = c.args.self.now in
    omega (
      arith,
      (sizing_more _ _ _ c.loop-p.invariant _ _ _ (next-cell register_count pool.cells pool.words.now c.loop-p.p _ (omega (arith, pool.counted)) c.saved_cell.ensures) c.cell_size-size.ensures).sum,
      cells-most register_count pool.cells pool.words.now,
      few-kept register_count pool.cells pool.words.now pool.scratch.now pool.savable,
      pool.savable.most,
    )

pub loop-p-preserved : goal.loop-p-preserved
loop-p-preserved c =
    let pool = c.args.self.now in
    sizing_more _ _ _ c.loop-p.invariant _ _ _ (next-cell register_count pool.cells pool.words.now c.loop-p.p _ (omega (arith, pool.counted)) c.saved_cell.ensures)
    c.cell_size-size.ensures

pub returns : goal.returns
returns c =
    let pool = c.args.self.now in
    sizing_last _ _ _ c.loop-p.invariant (last-cell register_count pool.cells pool.words.now c.loop-p.p (omega (arith, pool.counted)))
