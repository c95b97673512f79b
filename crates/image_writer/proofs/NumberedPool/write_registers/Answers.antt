-- `image_writer::NumberedPool::write_registers` meets its contract: what is done is written, and the rest is left (`Writing`).
use native.Mathlib.Omega.{arith}
use Rattle.pool.specs.Layout.{register_count}
use Rattle.image_writer.proofs.ImageBytes.{writing_room, writing_more, writing_last, next-register, last-register}
use Rattle.image_writer.proofs.NumberedPool.write_registers.Goals as goal

pub write_number-at-requires : goal.write_number-at-requires
write_number-at-requires c =
    writing_room _ _ _ c.requires _ _ _ c.loop-j.invariant _ _ (next-register register_count _ _ _ _ c.loop-j-test.true c.saved_register.ensures)

pub loop-j-preserved : goal.loop-j-preserved
loop-j-preserved c =
    writing_more _ _ _ c.requires _ _ _ c.loop-j.invariant _ _ _ _ (next-register register_count _ _ _ _ c.loop-j-test.true c.saved_register.ensures)
    c.write_number-at.ensures c.write_number-at.auto.out

pub returns : goal.returns
returns c =
    writing_last _ _ _ c.requires _ _ _ c.loop-j.invariant
    (last-register register_count c.args.self.now.cells c.args.self.now.words.now c.loop-j.j (omega arith))
