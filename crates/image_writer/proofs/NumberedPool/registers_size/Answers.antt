-- `image_writer::NumberedPool::registers_size` meets its contract: the sum and the bytes that are left make the whole (`Sizing`).
use native.Mathlib.Omega.{arith}
use Rattle.pool.specs.Layout.{register_count}
use Rattle.image_writer.proofs.ImageBytes.{sizing_more, sizing_last, next-register, last-register, registers-most}
use Rattle.image_writer.proofs.NumberedPool.registers_size.Goals as goal

pub overflow_add-size : goal.overflow_add-size
overflow_add-size c =
    omega (
      arith,
      (sizing_more _ _ _ c.loop-j.invariant _ _ _ (next-register register_count _ _ _ _ c.loop-j-test.true c.saved_register.ensures) c.number_size-size.ensures).sum,
      registers-most register_count c.args.self.now.cells c.args.self.now.words.now,
    )

pub loop-j-preserved : goal.loop-j-preserved
loop-j-preserved c = sizing_more _ _ _ c.loop-j.invariant _ _ _ (next-register register_count _ _ _ _ c.loop-j-test.true c.saved_register.ensures) c.number_size-size.ensures

pub returns : goal.returns
returns c = sizing_last _ _ _ c.loop-j.invariant (last-register register_count c.args.self.now.cells c.args.self.now.words.now c.loop-j.j (omega arith))
