-- `image_writer::NumberedPool::image_size` meets its contract: it is the sum of the sizes of the image's parts.
use native.Mathlib.Omega.{arith}
use Rattle.leb128.proofs.Encoding.{encode-size}
use Rattle.pool.specs.Layout.{register_count}
use Rattle.numbering.proofs.Ordering.{few-kept}
use Rattle.image_writer.proofs.ImageBytes.{registers-most, cells-most}
use Rattle.image_writer.proofs.NumberedPool.image_size.Goals as goal

pub overflow_add-result : goal.overflow_add-result
overflow_add-result c =
    let pool = c.args.self.now in
    omega (
      arith,
      c.number_size.ensures,
      c.registers_size.ensures,
      encode-size pool.count,
      registers-most register_count pool.cells pool.words.now,
    )

pub overflow_add-result-2 : goal.overflow_add-result-2
overflow_add-result-2 c =
    let pool = c.args.self.now in
    omega (
      arith,
      c.number_size.ensures,
      c.registers_size.ensures,
      c.cells_size.ensures,
      encode-size pool.count,
      registers-most register_count pool.cells pool.words.now,
      cells-most register_count pool.cells pool.words.now,
      few-kept register_count pool.cells pool.words.now pool.scratch.now pool.savable,
      pool.savable.most,
    )
