-- `image_writer::NumberedPool::write_image` meets its contract: the image's parts are written one behind the other.
use Rattle.pool.specs.Layout.{register_count}
use Rattle.image_writer.proofs.ImageBytes.{put_image_lem}
use Rattle.image_writer.proofs.NumberedPool.write_image.Goals as goal

pub returns : goal.returns
returns c =
    let pool = c.args.self.now in
    put_image_lem register_count pool.cells pool.words.now _ c.args.out.now _ _ _ _ _ _ pool.counted c.write_number-registers.ensures
    c.write_registers-cells.ensures c.write_cells.ensures
