use Rattle.pool.specs.Layout.{register_count}
use Rattle.image_writer.specs.Steps.{order_bytes}
use Rattle.image_writer.proofs.ImageBytes.{Writing}
use Rattle.image_writer.proofs.NumberedPool.write_cells.Given as goal

abbrev pub invariant-loop-p : goal.invariant-loop-p
invariant-loop-p l =
    Writing (order_bytes register_count l.self.cells l.self.words.now 0) l.initial.out l.start
    (order_bytes register_count l.self.cells l.self.words.now l.p) l.out l.at
