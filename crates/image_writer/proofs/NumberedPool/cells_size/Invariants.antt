use Rattle.pool.specs.Layout.{register_count}
use Rattle.image_writer.specs.Steps.{order_bytes}
use Rattle.image_writer.proofs.ImageBytes.{Sizing}
use Rattle.image_writer.proofs.NumberedPool.cells_size.Given as goal

abbrev pub invariant-loop-p : goal.invariant-loop-p
invariant-loop-p l =
    Sizing (order_bytes register_count l.self.cells l.self.words.now 0) (order_bytes register_count l.self.cells l.self.words.now l.p) l.size
