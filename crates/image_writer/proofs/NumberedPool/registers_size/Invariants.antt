use Rattle.pool.specs.Layout.{register_count}
use Rattle.image_writer.specs.Steps.{register_bytes}
use Rattle.image_writer.proofs.ImageBytes.{Sizing}
use Rattle.image_writer.proofs.NumberedPool.registers_size.Given as goal

abbrev pub invariant-loop-j : goal.invariant-loop-j
invariant-loop-j l =
    Sizing (register_bytes register_count l.self.cells l.self.words.now 0) (register_bytes register_count l.self.cells l.self.words.now l.j) l.size
