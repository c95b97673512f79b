use Rattle.pool.specs.Layout.{register_count}
use Rattle.image_writer.specs.Steps.{register_bytes}
use Rattle.image_writer.proofs.ImageBytes.{Writing}
use Rattle.image_writer.proofs.NumberedPool.write_registers.Given as goal

abbrev pub invariant-loop-j : goal.invariant-loop-j
invariant-loop-j l =
    Writing (register_bytes register_count l.self.cells l.self.words.now 0) l.initial.out l.start
    (register_bytes register_count l.self.cells l.self.words.now l.j) l.out l.at
