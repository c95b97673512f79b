use Prim.Native.Nat.{◌-◌}
use Rattle.pool.specs.Layout.{register_count}
use Rattle.image.specs.Image.{read_link}
use Rattle.image_scan.proofs.Scanning.{Scanning}
use Rattle.image_scan.proofs.scan_registers.Given as goal

abbrev pub invariant-loop : goal.invariant-loop
invariant-loop l = Scanning (read_link l.k l.bytes) register_count l.start (register_count - l.counter) l.at
