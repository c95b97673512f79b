use Prim.Native.Nat.{ℕ}
use mathlib.Core.Path.{◌≡◌}
use lib.ListN.{length}
use Rattle.pool.specs.Layout.{register_count, set_register}
use Rattle.image.specs.Image.{read_link}
use Rattle.load.proofs.Filling.{Filling}
use Rattle.load.proofs.fill_registers.Given as goal

abbrev pub invariant-loop-j : goal.invariant-loop-j
invariant-loop-j l = (length l.words ≡ length l.initial.words) × ((k : ℕ) → Filling (read_link k l.bytes) set_register register_count l.start 0 l.initial.words l.words l.j l.at l.j)
