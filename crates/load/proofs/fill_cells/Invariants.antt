use Prim.Native.Nat.{◌+◌}
use mathlib.Core.Path.{◌≡◌}
use lib.ListN.{length}
use Rattle.pool.specs.Layout.{register_count}
use Rattle.image.specs.Image.{read_cell}
use Rattle.load.specs.Load.{put_fields}
use Rattle.load.proofs.Filling.{Filling}
use Rattle.load.proofs.fill_cells.Given as goal

abbrev pub invariant-loop-i : goal.invariant-loop-i
invariant-loop-i l = (length l.words ≡ length l.initial.words) × Filling (read_cell l.k l.bytes) (put_fields register_count) l.k l.start 1 l.initial.words l.words l.i l.at (l.i + 1)
