-- `runscript::run` keeps its loop's invariant: at the start nothing is read, and a part that is read and run goes on.
use Prim.Native.Nat.{ℕ}
use lib.ListN.{length-replicate}
use Rattle.pool.specs.Layout.{cell_limit, register_count, pool_length}
use Rattle.runscript.proofs.Running.{so_far_start, so_far_on}
use Rattle.runscript.proofs.run.Goals as goal

pub parts-init : goal.parts-init
parts-init g c = rw c.start.ensures (so_far_start _ (length-replicate {A = ℕ} (pool_length register_count cell_limit) 0))

pub parts-preserved : goal.parts-preserved
parts-preserved g c = so_far_on _ _ _ _ _ c.parts.invariant (c.in_ok-read_part.ensures c.if-not-branch.false)
