use Prim.Native.Nat.{◌-◌}
use lib.ListN.{length}
use Rattle.runner.proofs.Working.{Going}
use Rattle.runner.proofs.work.Given as goal

abbrev pub invariant-loop-words : goal.invariant-loop-words
invariant-loop-words l = Going l.bytes l.initial.words l.initial.out l.initial.p l.words l.out l.p

abbrev pub decreases-loop-words : goal.decreases-loop-words
decreases-loop-words l = length l.bytes - l.p.at
