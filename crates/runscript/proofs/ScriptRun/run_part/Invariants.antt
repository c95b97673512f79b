-- What was printed, and then what the rest prints, is what the script prints. The measure is what is left of the part.
use Prim.Native.Nat.{◌-◌}
use lib.ListN.{length}
use Rattle.runner.specs.Work.{handed}
use Rattle.runscript.proofs.Running.{Running}
use Rattle.runscript.proofs.ScriptRun.run_part.Given as goal

abbrev pub invariant-loop-self : goal.invariant-loop-self
invariant-loop-self g l = Running l.bytes l.fn.self.words (handed l.fn.self.progress) l.self.words l.self.progress

abbrev pub decreases-loop-self : goal.decreases-loop-self
decreases-loop-self g l = length l.bytes - l.self.progress.at
