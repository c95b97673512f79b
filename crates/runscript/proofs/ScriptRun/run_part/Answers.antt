-- `runscript::ScriptRun::run_part` meets its contract: each turn runs lines of the part, and so it does where writing fails.
use mathlib.Core.Bool.{false≢true}
use Rattle.std.proofs.Common.{rules}
use Rattle.runscript.proofs.Running.{running_on, part-run}
use Rattle.runscript.proofs.ScriptRun.run_part.Goals as goal

pub loop-self-preserved : goal.loop-self-preserved
loop-self-preserved g c = running_on _ _ _ _ _ _ _ _ c.loop-self.invariant c.run_some.ensures

pub returns-in_err-run_some : goal.returns-in_err-run_some
returns-in_err-run_some g c =
    part-run _ _ c.args.self.now.progress _ _ _ (running_on _ _ _ _ _ _ _ _ c.loop-self.invariant c.run_some.ensures)
    (λ written. absurd (false≢true (search rules)))

pub returns : goal.returns
returns g c = part-run _ _ c.args.self.now.progress _ _ _ c.loop-self.invariant (λ _. c.loop-self-test.false)
