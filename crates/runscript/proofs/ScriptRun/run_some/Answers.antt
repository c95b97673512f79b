-- `runscript::ScriptRun::run_some` meets its contract: what waits behind the work is written.
use Rattle.std.proofs.Common.{rules}
use Rattle.runscript.proofs.Running.{lines-run}
use Rattle.runscript.proofs.ScriptRun.run_some.Goals as goal

pub returns : goal.returns
returns g c = lines-run _ _ _ _ _ _ _ c.work-progress.ensures c.requires (search rules) c.work-progress.auto.out
