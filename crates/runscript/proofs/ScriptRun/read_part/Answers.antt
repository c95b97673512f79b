-- `runscript::ScriptRun::read_part` meets its contract: what was read is run, and stands at the start of the buffer.
use Rattle.std.proofs.Common.{rules}
use Rattle.runscript.proofs.Running.{continued}
use Rattle.runscript.proofs.ScriptRun.read_part.Goals as goal

pub returns : goal.returns
returns g c = continued _ _ _ _ _ _ _ _ (search rules) c.run_read.ensures
