-- `interpreter::run` meets its contract: the call on the pool's part.
use mathlib.Core.Path.{refl}
use Rattle.interpreter.proofs.Turns.{call-run}
use Rattle.interpreter.proofs.run.Goals as goal

pub returns : goal.returns
returns c = call-run _ _ c.requires _ _ _ _ refl c.perform-step.ensures.1 c.perform-step.auto.words
