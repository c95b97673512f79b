-- What the loop keeps: a script is run so far, with words for the largest pool.
use Rattle.runscript.specs.Parts.{RunSoFar}
use Rattle.runscript.proofs.run.Given as goal

abbrev pub invariant-parts : goal.invariant-parts
invariant-parts g l = RunSoFar l.run.words l.run.progress
