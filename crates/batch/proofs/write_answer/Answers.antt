-- `batch::write_answer` meets its contract: three stores.
use native.Mathlib.Omega.{arith}
use lib.ListN.{length-set}
use Rattle.batch.proofs.write_answer.Goals as goal

pub bounds-answers-k-2 : goal.bounds-answers-k-2
bounds-answers-k-2 c = simp length-set (omega arith)

pub bounds-answers-k-3 : goal.bounds-answers-k-3
bounds-answers-k-3 c = simp length-set (omega arith)

pub returns : goal.returns
returns c = simp (c.status.ensures, c.first.ensures, c.second.ensures)
