use Rattle.pool.specs.Layout.{register_count}
use Rattle.pool.proofs.Freeing.{Freeing}
use Rattle.pool.proofs.free_above.Given as goal

abbrev pub invariant-loop-i : goal.invariant-loop-i
invariant-loop-i l = Freeing register_count l.k l.n l.initial.words l.words l.i l.next
