use Prim.Native.Nat.{suc, ◌-◌, ◌^◌}
use Rattle.pool.specs.Layout.{register_count}
use Rattle.visit.specs.Visit.{marker}
use Rattle.reversal.proofs.RunLoop.{Leads}
use Rattle.reversal.proofs.mark_from.Given as goal

abbrev pub invariant-loop-m : goal.invariant-loop-m
invariant-loop-m l = Leads register_count l.n (marker l.p (suc l.n) l.visits, l.initial.words) (l.m, l.words)

abbrev pub decreases-loop-m : goal.decreases-loop-m
decreases-loop-m l = 2 ^ 32 - l.m.visits
