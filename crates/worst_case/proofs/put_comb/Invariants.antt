use mathlib.Core.Path.{◌≡◌}
use Rattle.pool.specs.Layout.{register_count}
use Rattle.worst_case.specs.WorstCase.{put_comb}
use Rattle.worst_case.proofs.put_comb.Given as goal

abbrev pub invariant-loop-i : goal.invariant-loop-i
invariant-loop-i l = put_comb register_count l.n l.i l.words ≡ put_comb register_count l.n l.n l.initial.words
