-- `reversal::mark` meets its contract: the loop makes the runs over the registers (`Marking`), from the first to the last.
use native.Mathlib.Omega.{arith}
use mathlib.Core.Path.{sym, ◌∙◌}
use Rattle.reversal.proofs.RootLoop.{marking_first, marking_bound, marking_ends, marking_run, marking_skip, marking_last}
use Rattle.reversal.proofs.mark.Goals as goal
use Rattle.reversal.proofs.mark.Goals.{then-is_unmarked, else-is_unmarked}

pub loop-k-init : goal.loop-k-init
loop-k-init c = marking_first _ _ _ c.requires.0 c.requires.1

pub is_unmarked-requires : goal.is_unmarked-requires
is_unmarked-requires c = omega (arith, c.requires.1, c.loop-k.invariant.len, marking_bound _ _ _ c.requires.0 c.requires.1 _ _ _ _ c.loop-k.invariant c.loop-k-test.true c.read_register-p.ensures)

pub mark_from-visits-requires : goal.mark_from-visits-requires
mark_from-visits-requires c = (
  marking_ends _ _ _ c.requires.0 c.requires.1 _ _ _ _ c.loop-k.invariant c.loop-k-test.true c.read_register-p.ensures c.requires.2 (sym c.is_unmarked.ensures ∙ c.if-is_unmarked.true),
  omega (arith, c.requires.1, c.loop-k.invariant.len),
  c.requires.2,
)

pub loop-k-preserved : goal.loop-k-preserved
loop-k-preserved c = elim c.if-is_unmarked.branch [
  | then-is_unmarked w ↦
      rw (w.words-is, w.visits-is) (marking_run _ _ _ c.requires.0 c.requires.1 _ _ _ _ c.loop-k.invariant c.loop-k-test.true c.read_register-p.ensures _ _
      (sym c.is_unmarked.ensures ∙ w.if-is_unmarked.true) w.mark_from-visits.ensures)
  | else-is_unmarked w ↦
      rw (w.words-is, w.visits-is) (marking_skip _ _ _ c.requires.0 c.requires.1 _ _ _ _ c.loop-k.invariant c.loop-k-test.true c.read_register-p.ensures
      (sym c.is_unmarked.ensures ∙ w.if-is_unmarked.false))
]

pub returns : goal.returns
returns c = marking_last _ _ _ c.requires.0 c.requires.1 _ _ _ c.loop-k.invariant c.loop-k-test.false
