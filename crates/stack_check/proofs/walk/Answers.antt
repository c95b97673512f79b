-- `stack_check::walk` meets its contract: each turn is a step of the definition's walk (`WalkLoop`), and leaves fewer cells unmarked.
use native.Mathlib.Omega.{arith}
use mathlib.Core.Path.{refl, ap, ◌∙◌}
use mathlib.Core.List.Memᴰ
use Rattle.pool.specs.States.{is_marked}
use Rattle.stack_check.proofs.Marked.{links_told}
use Rattle.stack_check.proofs.Walking.{walk_first, walk-cell, walk-links, walk-marked, walk-length, walk_new, walk_kept, walk-dropped, walk_go, walk_less}
use Rattle.stack_check.proofs.walk.Goals as goal

pub read_cell-state-requires : goal.read_cell-state-requires
read_cell-state-requires c =
    let first = walk-cell _ _ _ _ c.requires.n_in_bounds (walk_first _ _ _ _ c.requires.n_in_bounds) c.requires.walkable in
    (first.0, omega arith, omega (arith, first.1, c.requires.n_in_bounds))

pub loop-x-init : goal.loop-x-init
loop-x-init c = (walk_first _ _ _ _ c.requires.n_in_bounds, c.read_cell-state.ensures)

pub look-requires : goal.look-requires
look-requires c =
    record {
      marked_state = (c.loop-x.invariant.1, ap is_marked c.loop-x.invariant.1 ∙ walk-marked _ _ _ _ c.requires.n_in_bounds c.loop-x.invariant.0 c.requires.walkable);
      used_or_marked = walk-links _ _ _ _ c.requires.n_in_bounds c.loop-x.invariant.0 c.requires.walkable;
      cells = walk-cell _ _ _ _ c.requires.n_in_bounds c.loop-x.invariant.0 c.requires.walkable;
    }

pub returns-in-Both : goal.returns-in-Both
returns-in-Both c = λ h. walk_kept _ _ _ _ c.requires.n_in_bounds c.loop-x.invariant.0 h _ _ (links_told c.in-Both.is c.look.ensures)

pub mark_cell-requires : goal.mark_cell-requires
mark_cell-requires c =
    let (low, high, used) = walk_new _ _ _ _ c.requires.n_in_bounds c.loop-x.invariant.0 c.requires.walkable _ (links_told c.in-To.is c.look.ensures) _ (Memᴰ.head refl) in
    (low, omega (arith, c.requires.n_in_bounds, walk-length _ _ _ _ c.requires.n_in_bounds c.loop-x.invariant.0 c.requires.walkable), used)

pub read_cell-state-requires-in-To : goal.read_cell-state-requires-in-To
read_cell-state-requires-in-To c =
    let (low, high, used) = walk_new _ _ _ _ c.requires.n_in_bounds c.loop-x.invariant.0 c.requires.walkable _ (links_told c.in-To.is c.look.ensures) _ (Memᴰ.head refl) in
    (low, omega arith, omega (arith, c.requires.n_in_bounds, c.mark_cell.auto.words, walk-length _ _ _ _ c.requires.n_in_bounds c.loop-x.invariant.0 c.requires.walkable))

pub loop-x-smaller : goal.loop-x-smaller
loop-x-smaller c = walk_less _ _ _ _ c.requires.n_in_bounds c.loop-x.invariant.0 c.requires.walkable _ _ (links_told c.in-To.is c.look.ensures) c.mark_cell.ensures

pub loop-x-preserved : goal.loop-x-preserved
loop-x-preserved c = (walk_go _ _ _ _ c.requires.n_in_bounds c.loop-x.invariant.0 _ _ (links_told c.in-To.is c.look.ensures) c.mark_cell.ensures, c.read_cell-state-in-To.ensures)

pub returns-in-Nowhere : goal.returns-in-Nowhere
returns-in-Nowhere c = λ h. walk-dropped _ _ _ _ c.requires.n_in_bounds c.loop-x.invariant.0 h (links_told c.in-Nowhere.is c.look.ensures)
