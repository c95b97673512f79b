-- `recursive_marker::visit` meets its contract: its calls may rely on what the visits of the two links need (`CellVisit`); the depth left falls.
use native.Mathlib.Omega.{arith}
use mathlib.Core.Path.{sym, ◌∙◌}
use Rattle.pool.specs.Layout.{register_count}
use Rattle.recursive_marker.proofs.CellVisit.{visit-none, point-fits, visit-point, visit-pair, visit-left, visit-right, visit-fits, visit-fits_2, visit-all}
use Rattle.recursive_marker.proofs.+visit.Goals as goal

-- a point: it is marked, and that is its one visit
pub overflow_add-result : goal.overflow_add-result
overflow_add-result t c =
    omega (arith, point-fits register_count _ _ _ _ _ c.requires (sym c.is_unmarked.ensures ∙ c.if-is_unmarked.true) (sym c.is_point_at.ensures ∙ c.if-is_point_at.true))

pub returns-then-is_point_at : goal.returns-then-is_point_at
returns-then-is_point_at t c =
    λ h. visit-point register_count _ _ _ _ _ h (sym c.is_unmarked.ensures ∙ c.if-is_unmarked.true) (sym c.is_point_at.ensures ∙ c.if-is_point_at.true) _ c.mark_cell.ensures

-- a pair: its links are visited too
pub overflow_sub-depth : goal.overflow_sub-depth
overflow_sub-depth t c =
    (visit-pair register_count _ _ _ _ _ c.requires (sym c.is_unmarked.ensures ∙ c.if-is_unmarked.true) (sym c.is_point_at.ensures ∙ c.if-is_point_at.false)).0

pub overflow_add-visits : goal.overflow_add-visits
overflow_add-visits t c =
    omega (arith, (visit-pair register_count _ _ _ _ _ c.requires (sym c.is_unmarked.ensures ∙ c.if-is_unmarked.true) (sym c.is_point_at.ensures ∙ c.if-is_point_at.false)).1)

pub visit-after_left-requires : goal.visit-after_left-requires
visit-after_left-requires t c = (
  omega (arith, c.decreases, (visit-pair register_count _ _ _ _ _ c.requires (sym c.is_unmarked.ensures ∙ c.if-is_unmarked.true) (sym c.is_point_at.ensures ∙ c.if-is_point_at.false)).0),
  visit-left register_count _ _ _ _ _ c.requires (sym c.is_unmarked.ensures ∙ c.if-is_unmarked.true) (sym c.is_point_at.ensures ∙ c.if-is_point_at.false) _ _ c.mark_cell-then-is_unmarked.ensures c.link_of-left.ensures,
)

pub overflow_sub-depth-then-is_unmarked : goal.overflow_sub-depth-then-is_unmarked
overflow_sub-depth-then-is_unmarked t c =
    (visit-pair register_count _ _ _ _ _ c.requires (sym c.is_unmarked.ensures ∙ c.if-is_unmarked.true) (sym c.is_point_at.ensures ∙ c.if-is_point_at.false)).0

pub overflow_add-after_left : goal.overflow_add-after_left
overflow_add-after_left t c =
    record { fits = visit-fits register_count _ _ _ _ _ c.requires (sym c.is_unmarked.ensures ∙ c.if-is_unmarked.true) (sym c.is_point_at.ensures ∙ c.if-is_point_at.false) _ _ c.mark_cell-then-is_unmarked.ensures c.link_of-left.ensures _ _ _ c.visit-after_left.ensures c.link_of-right.ensures }

pub visit-after_right-requires : goal.visit-after_right-requires
visit-after_right-requires t c = (
  omega (arith, c.decreases, (visit-pair register_count _ _ _ _ _ c.requires (sym c.is_unmarked.ensures ∙ c.if-is_unmarked.true) (sym c.is_point_at.ensures ∙ c.if-is_point_at.false)).0),
  visit-right register_count _ _ _ _ _ c.requires (sym c.is_unmarked.ensures ∙ c.if-is_unmarked.true) (sym c.is_point_at.ensures ∙ c.if-is_point_at.false) _ _ c.mark_cell-then-is_unmarked.ensures c.link_of-left.ensures _ _ _ c.visit-after_left.ensures c.link_of-right.ensures,
)

pub overflow_add-result-then-is_unmarked : goal.overflow_add-result-then-is_unmarked
overflow_add-result-then-is_unmarked t c =
    omega (arith, visit-fits_2 register_count _ _ _ _ _ c.requires (sym c.is_unmarked.ensures ∙ c.if-is_unmarked.true) (sym c.is_point_at.ensures ∙ c.if-is_point_at.false) _ _ c.mark_cell-then-is_unmarked.ensures c.link_of-left.ensures _ _ _ c.visit-after_left.ensures c.link_of-right.ensures _ _ c.visit-after_right.ensures)

pub returns-else-is_point_at : goal.returns-else-is_point_at
returns-else-is_point_at t c =
    λ h. visit-all register_count _ _ _ _ _ h (sym c.is_unmarked.ensures ∙ c.if-is_unmarked.true) (sym c.is_point_at.ensures ∙ c.if-is_point_at.false) _ _ c.mark_cell-then-is_unmarked.ensures c.link_of-left.ensures _ _ _ c.visit-after_left.ensures c.link_of-right.ensures _ _ c.visit-after_right.ensures

pub returns-else-is_unmarked : goal.returns-else-is_unmarked
returns-else-is_unmarked t c =
    λ h. visit-none register_count _ _ _ _ _ h (sym c.is_unmarked.ensures ∙ c.if-is_unmarked.false)
