-- One visit as the code makes it, step by step, is the visit of the definition.
use Prim.Native.Nat.{ℕ, ◌+◌, ◌<◌, ◌≤◌}
use native.Mathlib.Omega.{arith}
use native.Mathlib.Numerals.{add-one}
use mathlib.Core.Path.{◌≡◌, ap, ◌∙◌}
use mathlib.Core.Logic.{⊎_elim}
use mathlib.Core.List.{List}
use mathlib.Core.Bool.{false}
use lib.ListN.{length}
use Rattle.pool.specs.Layout.{pool_length, set_cell, state, left}
use Rattle.pool.specs.States.{point_state, is_marked}
use Rattle.pool.proofs.States.{unmarked_other}
use Rattle.pool.proofs.Laws.{cell_same}
use Rattle.visit.specs.declared.Marker.{Marker}
use Rattle.visit.specs.declared.VisitCase.{VisitCase}
use Rattle.visit.specs.Visit.{visit_of, Visitable, marker}
use Rattle.visit.specs.Cases.{case_of, act_of, added}
use Rattle.visit.proofs.Cases.{next-link, visit_is_by_case}

-- the addition to the mark
pub record Added (R n : ℕ) (m : Marker) (w w₁ : List ℕ) : Type 0 where
  pub visitable : Visitable R n (m, w)
  pub room : pool_length R n ≤ length w
  pub words : w₁ ≡ set_cell R w m.cell 0 (state R w m.cell + 1)

module _ {R n : ℕ} {m : Marker} {w w₁ : List ℕ} (h : Added R n m w w₁) where
  written : w₁ ≡ added R (m, w)
  written = h.words ∙ ap (set_cell R w m.cell 0) (add-one (state R w m.cell))

  -- the mark then
  mark_now : state R w₁ m.cell ≡ state R w m.cell + 1
  mark_now =
      ap (λ (v : List ℕ). state R v m.cell) h.words
      ∙ cell_same R w m.cell 0 (state R w m.cell + 1) h.visitable.positive (omega arith) (omega (arith, h.room, h.visitable.bounded))

  -- is not that of a point that is not marked yet
  not_point : state R w₁ m.cell ≡ point_state → ⊥
  not_point e = ⊎_elim (λ is. omega (arith, mark_now)) (λ low. omega (arith, mark_now)) h.visitable.early

  -- unless the cell is marked now, the next link is nil or a cell
  next_bound : is_marked (state R w₁ m.cell) ≡ false → left R w₁ m.cell ≤ n
  next_bound other =
      let p = m.cell in
      let mark = mark_now in
      let same : left R w₁ p ≡ left R w p = ap (λ (v : List ℕ). left R v p) written ∙ next-link R (m, w) h.visitable.positive in
      let (apart, apart') = unmarked_other (state R w₁ p) other in
      rw same (h.visitable.link (⊎_elim (λ e. absurd (apart' (omega arith))) (λ low. omega (arith, mark, low, apart)) h.visitable.early))

  -- so the case can be chosen
  pub choosable : length w₁ ≡ length w
      → ((0 < m.cell) × (pool_length R m.cell ≤ length w₁) × (state R w₁ m.cell ≡ point_state → ⊥))
      × (is_marked (state R w₁ m.cell) ≡ false → pool_length R (left R w₁ m.cell) ≤ length w₁)
  choosable same = (
    (h.visitable.positive, omega (arith, h.visitable.bounded, h.room, same), not_point),
    λ other. omega (arith, next_bound other, h.room, same),
  )

  -- the case does what the visit does
  pub visit_made : (case : VisitCase) → case ≡ case_of R w₁ m.cell
      → act_of R case (marker m.cell m.previous (m.visits + 1), w₁) ≡ visit_of R (m, w)
  visit_made case chosen = rw (chosen, written, add-one) (visit_is_by_case R n (m, w) h.visitable)
