-- The visit by its cases is the visit of the definition.
use Prim.Native.Nat.{ℕ, suc, ◌<◌}
use native.Mathlib.Omega.{arith}
use mathlib.Core.Path.{◌≡◌, refl}
use mathlib.Core.List.{List}
use mathlib.Core.Bool.{Bool, true, false, cond, ◌||◌}
use lib.Dec.{eqb}
use Rattle.pool.specs.Layout.{state, left, right, is_point_at}
use Rattle.pool.specs.States.{is_point, is_marked}
use Rattle.pool.proofs.Laws.{cell_other}
use Rattle.visit.specs.declared.Marker.{Marker}
use Rattle.visit.specs.declared.VisitCase.{VisitCase}
use Rattle.visit.specs.declared.VisitCase.TheVariants as visit
use Rattle.visit.specs.Visit.{unmarked, visit_of, marker}
use Rattle.visit.specs.Cases.{case_of, set_links, act_of, added, visit_by_case}
use Rattle.visit.specs.VisitTheorem.{VisitIsByCase}

-- the case as its tests have it
abbrev pub chosen : Bool → Bool → Bool → Bool → VisitCase
chosen point third first onward =
    cond point visit.Point (cond third visit.Retreat (cond first (cond onward visit.FollowLeft visit.PassLeft) (cond onward visit.FollowRight visit.PassRight)))

-- the mark and the next link, once they are read, and tested
pub case_told : (R : ℕ) (w : List ℕ) (p : ℕ) {mark next : ℕ} {point third first onward : Bool} → mark ≡ state R w p → next ≡ left R w p → is_point mark ≡ point
    → is_marked mark ≡ third → eqb mark 1 ≡ first → unmarked R w next ≡ onward → chosen point third first onward ≡ case_of R w p
case_told R w p e-mark e-next e-point e-third e-first e-onward = rw (← e-point, ← e-third, ← e-first, ← e-onward, e-mark, e-next) refl

-- what the case of a pair does: one of two exchanges
acts : (R : ℕ) (third first onward : Bool) (s : Marker × List ℕ)
    → act_of R (chosen false third first onward) s
    ≡ (
      cond (third || onward) (marker (left R s.1 s.0.cell) s.0.cell s.0.visits) (marker s.0.cell (left R s.1 s.0.cell) s.0.visits),
      set_links R s.1 s.0.cell (right R s.1 s.0.cell) s.0.previous,
    )
acts R true first onward s = refl
acts R false true true s = refl
acts R false true false s = refl
acts R false false true s = refl
acts R false false false s = refl

-- the next link is the one of before the addition
pub next-link : (R : ℕ) (s : Marker × List ℕ) → 0 < s.0.cell → left R (added R s) s.0.cell ≡ left R s.1 s.0.cell
next-link R s positive = cell_other R s.1 s.0.cell 0 (suc (state R s.1 s.0.cell)) s.0.cell 1 positive (omega arith) positive (omega arith) (omega arith)

pub visit_is_by_case : VisitIsByCase
unfolding visit_of
visit_is_by_case R n s v = go (is_point_at R w p) refl
  where
    p : ℕ
    p = s.0.cell

    w : List ℕ
    w = added R s

    go : (t : Bool) → is_point_at R w p ≡ t → visit_by_case R s ≡ visit_of R s
    go true e = rw e refl
    go false e =
        rw (
          e,
          acts R (is_marked (state R w p)) (eqb (state R w p) 1) (unmarked R w (left R w p)) (marker p s.0.previous (suc s.0.visits), w),
          next-link R s v.positive,
        )
        refl
