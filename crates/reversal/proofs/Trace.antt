-- The visits that are made, as lists: what their cases do, and that those of two parts are those of the first and then those of the second.
use Prim.Native.Nat.{ℕ, suc, ◌+◌}
use native.Mathlib.Omega.{arith}
use mathlib.Core.Path.{◌≡◌, refl, ap, ◌∙◌}
use mathlib.Core.List.{List, [], ◌∷◌, ◌++◌}
use mathlib.Core.Bool.{Bool, true, false, cond, ◌||◌, ◌&&◌, not}
use Rattle.visit.specs.declared.Marker.{Marker}
use Rattle.visit.specs.declared.VisitCase.{VisitCase}
use Rattle.visit.specs.Visit.{visit_of}
use Rattle.visit.specs.Cases.{visit_case}
use Rattle.visit.proofs.Cases.{chosen}
use Rattle.reversal.specs.Reversal.{Visits}
use Rattle.reversal.specs.Trace.{trace, follows, is_four_way, followed, four_ways}

-- the four-way exchange comes at the third visit of a pair and where the link is unmarked
pub four_way_lem : (third first onward : Bool) → is_four_way (chosen false third first onward) ≡ (third || onward)
four_way_lem true first onward = refl
four_way_lem false true true = refl
four_way_lem false true false = refl
four_way_lem false false true = refl
four_way_lem false false false = refl

-- an unmarked link is followed, but not at the third visit
pub goes_on : (third first onward : Bool) → follows (chosen false third first onward) ≡ (not third && onward)
goes_on true first onward = refl
goes_on false true true = refl
goes_on false true false = refl
goes_on false false true = refl
goes_on false false false = refl

trace-count : (R : ℕ) (s : Marker × List ℕ) {i j : ℕ} → i ≡ j → trace R i s ≡ trace R j s
trace-count R s e = ap (λ (i : ℕ). trace R i s) e

pub trace-append : (R n : ℕ) {k : ℕ} {s t : Marker × List ℕ} → Visits R n k s t → (j : ℕ) → trace R (k + j) s ≡ trace R k s ++ trace R j t
unfolding trace
trace-append R n {s = s} Visits.done j = trace-count R s {i = 0 + j} {j = j} (omega arith)
trace-append R n {s = s} (Visits.more {k = k} v rest) j =
    trace-count R s {i = suc k + j} {j = suc (k + j)} (omega arith)
    ∙ ap (λ (vs : List (VisitCase × ℕ)). (visit_case R s, (visit_of R s).0.cell) ∷ vs) (trace-append R n rest j)

pub followed-append : (a b : List (VisitCase × ℕ)) → followed (a ++ b) ≡ followed a ++ followed b
unfolding followed
followed-append [] b = refl
followed-append (v ∷ a) b = rw (followed-append a b) (go (follows v.0))
  where
    go : (t : Bool) → cond t (v.1 ∷ (followed a ++ followed b)) (followed a ++ followed b) ≡ cond t (v.1 ∷ followed a) (followed a) ++ followed b
    go true = refl
    go false = refl

pub four_ways-append : (a b : List (VisitCase × ℕ)) → four_ways (a ++ b) ≡ four_ways a + four_ways b
unfolding four_ways
four_ways-append [] b = omega arith
four_ways-append (v ∷ a) b = omega (arith, four_ways-append a b)
