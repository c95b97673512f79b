-- The visits of runs by their cases (02, S-4 and S-8): the cells that they go to, and how many are four-way exchanges.
use Rattle.std.specs.Prelude.{ℕ, zero, suc, ◌+◌, List, [], ◌∷◌, ◌++◌, Bool, true, false, cond}
use Rattle.graph.specs.Preorder.{elem}
use Rattle.visit.specs.declared.Marker.{Marker}
use Rattle.visit.specs.declared.VisitCase.{VisitCase}
use Rattle.visit.specs.declared.VisitCase.TheVariants as visit
use Rattle.visit.specs.Visit.{visit_of, marker}
use Rattle.visit.specs.Cases.{visit_case}
use Rattle.reversal.specs.Reversal.{Run, MarkRoots}

-- The k visits from s on, one after the other: of each its case, and what is in hand after it, a cell or, at the end of a run, the virtual root.
unfoldable pub trace : ℕ → ℕ → Marker × List ℕ → List (VisitCase × ℕ)
trace R zero s = []
trace R (suc k) s = (visit_case R s, (visit_of R s).0.cell) ∷ trace R k (visit_of R s)

-- "the two cases that go to an unmarked cell": 2 and 4.
abbrev pub follows : VisitCase → Bool
follows visit.Retreat = false
follows visit.FollowLeft = true
follows visit.PassLeft = false
follows visit.FollowRight = true
follows visit.PassRight = false
follows visit.Point = false

-- The cases that are four-way exchanges, as `act_of` has them: 1, 2 and 4.
abbrev pub is_four_way : VisitCase → Bool
is_four_way visit.Retreat = true
is_four_way visit.FollowLeft = true
is_four_way visit.PassLeft = false
is_four_way visit.FollowRight = true
is_four_way visit.PassRight = false
is_four_way visit.Point = false

-- The cells that the visits of cases 2 and 4 go to, in the order of the visits.
unfoldable pub followed : List (VisitCase × ℕ) → List ℕ
followed [] = []
followed (v ∷ vs) = cond (follows v.0) (v.1 ∷ followed vs) (followed vs)

-- How many of the visits are four-way exchanges.
unfoldable pub four_ways : List (VisitCase × ℕ) → ℕ
four_ways [] = 0
four_ways (v ∷ vs) = cond (is_four_way v.0) 1 0 + four_ways vs

module _ {R n : ℕ} where
  -- The visits of a run.
  abbrev pub trace_run : {p : ℕ} {s t : ℕ × List ℕ} → Run R n p s t → List (VisitCase × ℕ)
  trace_run {p = p} {s = s} run = trace R run.0 (marker p (suc n) s.0, s.1)

  -- The visits of all the runs over the registers, in order.
  unfoldable pub trace_roots : {ps : List ℕ} {s t : ℕ × List ℕ} → MarkRoots R n ps s t → List (VisitCase × ℕ)
  trace_roots MarkRoots.none = []
  trace_roots (MarkRoots.skip h rest) = trace_roots rest
  trace_roots (MarkRoots.run h run rest) = trace_run run ++ trace_roots rest

  -- The cells at which a register's run begins.
  unfoldable pub begins : {ps : List ℕ} {s t : ℕ × List ℕ} → MarkRoots R n ps s t → List ℕ
  begins MarkRoots.none = []
  begins (MarkRoots.skip h rest) = begins rest
  begins (MarkRoots.run {p = p} h run rest) = p ∷ begins rest

-- A list without the cells of another.
unfoldable pub without : List ℕ → List ℕ → List ℕ
without bs [] = []
without bs (x ∷ xs) = cond (elem x bs) (without bs xs) (x ∷ without bs xs)
