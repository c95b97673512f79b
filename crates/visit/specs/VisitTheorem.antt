-- What is proved of the cases of a visit (02, S-4 and S-8): the statement.
use Rattle.std.specs.Prelude.{ℕ, ◌≡◌, List}
use Rattle.visit.specs.declared.Marker.{Marker}
use Rattle.visit.specs.Visit.{visit_of, Visitable}
use Rattle.visit.specs.Cases.{visit_by_case}

-- "Answers, counts and words are those of today for every pool": wherever a visit may be made, the cases do what 01's two exchanges do, and
-- of a point the one exchange of p and q.
abbrev pub VisitIsByCase : Type 0
VisitIsByCase = (R n : ℕ) (s : Marker × List ℕ) → Visitable R n s → visit_by_case R s ≡ visit_of R s
