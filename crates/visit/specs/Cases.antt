-- The visit by its cases, five of a pair and one of a point (02, S-4 and S-8; Gries 2006, "How the invariant is maintained depends on node p, after 1 is
-- added to m[p]").
use Rattle.std.specs.Prelude.{ℕ, suc, List, cond, eqb}
use Rattle.pool.specs.Layout.{state, left, right, set_cell, is_point_at}
use Rattle.pool.specs.States.{is_marked}
use Rattle.visit.specs.declared.Marker.{Marker}
use Rattle.visit.specs.declared.VisitCase.{VisitCase}
use Rattle.visit.specs.declared.VisitCase.TheVariants as visit
use Rattle.visit.specs.Visit.{unmarked, marker}

-- The case of the cell p in hand, "chosen by the mark after the addition and the state of the next link": of m[p], which is 1, 2 or 3 then, and of l[p].
-- 1. m[p] = 3; 2. m[p] = 1, and l[p] is unmarked; 3. m[p] = 1, and l[p] is marked or nil; 4. m[p] = 2, and l[p] is unmarked; 5. m[p] = 2, and l[p] is marked or nil.
-- A point has a case of its own, in which nothing of l[p] is asked.
abbrev pub case_of : ℕ → List ℕ → ℕ → VisitCase
case_of R w p =
    cond (is_point_at R w p) visit.Point
    (cond (is_marked (state R w p)) visit.Retreat
    (cond (eqb (state R w p) 1)
    (cond (unmarked R w (left R w p)) visit.FollowLeft visit.PassLeft)
    (cond (unmarked R w (left R w p)) visit.FollowRight visit.PassRight)))

-- Both links of the cell i written.
abbrev pub set_links : ℕ → List ℕ → ℕ → ℕ → ℕ → List ℕ
set_links R w i l r = set_cell R (set_cell R w i 1 l) i 2 r

-- The four-way exchange: "p, l[p], r[p], q become l[p], r[p], q, p".
abbrev pub four_way : ℕ → Marker × List ℕ → Marker × List ℕ
four_way R s =
    let p = s.0.cell in
    (marker (left R s.1 p) p s.0.visits, set_links R s.1 p (right R s.1 p) s.0.previous)

-- The three-way exchange: "l[p], r[p], q become r[p], q, l[p]".
abbrev pub three_way : ℕ → Marker × List ℕ → Marker × List ℕ
three_way R s =
    let p = s.0.cell in
    (marker p (left R s.1 p) s.0.visits, set_links R s.1 p (right R s.1 p) s.0.previous)

-- Of a point: p and q change places, and its words stay.
abbrev pub two_way : ℕ → Marker × List ℕ → Marker × List ℕ
two_way R s = (marker s.0.previous s.0.cell s.0.visits, s.1)

-- What each case does to the cell, to p and to q.
abbrev pub act_of : ℕ → VisitCase → Marker × List ℕ → Marker × List ℕ
-- 1. "p should be removed from path P, and its backpointer B_p should become the new node p": it stands in l[p].
act_of R visit.Retreat s = four_way R s
-- 2. "L_p should be appended to path p": the left successor, which stands in l[p].
act_of R visit.FollowLeft s = four_way R s
-- 3. "there is nothing to do with p's left successor"
act_of R visit.PassLeft s = three_way R s
-- 4. "R_p should be appended to path p": the right successor, which by now stands in l[p].
act_of R visit.FollowRight s = four_way R s
-- 5. "there is nothing to do with p's right successor"
act_of R visit.PassRight s = three_way R s
-- "A point is marked by one visit": it has no link to follow, and its predecessor is in hand again.
act_of R visit.Point s = two_way R s

-- "add 1 to m[p]": the words then.
abbrev pub added : ℕ → Marker × List ℕ → List ℕ
added R s = set_cell R s.1 s.0.cell 0 (suc (state R s.1 s.0.cell))

-- The case of a visit.
abbrev pub visit_case : ℕ → Marker × List ℕ → VisitCase
visit_case R s = case_of R (added R s) s.0.cell

-- The visit by its cases: 1 is added to the mark, and to the visits; then the case acts.
abbrev pub visit_by_case : ℕ → Marker × List ℕ → Marker × List ℕ
visit_by_case R s = act_of R (visit_case R s) (marker s.0.cell s.0.previous (suc s.0.visits), added R s)
