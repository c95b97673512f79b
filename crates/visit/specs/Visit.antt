-- One visit of marking by link reversal (01, "Marking by reversal", after Gries 2006).
use Rattle.std.specs.Prelude.{ℕ, suc, ◌<◌, ◌≤◌, ◌≡◌, ◌⊎◌, List, Bool, cond, ◌||◌, ◌&&◌, not, eqb}
use Rattle.pool.specs.Layout.{state, left, right, set_cell, is_point_at}
use Rattle.pool.specs.States.{point_state, is_used, is_marked}
use Rattle.visit.specs.declared.Marker.{Marker}

-- "nil counts as marked and is never visited": a link is unmarked if it is a cell's number and that cell's state is that of a used one.
abbrev pub unmarked : ℕ → List ℕ → ℕ → Bool
unmarked R w x = not (eqb x 0) && is_used (state R w x)

-- One visit: p is the cell in hand and q its predecessor. "add 1 to m[p]; if m[p] is now 3 or l[p] has state 0, then p, l[p], r[p], q become
-- l[p], r[p], q, p; else l[p], r[p], q become r[p], q, l[p]". Both write r[p] to l[p] and q to r[p]; they differ in p and q. "A point is marked by one visit"
-- (02, S-8): 1 is added to m[p], p and q change places, and the point's words stay. An l[p] that has the state of a point is as one that has state 0.
unfoldable pub visit_of : ℕ → Marker × List ℕ → Marker × List ℕ
visit_of R s =
    let p = s.0.cell in
    let l = left R s.1 p in
    let w = set_cell R s.1 p 0 (suc (state R s.1 p)) in
    cond (is_point_at R w p)
    (record { cell = s.0.previous; previous = p; visits = suc s.0.visits }, w) (
      cond (is_marked (state R w p) || unmarked R w l)
          (record { cell = l; previous = p; visits = suc s.0.visits })
          (record { cell = p; previous = l; visits = suc s.0.visits }),
      set_cell R (set_cell R w p 1 (right R w p)) p 2 s.0.previous,
    )

-- What a visit may rely on: the cell in hand is one of the n cells, and is an unmarked point or a pair that was visited at most twice; and, unless this is
-- the only visit of a point or the third of a pair, its left link is nil or a cell, so that no state but a cell's is ever read. The virtual root is no cell.
pub record Visitable (R n : ℕ) (s : Marker × List ℕ) : Type 0 where
  pub positive : 0 < s.0.cell
  pub bounded : s.0.cell ≤ n
  pub early : (state R s.1 s.0.cell ≡ point_state) ⊎ (state R s.1 s.0.cell < 3)
  pub link : state R s.1 s.0.cell < 2 → left R s.1 s.0.cell ≤ n

-- The cell p in hand, its predecessor q, after c visits.
abbrev pub marker : ℕ → ℕ → ℕ → Marker
marker p q c = record { cell = p; previous = q; visits = c }
