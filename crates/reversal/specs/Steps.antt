-- What the loop of a run may rely on, and what a turn of it does.
use Rattle.std.specs.Prelude.{ℕ, zero, suc, ◌^◌, ◌<◌, ◌≤◌, List, cond, length, eqb}
use Rattle.pool.specs.Layout.{pool_length}
use Rattle.visit.specs.declared.Marker.{Marker}
use Rattle.visit.specs.Visit.{visit_of}
use Rattle.reversal.specs.Reversal.{Visits}

-- From s on visits lead to an end, where no cell is in hand, and are fewer than 2^32 with those made before.
pub record Ending (R n : ℕ) (s : Marker × List ℕ) : Type 0 where
  pub last : Marker × List ℕ
  pub count : ℕ
  pub visits : Visits R n count s last
  pub past : n < last.0.cell
  pub fits : last.0.visits < 2 ^ 32

-- What a turn may rely on: there is a cell in hand, from it on visits lead to an end, and the words hold the n cells.
pub record InHand (R n : ℕ) (s : Marker × List ℕ) : Type 0 where
  pub ending : Ending R n s
  pub bounded : s.0.cell ≤ n
  pub room : pool_length R n ≤ length s.1

-- A turn: a visit of the cell in hand, and up to k more, as long as that cell stays in hand.
unfoldable pub turn_of : ℕ → ℕ → Marker × List ℕ → Marker × List ℕ
turn_of R zero s = visit_of R s
turn_of R (suc k) s = let t = visit_of R s in cond (eqb t.0.cell s.0.cell) (turn_of R k t) t
