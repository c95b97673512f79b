-- What a visit of the recursive marker may rely on, and its result.
use Rattle.std.specs.Prelude.{ℕ, ◌+◌, ◌^◌, ◌<◌, ◌≤◌, Bool, List}
use Rattle.graph.specs.Graph.{Graph}
use Rattle.graph.specs.Dfs.{Dfs}
use Rattle.graph.specs.Marking.{marked_count}
use Rattle.reversal.specs.Reached.{visits_of}
use Rattle.reversal.specs.ReversalTheorem.{mark_all, Agreement}

-- What a visit of the link p may rely on: the words hold the n cells of a graph, of which some are marked; the visit newly marks `cells`; the
-- depth left is no less than the number of unmarked cells, so it does not run out; and three visits for each pair and one for each point still fit.
pub record Markable (R n depth p visits : ℕ) (w : List ℕ) : Type 0 where
  pub graph : Graph
  pub point : ℕ → Bool
  pub marks : ℕ → ℕ
  pub cells : List ℕ
  pub agree : Agreement R n graph point marks w
  pub dfs : Dfs graph marks p cells
  pub bounded : p ≤ n
  pub deep : n ≤ depth + marked_count n marks
  pub fits : visits + visits_of point cells < 2 ^ 32

-- What it does: three visits for each pair and one for each point that it newly marks; no other word is changed.
abbrev pub visited : (R n depth p visits : ℕ) (w : List ℕ) → Markable R n depth p visits w → ℕ × List ℕ
visited R n depth p visits w h = (visits + visits_of h.point h.cells, mark_all R w h.cells)
