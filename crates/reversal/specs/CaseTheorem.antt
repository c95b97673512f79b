-- What is proved of the cases of the visits of runs (02, S-4 and S-8): the statements.
use Rattle.std.specs.Prelude.{ℕ, ◌+◌, ◌-◌, ◌≤◌, ◌≡◌, Bool, true, List, ◌∷◌, length}
use Rattle.graph.specs.Graph.{Graph}
use Rattle.graph.specs.Dfs.{Dfs}
use Rattle.pool.specs.Layout.{pool_length, is_point_at, roots_of}
use Rattle.questions.specs.Validity.{well_formed}
use Rattle.reversal.specs.Reversal.{Run, MarkRoots}
use Rattle.reversal.specs.ReversalTheorem.{Agreement}
use Rattle.reversal.specs.Reached.{reached_cells, reached_count, pair_count}
use Rattle.reversal.specs.Trace.{trace_run, trace_roots, begins, followed, four_ways, without}

-- Of one run from p, an unmarked link, where the depth-first visit of p newly marks p and then the cells t: the cells that cases 2 and 4 go to, in the
-- order of the visits, are t, points among them; and of the visits of a run, as many as its cells and its pairs together, less 1, are four-way exchanges ("000 counts
-- 2n four-way exchanges for n cells; one start gives 2n − 1": so it is of n pairs; a point is gone to, but left without one).
abbrev pub RunFollows : Type 0
RunFollows =
    (R n : ℕ) (g : Graph) (point : ℕ → Bool) (m : ℕ → ℕ) (p : ℕ) (t : List ℕ) (c : ℕ) (w : List ℕ) (end : ℕ × List ℕ) → Agreement R n g point m w
    → Dfs g m p (p ∷ t) → (run : Run R n p (c, w) end)
    → (followed (trace_run run) ≡ t) × (four_ways (trace_run run) ≡ pair_count point (p ∷ t) + length (p ∷ t) - 1)

-- "Over every collection by reversal, the two cases that go to an unmarked cell together come once for each kept cell at which no register's run
-- begins": the cells that they go to, in the order of the visits, are the reached cells in depth-first order, without those at which a run begins. This is said of
-- all the visits that the runs over the registers of a well-formed pool make, whichever runs these are. (`RunOverPool` says that there are some; a collection makes
-- them before its sweep.)
abbrev pub FollowedOnce : Type 0
FollowedOnce =
    (R n : ℕ) (w : List ℕ) → pool_length R n ≤ length w → well_formed R n w ≡ true
    → (end : ℕ × List ℕ) (runs : MarkRoots R n (roots_of R w) (0, w) end)
    → followed (trace_roots runs) ≡ without (begins runs) (reached_cells R n w)

-- So the visits of these two cases are as many as the kept cells, less the runs; and the four-way exchanges as many as the kept cells and the kept pairs
-- together, less the runs.
abbrev pub FollowedCount : Type 0
FollowedCount =
    (R n : ℕ) (w : List ℕ) → pool_length R n ≤ length w → well_formed R n w ≡ true
    → (end : ℕ × List ℕ) (runs : MarkRoots R n (roots_of R w) (0, w) end)
    → (length (followed (trace_roots runs)) + length (begins runs) ≡ reached_count R n w)
    × (four_ways (trace_roots runs) + length (begins runs) ≡ pair_count (is_point_at R w) (reached_cells R n w) + reached_count R n w)
