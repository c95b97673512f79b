-- Clearing marks, and the results of marking with a lent stack in the words of a pool.
use Rattle.std.specs.Prelude.{ℕ, zero, suc, List, [], ◌∷◌, Bool, cond}
use Rattle.pool.specs.Layout.{graph_of, roots_of, unmark_cell}
use Rattle.pool.specs.Retain.{marked_cell}
use Rattle.reversal.specs.ReversalTheorem.{mark_all}
use Rattle.stack_algorithm.specs.Check.{is_enough, check_count, limited, limited_run}
use Rattle.stack_check.specs.Steps.{Pending}

-- "marks are cleared" (01): every one of the cells i to 1 that is marked becomes used.
unfoldable pub cleared : ℕ → ℕ → List ℕ → List ℕ
cleared R zero w = w
cleared R (suc i) w = cleared R i (cond (marked_cell R w (suc i)) (unmark_cell R w (suc i)) w)

-- A result of the marker: the pool's words with the cells marked then, whether the stack was enough, and how many checks ran.
abbrev pub result_in : ℕ → List ℕ → List ℕ × List ℕ → List ℕ × Bool × ℕ
result_in R pool end = (mark_all R pool end.0, is_enough end, check_count end)

-- The run with `room` words of stack from the cell p, which alone is pending.
abbrev pub run_from_cell : (R n room p : ℕ) (w : List ℕ) → Pending R n w (p ∷ []) → List ℕ × List ℕ
run_from_cell R n room p w h = limited room n n (graph_of R h.pool) h.seen (p ∷ [])

-- The run from the registers of a pool.
abbrev pub pool_run : ℕ → ℕ → ℕ → List ℕ → List ℕ × List ℕ
pool_run R n room w = limited_run room n (graph_of R w) (roots_of R w)
