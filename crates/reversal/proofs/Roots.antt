-- The runs over the links of the roots.
use Prim.Native.Nat.{ℕ, suc, ◌+◌, ◌≤◌}
use native.Mathlib.Omega.{arith}
use mathlib.Core.Path.{◌≡◌, refl, sym, ◌∙◌}
use mathlib.Core.Bool.{Bool, true≢false, false≢true}
use mathlib.Core.List.{List, ◌∷◌, ◌++◌, Memᴰ}
use Rattle.graph.specs.Graph.{Graph}
use Rattle.graph.specs.Dfs.{marks, Dfs, DfsAll}
use Rattle.pool.specs.Layout.{is_point_at, graph_of, roots_of}
use Rattle.reversal.specs.ReversalTheorem.{mark_all, Agreement, RunFromRoots, RunOverPool}
use Rattle.reversal.specs.Reached.{reached_cells, pair_count, point_count, visits_of}
use Rattle.reversal.specs.Reversal.{MarkRoots}
use Rattle.reversal.proofs.MarkAll.{mark_all-append}
use Rattle.reversal.proofs.Agreement.{unmarked-true, unmarked-false, agreement-dfs}
use Rattle.graph.proofs.Congruence.{dfs-all_alike}
use Rattle.graph.proofs.Depth.{order-dfs}
use Rattle.questions.proofs.WellFormed.{well_formed_read}
use Rattle.questions.proofs.PoolGraph.{pool-within}
use Rattle.reversal.proofs.VisitCount.{visits-append}
use Rattle.reversal.proofs.PoolMarks.{state_marks, agreement, alike}
use Rattle.reversal.proofs.Run.{run-from_link}
use Rattle.reversal.proofs.RunLoop.{run-same}

module _ (R n : ℕ) where
  recount : {ps : List ℕ} {s : ℕ × List ℕ} {c c' : ℕ} {w w' : List ℕ} → c ≡ c' → w ≡ w' → MarkRoots R n ps s (c, w) → MarkRoots R n ps s (c', w')
  recount ec ew v = rw (← ec, ← ew) v

  -- two derivations from one start have one end
  pub roots-same : {ps : List ℕ} {s t u : ℕ × List ℕ} → MarkRoots R n ps s t → MarkRoots R n ps s u → t ≡ u
  roots-same MarkRoots.none MarkRoots.none = refl
  roots-same (MarkRoots.skip h a) (MarkRoots.skip k b) = roots-same a b
  roots-same (MarkRoots.skip h a) (MarkRoots.run k r b) = absurd (false≢true (sym h ∙ k))
  roots-same (MarkRoots.run h r a) (MarkRoots.skip k b) = absurd (true≢false (sym h ∙ k))
  roots-same (MarkRoots.run h r a) (MarkRoots.run k r' b) = roots-same a (rw (run-same R n r r') b)

module _ (R n : ℕ) (g : Graph) (point : ℕ → Bool) where
  runs : {m : ℕ → ℕ} {ps t : List ℕ} → DfsAll g m ps t → (w : List ℕ) → Agreement R n g point m w → ((x : ℕ) → Memᴰ x ps → x ≤ n) → (c : ℕ)
      → MarkRoots R n ps (c, w) (c + visits_of point t, mark_all R w t)
  unfolding marks mark_all pair_count point_count
  runs DfsAll.none w a bound c = recount R n (omega arith) refl MarkRoots.none
  runs (DfsAll.next {p = p} (Dfs.stop marked) rest) w a bound c =
      MarkRoots.skip (unmarked-false R n g point a p (bound p (Memᴰ.head refl)) marked) (runs rest w a (λ x mem. bound x (Memᴰ.tail mem)) c)
  runs (DfsAll.next {u = v} (Dfs.step {m = m} {p = p} {t = t} {u = u} e dl dr) rest) w a bound c =
      let d = Dfs.step e dl dr in
      let new : List ℕ = p ∷ (t ++ u) in
      recount R n (omega (arith, visits-append point new v)) (sym (mark_all-append R w new v))
      (MarkRoots.run (unmarked-true R n g point a p e) (visits_of point new, p, run-from_link R n g point m p new w a d e (suc n) c)
      (runs rest (mark_all R w new) (agreement-dfs R n g point a d) (λ x mem. bound x (Memᴰ.tail mem)) (c + visits_of point new)))

pub run-from_roots : RunFromRoots
run-from_roots R n g point m ps t w a d bound c = runs R n g point d w a bound c

pub run-over_pool : RunOverPool
run-over_pool R n w room well =
    let facts = well_formed_read R n w well in
    let within = pool-within facts in
    recount R n (omega arith) refl
    (run-from_roots R n (graph_of R w) (is_point_at R w) (state_marks R n w) (roots_of R w) (reached_cells R n w) w (agreement R n w facts room)
    (dfs-all_alike (alike R n w facts) (order-dfs n (graph_of R w) (roots_of R w) within)) within.root 0)
