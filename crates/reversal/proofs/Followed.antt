-- The cells that the visits follow links to: of a run all that it newly marks but its first cell, of all the runs those at which no run begins.
use Prim.Native.Nat.{ℕ, suc, ◌+◌, ◌≤◌}
use native.Mathlib.Omega.{arith}
use mathlib.Core.Path.{◌≡◌, refl, sym, ap, ◌∙◌}
use mathlib.Core.Logic.{⊎_elim}
use mathlib.Core.Bool.{Bool, true, false, cond, true≢false, false≢true}
use mathlib.Core.List.Memᴰ
use mathlib.Core.List.{List, [], ◌∷◌, ◌++◌, nil≢cons, tail-eq_of_cons-eq, Memᴰ}
use lib.ListN.{length, length-append}
use borrow.Author.Tests.{eq-eqb, ne_eqb}
use Rattle.graph.specs.Graph.{Graph}
use Rattle.graph.specs.Preorder.{elem}
use Rattle.graph.specs.Theorems.{Distinct}
use Rattle.graph.specs.Dfs.{marks, Dfs, DfsAll}
use Rattle.graph.proofs.Lists.{Each, has_none, distinct_parts}
use Rattle.graph.proofs.Theorems.{preorder-distinct}
use Rattle.graph.proofs.Congruence.{dfs-all_alike}
use Rattle.graph.proofs.Depth.{order-dfs}
use Rattle.pool.specs.Layout.{pool_length, is_point_at, graph_of, roots_of}
use Rattle.questions.specs.Validity.{well_formed}
use Rattle.questions.proofs.WellFormed.{well_formed_read}
use Rattle.questions.proofs.PoolGraph.{pool-within}
use Rattle.reversal.specs.Reversal.{Run, MarkRoots}
use Rattle.reversal.specs.Reached.{reached_cells, reached_count, pair_count, visits_of}
use Rattle.reversal.specs.ReversalTheorem.{mark_all, Agreement}
use Rattle.reversal.specs.Trace.{trace_run, trace_roots, begins, followed, four_ways, without}
use Rattle.reversal.specs.CaseTheorem.{RunFollows, FollowedOnce, FollowedCount}
use Rattle.reversal.proofs.Agreement.{unmarked-true, unmarked-false, agreement-dfs}
use Rattle.reversal.proofs.PoolMarks.{agreement, alike}
use Rattle.reversal.proofs.Run.{run}
use Rattle.reversal.proofs.RunLoop.{run-same, run_length}
use Rattle.reversal.proofs.VisitCount.{pairs-append}
use Rattle.reversal.proofs.Trace.{followed-append, four_ways-append}

-- a run's end and visits, whatever run it is
run_made : (R n : ℕ) (g : Graph) (point : ℕ → Bool) {m : ℕ → ℕ} {p : ℕ} {s end : ℕ × List ℕ} {new : List ℕ} → Agreement R n g point m s.1 → Dfs g m p new → m p ≡ 0
    → (r : Run R n p s end)
    → (f : List ℕ) × (p ∷ f ≡ new) × (end.1 ≡ mark_all R s.1 new) × (followed (trace_run r) ≡ f) × (four_ways (trace_run r) ≡ pair_count point new + length f)
run_made R n g point {p = p} {s = s} {new = new} a d e r =
    let (f, same, made) = run R n g point d e s.1 a (suc n) s.0 in
    let r' : Run R n p s (s.0 + visits_of point new, mark_all R s.1 new) = (visits_of point new, p, made.visits) in
    let many = run_length R n r r' in
    (f, same, ap (λ (x : ℕ × List ℕ). x.1) (run-same R n r r'), rw many made.followed, rw many made.four_ways)

unmarked_first : {g : Graph} {m : ℕ → ℕ} {p : ℕ} {l t : List ℕ} → Dfs g m p l → l ≡ p ∷ t → m p ≡ 0
unmarked_first (Dfs.stop h) e = absurd (nil≢cons e)
unmarked_first (Dfs.step e a b) same = e

pub run-follows : RunFollows
run-follows R n g point m p t c w end a d r =
    let (f, same, ends, goes, four) = run_made R n g point a d (unmarked_first d refl) r in
    let rest : f ≡ t = tail-eq_of_cons-eq same in
    (goes ∙ rest, omega (arith, four, ap length rest))

-- a list without the cells of another
without-append : (bs t u : List ℕ) → without bs (t ++ u) ≡ without bs t ++ without bs u
unfolding without
without-append bs [] u = refl
without-append bs (x ∷ t) u = rw (without-append bs t u) (go (elem x bs))
  where
    go : (b : Bool) → cond b (without bs t ++ without bs u) (x ∷ (without bs t ++ without bs u)) ≡ cond b (without bs t) (x ∷ without bs t) ++ without bs u
    go true = refl
    go false = refl

without-none : (bs t : List ℕ) → Each (λ x. elem x bs ≡ false) t → without bs t ≡ t
unfolding without
without-none bs [] other = refl
without-none bs (x ∷ t) other = rw (other x (Memᴰ.head refl), without-none bs t (λ y mem. other y (Memᴰ.tail mem))) refl

without_other : (p : ℕ) (bs t : List ℕ) → Each (λ x. x ≡ p → ⊥) t → without (p ∷ bs) t ≡ without bs t
unfolding without elem
without_other p bs [] other = refl
without_other p bs (x ∷ t) other = rw (ne_eqb x p (other x (Memᴰ.head refl)), without_other p bs t (λ y mem. other y (Memᴰ.tail mem))) refl

module _ {R n : ℕ} where
  -- the cell at which a run begins and then those that it follows links to, over all the runs
  unfoldable order : {ps : List ℕ} {s t : ℕ × List ℕ} → MarkRoots R n ps s t → List ℕ
  order MarkRoots.none = []
  order (MarkRoots.skip h rest) = order rest
  order (MarkRoots.run {p = p} h r rest) = p ∷ (followed (trace_run r) ++ order rest)

module _ (R n : ℕ) (g : Graph) (point : ℕ → Bool) where
  -- that order is what the depth-first visits newly mark; each of its pairs has two four-way exchanges and each point one, but for one less in every run
  order-dfs_all : {m : ℕ → ℕ} {ps t : List ℕ} → DfsAll g m ps t → {s end : ℕ × List ℕ} → Agreement R n g point m s.1 → ((x : ℕ) → Memᴰ x ps → x ≤ n)
      → (d : MarkRoots R n ps s end) → (order d ≡ t) × (four_ways (trace_roots d) + length (begins d) ≡ pair_count point t + length t)
  unfolding marks mark_all order trace_roots begins four_ways pair_count
  order-dfs_all DfsAll.none a bound MarkRoots.none = (refl, refl)
  order-dfs_all (DfsAll.next (Dfs.stop marked) rest) a bound (MarkRoots.skip h d) = order-dfs_all rest a (λ x mem. bound x (Memᴰ.tail mem)) d
  order-dfs_all (DfsAll.next {p = p} (Dfs.stop marked) rest) a bound (MarkRoots.run h r d) =
      absurd (false≢true (sym (unmarked-false R n g point a p (bound p (Memᴰ.head refl)) marked) ∙ h))
  order-dfs_all (DfsAll.next (Dfs.step {p = p} e dl dr) rest) a bound (MarkRoots.skip h d) = absurd (true≢false (sym (unmarked-true R n g point a p e) ∙ h))
  order-dfs_all (DfsAll.next {t = new} {u = v} (Dfs.step e dl dr) rest) a bound (MarkRoots.run h r d) =
      let visit = Dfs.step e dl dr in
      let (f, same, ends, goes, four) = run_made R n g point a visit e r in
      let (later, others) = order-dfs_all rest (rw ends (agreement-dfs R n g point a visit)) (λ x mem. bound x (Memᴰ.tail mem)) d in (
        rw (goes, later) (ap (λ (l : List ℕ). l ++ v) same),
        omega (arith, others, four, four_ways-append (trace_run r) (trace_roots d), ap length same, length-append new v, pairs-append point new v),
      )

-- of a pool it is that of the reached cells, depth first
order-pool : (R n : ℕ) (w : List ℕ) → pool_length R n ≤ length w → well_formed R n w ≡ true → {end : ℕ × List ℕ}
    → (d : MarkRoots R n (roots_of R w) (0, w) end)
    → (order d ≡ reached_cells R n w) × (four_ways (trace_roots d) + length (begins d) ≡ pair_count (is_point_at R w) (reached_cells R n w) + reached_count R n w)
order-pool R n w room well d =
    let facts = well_formed_read R n w well in
    let within = pool-within facts in
    order-dfs_all R n (graph_of R w) (is_point_at R w) (dfs-all_alike (alike R n w facts) (order-dfs n (graph_of R w) (roots_of R w) within)) (agreement R n w facts room)
    within.root d

module _ {R n : ℕ} where
  -- the cells of the order are those that links are followed to, and those at which a run begins
  count-order : {ps : List ℕ} {s t : ℕ × List ℕ} (d : MarkRoots R n ps s t) → length (followed (trace_roots d)) + length (begins d) ≡ length (order d)
  unfolding trace_roots begins order followed
  count-order MarkRoots.none = refl
  count-order (MarkRoots.skip h rest) = count-order rest
  count-order (MarkRoots.run h r rest) =
      omega (
        arith,
        count-order rest,
        ap length (followed-append (trace_run r) (trace_roots rest)),
        length-append (followed (trace_run r)) (followed (trace_roots rest)),
        length-append (followed (trace_run r)) (order rest),
      )

  begins-order : {ps : List ℕ} {s t : ℕ × List ℕ} (d : MarkRoots R n ps s t) → Each (λ x. Memᴰ x (order d)) (begins d)
  unfolding begins order
  begins-order MarkRoots.none x mem = mem
  begins-order (MarkRoots.skip h rest) x mem = begins-order rest x mem
  begins-order (MarkRoots.run {p = p} h r rest) x mem =
      ⊎_elim (λ e. Memᴰ.head e) (λ later. Memᴰ.tail (Memᴰ.append_right (followed (trace_run r)) (begins-order rest x later))) (Memᴰ.cases_cons mem)

  -- no cell that a link is followed to is one at which a run begins
  order-without : {ps : List ℕ} {s t : ℕ × List ℕ} (d : MarkRoots R n ps s t) → Distinct (order d) → followed (trace_roots d) ≡ without (begins d) (order d)
  unfolding trace_roots begins order followed without elem
  order-without MarkRoots.none distinct = refl
  order-without (MarkRoots.skip h rest) distinct = order-without rest distinct
  order-without (MarkRoots.run {p = p} h r rest) (Distinct.more fresh distinct) =
      let f = followed (trace_run r) in
      let (apart, later) = distinct_parts f distinct in
      rw (
        followed-append (trace_run r) (trace_roots rest),
        eq-eqb p p refl,
        without-append (p ∷ begins rest) f (order rest),
        without-none (p ∷ begins rest) f
            (λ x mem. has_none x (p ∷ begins rest)
            λ mem'. ⊎_elim (λ e. fresh (Memᴰ.append_left (order rest) (rw e at mem))) (λ b. apart x mem (begins-order rest x b)) (Memᴰ.cases_cons mem')),
        without_other p (begins rest) (order rest) (λ x mem e. fresh (Memᴰ.append_right f (rw e at mem))),
        order-without rest later,
      )
      refl

pub followed-once : FollowedOnce
followed-once R n w room well end runs =
    let same = (order-pool R n w room well runs).0 in
    let within = pool-within (well_formed_read R n w well) in
    order-without runs (rw same (preorder-distinct n (graph_of R w) (roots_of R w) within)) ∙ ap (without (begins runs)) same

pub followed-count : FollowedCount
followed-count R n w room well end runs =
    let (same, four) = order-pool R n w room well runs in (count-order runs ∙ ap length same, four)
