-- A collected pool: what it keeps, that it is well-formed with the same graph, and when nothing changes.
use Prim.Native.Nat.{ℕ, zero, suc, ◌<◌, ◌≤◌}
use native.Mathlib.Omega.{arith}
use mathlib.Core.Path.{◌≡◌, refl, sym, ap, ◌∙◌}
use mathlib.Core.List.{List}
use mathlib.Core.Bool.{Bool, true, false, true≢false}
use mathlib.Core.Logic.{⊎_elim}
use lib.ListN.{length}
use lib.Dec.{ltb}
use borrow.Author.Tests.{lt-ltb, le-ltb}
use Rattle.graph.specs.Graph.{Reach}
use Rattle.graph.specs.Preorder.{elem, preorder}
use Rattle.graph.specs.Marking.{outside, marked_count}
use Rattle.graph.specs.Dfs.{marks}
use Rattle.graph.specs.Compare.{Agree}
use Rattle.graph.proofs.Lists.{has_member, member_has}
use Rattle.graph.proofs.Marks.{marks-member, marks_cases, outside-cell, zero_or_above}
use Rattle.graph.proofs.Theorems.{preorder-reached, preorder-agree, order-closure, marked-count}
use Rattle.graph.proofs.Reached.{reach_above, reach_within}
use Rattle.pool.specs.Layout.{pool_length, head, register, cell, state, is_point_at, link_of, graph_of, roots_of}
use Rattle.pool.specs.States.{is_point}
use Rattle.pool.specs.Retain.{retain, kept_count}
use Rattle.pool.proofs.Every.{tabulate_cong, member-tabulate}
use Rattle.questions.proofs.WellFormed.{WellFormed}
use Rattle.questions.proofs.PoolGraph.{reached-used, pool-within}
use Rattle.pool.proofs.Retained.{retain-register, retain-head}
use Rattle.questions.proofs.RetainedPool.{Kept, retained_well_formed}
use Rattle.pool.proofs.RetainedPool.{retained_state, retained_same}
use Rattle.pool.proofs.Links.{link-same}
use Rattle.pool.proofs.States.{used-same}
use Rattle.pool.proofs.AllKept.{counted-all, all-counted, none-free_all, retain-all, retain-again}
use Rattle.reversal.specs.Reached.{reached_cells, is_reached, reached_count, visits_of, reached_visits}
use Rattle.reversal.proofs.VisitCount.{visits_cong}
use Rattle.collector.specs.Collect.{collected}

-- the same count, of tests and of marks
count-marked : (n : ℕ) (keep : ℕ → Bool) (m : ℕ → ℕ) → ((j : ℕ) → 0 < j → j ≤ n → keep j ≡ ltb 0 (m j)) → kept_count keep n ≡ marked_count n m
unfolding kept_count marked_count
count-marked zero keep m same = refl
count-marked (suc n) keep m same =
    rw (same (suc n) (omega arith) (omega arith), count-marked n keep m λ j low high. same j low (omega arith))

-- what is in a list is what marking the list marks
reached-marked : (n : ℕ) (t : List ℕ) (x : ℕ) → 0 < x → x ≤ n → elem x t ≡ ltb 0 (marks (outside n) t x)
reached-marked n t x low high = go (elem x t) refl
  where
    go : (b : Bool) → elem x t ≡ b → b ≡ ltb 0 (marks (outside n) t x)
    go true e = sym (lt-ltb 0 (marks (outside n) t x) (marks-member (outside n) x (member_has x t e)))
    go false e =
        sym (le-ltb 0 (marks (outside n) t x)
        (⊎_elim (λ z. omega arith)
        (λ h. ⊎_elim (λ mem. absurd (true≢false (sym (has_member x mem) ∙ e))) (λ k. absurd (omega (arith, outside-cell n x low high))) (marks_cases (outside n) t x h))
        (zero_or_above (marks (outside n) t x))))

module _ (R n : ℕ) (w : List ℕ) (well : WellFormed R n w) where
  -- what is kept is what is reached
  pub kept-reached : (x : ℕ) → is_reached R n w x ≡ true → Reach (graph_of R w) (roots_of R w) x
  kept-reached x h = (preorder-reached n (graph_of R w) (roots_of R w) (pool-within well) x).0 (member_has x (reached_cells R n w) h)

  pub reached-kept : {x : ℕ} → Reach (graph_of R w) (roots_of R w) x → is_reached R n w x ≡ true
  reached-kept {x} r = has_member x ((preorder-reached n (graph_of R w) (roots_of R w) (pool-within well) x).1 r)

  module _ (room : pool_length R n ≤ length w) where
    -- a reached cell keeps its words, and so its kind and its links
    pub collected_field : {x : ℕ} (f : ℕ) → f < 4 → Reach (graph_of R w) (roots_of R w) x → cell R (collected R n w) x f ≡ cell R w x f
    collected_field {x} zero hf r =
        retained_state R n (is_reached R n w) w room x (reach_above r) (reach_within (pool-within well) r) (reached-kept r)
        ∙ sym (used-same (state R w x) (reached-used well r).state)
    collected_field {x} (suc f) hf r =
        retained_same R n (is_reached R n w) w room x f (reach_above r) (reach_within (pool-within well) r) hf (reached-kept r)

    pub collected-kind : (x : ℕ) → Reach (graph_of R w) (roots_of R w) x → is_point_at R (collected R n w) x ≡ is_point_at R w x
    collected-kind x r = ap is_point (collected_field 0 (omega arith) r)

    pub collected-agree : (x : ℕ) → Reach (graph_of R w) (roots_of R w) x → Agree (graph_of R w) (graph_of R (collected R n w)) x
    collected-agree x r = record { left = sym (link 1 (omega arith)); right = sym (link 2 (omega arith)) }
      where
        link : (f : ℕ) → f < 4 → link_of R (collected R n w) x f ≡ link_of R w x f
        link f hf = link-same R (collected R n w) w x x f (collected-kind x r) (collected_field f hf r)

    pub collected-roots : roots_of R (collected R n w) ≡ roots_of R w
    collected-roots =
        tabulate_cong R (λ k. register (collected R n w) k) (λ k. register w k) λ k low. retain-register R n (is_reached R n w) w room k low

    -- it is well-formed
    kept-link : (x : ℕ) → (0 < x → Reach (graph_of R w) (roots_of R w) x) → Kept n (is_reached R n w) x
    kept-link zero r = Kept.nil refl
    kept-link (suc x) r =
        let reach = r (omega arith) in
        Kept.kept (omega arith) (reach_within (pool-within well) reach) (reached-kept reach)

    pub collected-well_formed : WellFormed R n (collected R n w)
    collected-well_formed =
        retained_well_formed R n (is_reached R n w) w room
        (λ k low. kept-link (register w k) (Reach.root (member-tabulate R (λ j. register w j) k low)))
        λ i low high e. let reach = kept-reached i e in (kept-link (link_of R w i 1) (Reach.left reach), kept-link (link_of R w i 2) (Reach.right reach))

    -- the same cells are reached, in the same order
    pub collected-order : reached_cells R n (collected R n w) ≡ reached_cells R n w
    collected-order =
        ap (preorder n (graph_of R (collected R n w))) collected-roots
        ∙ sym (preorder-agree n (graph_of R w) (graph_of R (collected R n w)) (roots_of R w) (pool-within well) collected-agree)

    -- with as many visits
    pub collected-visits : reached_visits R n (collected R n w) ≡ reached_visits R n w
    collected-visits =
        ap (visits_of (is_point_at R (collected R n w))) collected-order
        ∙ visits_cong (is_point_at R (collected R n w)) (is_point_at R w) (reached_cells R n w)
        λ x mem. collected-kind x ((preorder-reached n (graph_of R w) (roots_of R w) (pool-within well) x).0 mem)

    -- so a second collection changes nothing
    pub collected-again : collected R n (collected R n w) ≡ collected R n w
    collected-again =
        ap (λ (t : List ℕ). retain R n (λ i. elem i t) (collected R n w)) collected-order ∙ retain-again R n (is_reached R n w) w room

    -- the number of kept cells is the number of reached ones
    pub kept-count : kept_count (is_reached R n w) n ≡ reached_count R n w
    kept-count =
        let g = graph_of R w in
        let roots = roots_of R w in
        count-marked n (is_reached R n w) (marks (outside n) (reached_cells R n w)) (reached-marked n (reached_cells R n w))
        ∙ marked-count n g roots (pool-within well) (marks (outside n) (reached_cells R n w)) (order-closure n g roots (pool-within well))

    -- where every cell is reached and the head is nil, nothing changes at all
    pub collected-full : reached_count R n w ≡ n → head w ≡ 0 → collected R n w ≡ w
    collected-full full nil =
        let all = counted-all (is_reached R n w) n (kept-count ∙ full) in
        retain-all R n (is_reached R n w) w all (λ j low high. (reached-used well (kept-reached j (all j low high))).state) nil

    -- where no cell is free after a collection, all are kept
    pub head-nil_full : 0 < n → head (collected R n w) ≡ 0 → reached_count R n w ≡ n
    head-nil_full some nil =
        sym kept-count ∙ all-counted (is_reached R n w) n (none-free_all (is_reached R n w) n (sym (retain-head R n (is_reached R n w) w room some) ∙ nil))
