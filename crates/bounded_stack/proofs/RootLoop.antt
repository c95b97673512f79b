-- The loop over the registers: it makes the runs of the definition, in the order of the registers.
use Prim.Native.Nat.{ℕ, ◌+◌, ◌*◌, ◌<◌, ◌≤◌}
use native.Mathlib.Omega.{arith}
use native.Mathlib.Numerals.{add-one}
use mathlib.Core.Path.{◌≡◌, refl, sym, ap, ap₂, ◌∙◌}
use mathlib.Core.List.{List, [], ◌∷◌, ◌++◌, append-nil, append_assoc}
use mathlib.Core.Bool.{Bool, true, false, cond, not}
use lib.ListN.{length, length-append, drop}
use lib.Seq.{drop-cons, drop-length}
use borrow.Author.Tests.{not-true, not-false}
use Rattle.graph.specs.Graph.{Reach}
use Rattle.graph.specs.Preorder.{elem}
use Rattle.graph.proofs.Reached.{reach_above, reach_within}
use Rattle.pool.specs.Layout.{pool_length, register, graph_of, roots_of, mark_cell}
use Rattle.questions.specs.Validity.{well_formed}
use Rattle.pool.proofs.Every.{length-tabulate, get_or-tabulate, member-tabulate}
use Rattle.questions.proofs.WellFormed.{WellFormed, well_formed_read}
use Rattle.questions.proofs.PoolGraph.{pool-within}
use Rattle.visit.specs.Visit.{unmarked}
use Rattle.reversal.specs.ReversalTheorem.{mark_all}
use Rattle.reversal.proofs.MarkAll.{mark_all-append, length-mark_all, register-mark_all}
use Rattle.stack_algorithm.specs.Stack.{is_unmarked, taken}
use Rattle.stack_algorithm.specs.Steps.{Going}
use Rattle.stack_algorithm.specs.Check.{behind, limited, is_enough, limited_runs}
use Rattle.stack_algorithm.proofs.Fresh.{fresh-true, distinct-length}
use Rattle.stack_algorithm.proofs.Going.{going_first, begin}
use Rattle.stack_algorithm.proofs.Checking.{limited-none, enough-behind, elem-append, LimitedEnd, limited-ended}
use Rattle.stack_check.specs.Steps.{Pending}
use Rattle.stack_check.proofs.Marked.{Marked, test}
use Rattle.bounded_stack.specs.Steps.{result_in, run_from_cell, pool_run}

-- What the loop keeps: some cells of the pool are marked, each check that was made dropped an entry, and the runs from the registers from k on lead to the
-- same end.
pub record Registers (R n : ℕ) (pool stack₀ w stack : List ℕ) (checks k : ℕ) : Type 0 where
  pub most : k ≤ R
  pub lent : length stack ≡ length stack₀
  pub marked : Marked R pool w []
  pub dropped : List ℕ
  pub each : elem 0 dropped ≡ false
  pub counted : checks ≡ length dropped
  pub few : 2 * checks ≤ length marked.seen
  pub last :
      behind dropped (limited_runs (length stack₀) n (graph_of R pool) marked.seen (drop k (roots_of R pool))) ≡ pool_run R n (length stack₀) pool

pub registers_first : (R n : ℕ) (pool stack₀ : List ℕ) → Registers R n pool stack₀ pool stack₀ 0 0
unfolding mark_all elem
registers_first R n pool stack₀ =
    record {
      most = omega arith;
      lent = refl;
      marked = record { seen = []; words = refl; going = going_first (graph_of R pool) (roots_of R pool) };
      dropped = [];
      each = refl;
      counted = refl;
      few = omega arith;
      last = refl;
    }

pub registers-length : (R n : ℕ) (pool stack₀ w stack : List ℕ) (checks k : ℕ) → Registers R n pool stack₀ w stack checks k → length w ≡ length pool
registers-length R n pool stack₀ w stack checks k s = ap length s.marked.words ∙ length-mark_all R pool s.marked.seen

module _ (R n : ℕ) (pool : List ℕ) (well : well_formed R n pool ≡ true) (room : pool_length R n ≤ length pool) (stack₀ w stack : List ℕ) (checks k : ℕ)
    (s : Registers R n pool stack₀ w stack checks k) where
  facts : WellFormed R n pool
  facts = well_formed_read R n pool well

  roots-length : length (roots_of R pool) ≡ R
  roots-length = length-tabulate R (λ j. register pool j)

  abbrev seen : List ℕ
  seen = s.marked.seen

  -- all registers are done
  pub registers-last : R ≤ k → ◌≡◌ {A = List ℕ × Bool × ℕ} (w, true, checks) (result_in R pool (pool_run R n (length stack₀) pool))
  unfolding limited_runs
  registers-last past =
      let all : k ≡ length (roots_of R pool) = omega (arith, s.most, roots-length) in
      let none : drop k (roots_of R pool) ≡ [] = rw all (drop-length (roots_of R pool)) in
      let end : ◌≡◌ {A = List ℕ × List ℕ} (seen, s.dropped) (pool_run R n (length stack₀) pool) =
      ap (λ (l : List ℕ). (seen, l)) (sym (append-nil s.dropped))
      ∙ (ap (λ (l : List ℕ). behind s.dropped (limited_runs (length stack₀) n (graph_of R pool) seen l)) (sym none) ∙ s.last) in
      rw (s.marked.words, s.counted) (rw s.each at (ap (result_in R pool) end))

  module _ (p : ℕ) (here : k < R) (read : p ≡ register w k) where
    this : p ≡ register pool k
    this = read ∙ (ap (λ (x : List ℕ). register x k) s.marked.words ∙ register-mark_all R k here pool seen)

    reach : 0 < p → Reach (graph_of R pool) (roots_of R pool) p
    reach = rw this (Reach.root (member-tabulate R (λ j. register pool j) k here))

    pub registers_bound : p ≤ n
    registers_bound = rw this ((pool-within facts).root (register pool k) (member-tabulate R (λ j. register pool j) k here))

    from : drop k (roots_of R pool) ≡ p ∷ drop (k + 1) (roots_of R pool)
    from = drop-cons (roots_of R pool) k 0 (omega (arith, roots-length)) ∙ rw (get_or-tabulate R (λ j. register pool j) k 0 here, ← add-one k, this)

    tested : unmarked R w p ≡ is_unmarked seen p
    tested = ap (λ (x : List ℕ). unmarked R x p) s.marked.words ∙ test R n pool facts room seen s.marked.going.cells p reach

    abbrev others : List ℕ → List ℕ × List ℕ
    others t = limited_runs (length stack₀) n (graph_of R pool) t (drop (k + 1) (roots_of R pool))

    -- the run from this register, which leads to `first`, and those from the others
    module _ (first : List ℕ × List ℕ) (made : limited (length stack₀) n n (graph_of R pool) (seen ++ taken seen p) (taken seen p) ≡ first) where
      next : behind s.dropped (cond (is_enough first) (behind first.1 (others first.0)) first) ≡ pool_run R n (length stack₀) pool
      unfolding limited_runs
      next =
          let last = ap (λ (l : List ℕ). behind s.dropped (limited_runs (length stack₀) n (graph_of R pool) seen l)) (sym from) ∙ s.last in
          rw made at last

      enough-then : is_enough first ≡ true → behind s.dropped (behind first.1 (others first.0)) ≡ pool_run R n (length stack₀) pool
      enough-then was = rw was at next

      short-then : is_enough first ≡ false → behind s.dropped first ≡ pool_run R n (length stack₀) pool
      short-then was = rw was at next

    -- the link is marked: nothing is done
    pub registers-skip : unmarked R w p ≡ false → {w' stack' : List ℕ} {checks' : ℕ} → w' ≡ w → stack' ≡ stack → checks' ≡ checks
        → Registers R n pool stack₀ w' stack' checks' (k + 1)
    unfolding elem
    registers-skip e ew es ec =
        let marked : is_unmarked seen p ≡ false = sym tested ∙ e in
        let made : limited (length stack₀) n n (graph_of R pool) (seen ++ taken seen p) (taken seen p) ≡ (seen, []) =
        rw (marked, append-nil seen) (limited-none (length stack₀) n n (graph_of R pool) seen) in
        rw (ew, es, ec)
        (record {
          most = omega arith;
          lent = s.lent;
          marked = s.marked;
          dropped = s.dropped;
          each = s.each;
          counted = s.counted;
          few = s.few;
          last = enough-then (seen, []) made refl;
        })

    module _ (e : unmarked R w p ≡ true) where
      fresh : is_unmarked seen p ≡ true
      fresh = sym tested ∙ e

      pub registers-cell : 0 < p
      registers-cell = (fresh-true seen p fresh).0

      start : Going (graph_of R pool) (roots_of R pool) (seen ++ p ∷ []) (p ∷ [])
      start = rw fresh at (begin s.marked.going p reach)

      module _ (w₁ : List ℕ) (wrote : w₁ ≡ mark_cell R w p) where
        -- what the run from an unmarked link may rely on
        pub registers_start : Pending R n w₁ (p ∷ [])
        unfolding mark_all
        registers_start =
            record {
              pool = pool;
              seen = seen ++ p ∷ [];
              well = well;
              words = wrote ∙ (ap (λ (x : List ℕ). mark_cell R x p) s.marked.words ∙ sym (mark_all-append R pool seen (p ∷ [])));
              going = start;
            }

        abbrev first : List ℕ × List ℕ
        first = limited (length stack₀) n n (graph_of R pool) (seen ++ p ∷ []) (p ∷ [])

        made : limited (length stack₀) n n (graph_of R pool) (seen ++ taken seen p) (taken seen p) ≡ first
        made = rw fresh

        end : LimitedEnd (pool-within facts) (seen ++ p ∷ []) first
        end = limited-ended (pool-within facts) (length stack₀) n n (seen ++ p ∷ []) (p ∷ []) start (omega (arith, start.few))

        more : 2 * (checks + length first.1) ≤ length first.0
        more = omega (arith, s.few, end.few, length-append seen (p ∷ []))

        module _ (w' : List ℕ) (enough : Bool) (run-checks : ℕ)
            (ran : (h : Pending R n w₁ (p ∷ [])) → ◌≡◌ {A = List ℕ × Bool × ℕ} (w', enough, run-checks) (result_in R h.pool (run_from_cell R n (length stack) p w₁ h))) where
          ran_first : ◌≡◌ {A = List ℕ × Bool × ℕ} (w', enough, run-checks) (result_in R pool first)
          unfolding registers_start
          ran_first = ran registers_start ∙ ap (λ (x : ℕ). result_in R pool (limited x n n (graph_of R pool) (seen ++ p ∷ []) (p ∷ []))) s.lent

          counted : run-checks ≡ length first.1
          counted = ap (λ (x : List ℕ × Bool × ℕ). x.2) ran_first

          pub registers-fit : checks + run-checks ≤ n
          registers-fit =
              omega (
                arith,
                more,
                counted,
                distinct-length n end.distinct λ x mem. let reached = end.cells x mem in (reach_above reached, reach_within (pool-within facts) reached),
              )

          -- the stack was enough for this register
          pub registers-next : not enough ≡ false → {w'' stack' : List ℕ} {checks' : ℕ} → length stack' ≡ length stack → w'' ≡ w' → checks' ≡ checks + run-checks
              → Registers R n pool stack₀ w'' stack' checks' (k + 1)
          registers-next was lent ew ec =
              let is : is_enough first ≡ true = sym (ap (λ (x : List ℕ × Bool × ℕ). x.1) ran_first) ∙ not-false enough was in
              rw (ew, ec)
              (record {
                most = omega arith;
                lent = lent ∙ s.lent;
                marked = record { seen = first.0; words = ap (λ (x : List ℕ × Bool × ℕ). x.0) ran_first; going = end.done is };
                dropped = s.dropped ++ first.1;
                each = elem-append 0 s.dropped first.1 ∙ rw s.each (not-true (elem 0 first.1) is);
                counted = rw (length-append s.dropped first.1) (ap₂ (λ (a b : ℕ). a + b) s.counted counted);
                few = omega (arith, more, counted);
                last =
                    ap (λ (l : List ℕ). ((others first.0).0, l)) (append_assoc s.dropped first.1 (others first.0).1) ∙ enough-then first made is;
              })

          -- it was not, so it is not for all
          pub registers-full : not enough ≡ true → ◌≡◌ {A = List ℕ × Bool × ℕ} (w', false, checks + run-checks) (result_in R pool (pool_run R n (length stack₀) pool))
          registers-full was =
              let is : is_enough first ≡ false = sym (ap (λ (x : List ℕ × Bool × ℕ). x.1) ran_first) ∙ not-true enough was in
              let all = enough-behind s.dropped first s.each ∙ is in
              let sum : checks + run-checks ≡ length (s.dropped ++ first.1) =
              ap₂ (λ (a b : ℕ). a + b) s.counted counted ∙ sym (length-append s.dropped first.1) in
              rw (ap (λ (x : List ℕ × Bool × ℕ). x.0) ran_first, sum, sym all) (ap (result_in R pool) (short-then first made is))
