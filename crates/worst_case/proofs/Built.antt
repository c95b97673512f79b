-- The pool that is built: what the builder's steps leave, and what stands in its words.
use Prim.Native.Nat.{ℕ, zero, suc, ◌+◌, ◌-◌, ◌/◌, ◌<◌, ◌≤◌}
use native.Mathlib.Omega.{arith}
use mathlib.Core.Path.{◌≡◌, refl, sym, ap, subst, ◌∙◌}
use mathlib.Core.List.{List, [], ◌∷◌}
use mathlib.Core.Bool.{true}
use lib.ListN.{length, replicate}
use borrow.Author.Tests.{lt-ltb}
use Rattle.graph.specs.Graph.{Reach, Within}
use Rattle.graph.specs.Compare.{Agree}
use Rattle.pool.specs.Words.{tabulate}
use Rattle.pool.specs.Layout.{register_count, first_register, pool_length, cell_count_of_length, count, head, register, set_register, cell, state, link_of, graph_of, roots_of}
use Rattle.pool.specs.States.{pair_state, is_used}
use Rattle.pool.specs.Retain.{blank_words}
use Rattle.answers.specs.Outcome.{Outcome, answered}
use Rattle.pool.proofs.Laws.{length-set_register, register-same, register_other, head-set_register, count-set_register}
use Rattle.pool.proofs.States.{pair_is}
use Rattle.pool.proofs.Links.{link-pair}
use Rattle.pool.proofs.Node.{written}
use Rattle.pool.proofs.Every.{tabulate_first}
use Rattle.pool.proofs.FreshPool.{blank_length, blank_count, blank_zero, blank_register}
use Rattle.questions.proofs.WellFormed.{Link, Cell, WellFormed}
use Rattle.questions.proofs.PoolGraph.{pool-within}
use Rattle.stack_algorithm.specs.Stack.{max_entries}
use Rattle.stack_algorithm.specs.Check.{limited_run}
use Rattle.stack_algorithm.specs.Comb.{comb_link, comb}
use Rattle.stack_algorithm.proofs.Comb.{link_bound, comb-reached_in, comb_holds_in}
use Rattle.stack_algorithm.proofs.CombChecks.{comb_checks_in, comb-without_words_in}
use Rattle.worst_case.specs.WorstCase.{put_comb, worst_case_words, worst_case_of}
use Rattle.worst_case.proofs.Comb.{comb-length, comb_elsewhere, comb-cell}

-- the builder's steps, where the length is that of n cells
pub worst_case_made : (w : List ℕ) (n : ℕ) {w₁ w₂ w₃ : List ℕ} → n ≡ cell_count_of_length register_count (length w) → (n ≡ 0 → ⊥)
    → w₁ ≡ blank_words register_count n w → w₂ ≡ set_register w₁ 0 1 → w₃ ≡ put_comb register_count n n w₂
    → ◌≡◌ {A = Outcome × List ℕ} (answered ((n - 1) / 2 ∷ []), w₃) (worst_case_of w)
worst_case_made w n cells some blank root put = simp (← cells, lt-ltb 0 n (omega (arith, some)), put, root, blank)

module _ (R n : ℕ) (w : List ℕ) (room : pool_length R n ≤ length w) where
  -- the words before the comb is written
  abbrev start : List ℕ
  start = set_register (blank_words R n w) 0 1

  start_length : length start ≡ length w
  start_length = length-set_register R (blank_words R n w) 0 1 ∙ blank_length R n w room

  pub built-length : length (worst_case_words R n w) ≡ length w
  built-length = comb-length R n n start ∙ start_length

  -- the cells
  built-cell : (i f : ℕ) → 0 < i → i ≤ n → f < 4
      → cell R (worst_case_words R n w) i f ≡ written pair_state (comb_link n i 2) (comb_link n i 1) 0 f
  built-cell i f low high hf = comb-cell R n n start i f low high hf (omega (arith, start_length))

  pub built-pair : (i : ℕ) → 0 < i → i ≤ n → state R (worst_case_words R n w) i ≡ pair_state
  built-pair i low high = built-cell i 0 low high (omega arith)

  built-used : (i : ℕ) → 0 < i → i ≤ n → is_used (state R (worst_case_words R n w) i) ≡ true
  built-used i low high = (pair_is _ (built-pair i low high)).0

  pub built-value : (i : ℕ) → 0 < i → i ≤ n → cell R (worst_case_words R n w) i 3 ≡ 0
  built-value i low high = built-cell i 3 low high (omega arith)

  pub built-links : (i : ℕ) → 0 < i → i ≤ n → Agree (graph_of R (worst_case_words R n w)) (comb n) i
  built-links i low high = record { left = link 1 (omega arith); right = link 2 (omega arith) }
    where
      link : (f : ℕ) → f < 4 → link_of R (worst_case_words R n w) i f ≡ written pair_state (comb_link n i 2) (comb_link n i 1) 0 f
      link f hf = link-pair R (worst_case_words R n w) i f (pair_is _ (built-pair i low high)).1 ∙ built-cell i f low high hf

  -- word 0, the head and the registers
  pub built-count : count (worst_case_words R n w) ≡ n
  unfolding count
  built-count = comb_elsewhere R n n start 0 (omega arith) (λ j f low high hf e. omega arith) ∙ (count-set_register R (blank_words R n w) 0 1 ∙ blank_count R n w room)

  pub built-head : head (worst_case_words R n w) ≡ 0
  unfolding head
  built-head = comb_elsewhere R n n start 1 (omega arith) (λ j f low high hf e. omega arith) ∙ (head-set_register R (blank_words R n w) 0 1 ∙ blank_zero R n w room 1 (omega arith) (omega arith))

  built-register : (k : ℕ) → k < R → register (worst_case_words R n w) k ≡ register start k
  unfolding register
  built-register k low = comb_elsewhere R n n start (first_register + k) (omega arith) (λ j f hj high hf e. omega arith)

  built-root : 0 < R → register (worst_case_words R n w) 0 ≡ 1
  built-root some = built-register 0 some ∙ register-same R (blank_words R n w) 0 1 (omega (arith, blank_length R n w room))

  pub built-nil : (k : ℕ) → 0 < k → k < R → register (worst_case_words R n w) k ≡ 0
  built-nil k low high = built-register k high ∙ (register_other R (blank_words R n w) 0 1 k (λ e. omega arith) ∙ blank_register R n w room k high)

  cell-link : (x : ℕ) → x ≤ n → Link R n (worst_case_words R n w) x
  cell-link zero high = Link.nil refl
  cell-link (suc x) high = Link.used (omega arith) high (built-used (suc x) (omega arith) high)

  register-link : 0 < n → (k : ℕ) → k < R → Link R n (worst_case_words R n w) (register (worst_case_words R n w) k)
  register-link some zero low = cell-link (register (worst_case_words R n w) 0) (omega (arith, built-root low))
  register-link some (suc k) low = Link.nil (built-nil (suc k) (omega arith) low)

  pub built-well_formed : 0 < n → WellFormed R n (worst_case_words R n w)
  built-well_formed some =
      record {
        registers = register-link some;
        cells = λ i low high.
            let links = built-links i low high in
            Cell.used (built-used i low high) (cell-link (link_of R (worst_case_words R n w) i 1) (omega (arith, links.left, link_bound n i 2)))
            (cell-link (link_of R (worst_case_words R n w) i 2) (omega (arith, links.right, link_bound n i 1)));
      }

  pub built-reached : 0 < R → (i : ℕ) → 0 < i → i ≤ n → Reach (graph_of R (worst_case_words R n w)) (register (worst_case_words R n w) 0 ∷ []) i
  built-reached registers i low high =
      rw (built-root registers) (comb-reached_in n (graph_of R (worst_case_words R n w)) built-links [] i low high)

  -- the roots are cell 1 and the other registers
  abbrev others : List ℕ
  others = tabulate (R - 1) (λ k. register (worst_case_words R n w) (suc k))

  built-roots : 0 < R → roots_of R (worst_case_words R n w) ≡ 1 ∷ others
  built-roots registers =
      tabulate_first R (λ k. register (worst_case_words R n w) k) registers ∙ ap (λ (x : ℕ). x ∷ others) (built-root registers)

  -- what holds of the comb with further roots holds of the pool
  of_comb : 0 < n → 0 < R → (P : List ℕ → Type 0) → (Within n (graph_of R (worst_case_words R n w)) (1 ∷ others) → P (1 ∷ others)) → P (roots_of R (worst_case_words R n w))
  of_comb some registers P comb =
      let roots = built-roots registers in
      subst P (sym roots) (comb (subst (Within n (graph_of R (worst_case_words R n w))) roots (pool-within (built-well_formed some))))

  pub built-entries : 0 < n → 0 < R → max_entries n (graph_of R (worst_case_words R n w)) (roots_of R (worst_case_words R n w)) ≡ (n - 1) / 2
  built-entries some registers =
      let g = graph_of R (worst_case_words R n w) in
      of_comb some registers (λ roots. max_entries n g roots ≡ (n - 1) / 2) (comb_holds_in n g built-links others some)

  pub built_checks : 0 < n → 0 < R → (words : ℕ) → 0 < words
      → (limited_run words n (graph_of R (worst_case_words R n w)) (roots_of R (worst_case_words R n w))).1 ≡ replicate (((n - 1) / 2 - 1) / words) words
  built_checks some registers words one =
      let g = graph_of R (worst_case_words R n w) in
      of_comb some registers (λ roots. (limited_run words n g roots).1 ≡ replicate (((n - 1) / 2 - 1) / words) words)
      λ within. comb_checks_in n g built-links others some within words one

  pub built-without_words : 0 < R → 3 ≤ n → (limited_run 0 n (graph_of R (worst_case_words R n w)) (roots_of R (worst_case_words R n w))).1 ≡ 0 ∷ []
  built-without_words registers many =
      let g = graph_of R (worst_case_words R n w) in
      of_comb (omega arith) registers (λ roots. (limited_run 0 n g roots).1 ≡ 0 ∷ []) λ within. comb-without_words_in n g built-links others many
