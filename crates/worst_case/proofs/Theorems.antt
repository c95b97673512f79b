-- The theorems of the pool that fills the stack.
use Prim.Native.Nat.{ℕ, ◌+◌, ◌*◌, ◌-◌, ◌/◌, ◌<◌, ◌≤◌}
use native.Mathlib.Omega.{arith}
use mathlib.Core.Path.{◌≡◌, sym, ap, ap₂, ◌∙◌}
use mathlib.Core.List.{List, [], ◌∷◌}
use mathlib.Core.Bool.{Bool, cond, not}
use lib.ListN.{length, replicate, length-replicate}
use lib.Arith.{digits_div}
use borrow.Author.Tests.{lt-ltb, le-leb, lt-leb}
use Rattle.graph.specs.Graph.{Reach}
use Rattle.graph.proofs.Lists.{each_nil, each_cons}
use Rattle.graph.proofs.Reached.{reach_least}
use Rattle.pool.specs.Layout.{register_count, pool_length, cell_count_of_length, register, graph_of, roots_of}
use Rattle.pool.proofs.Sizes.{length_sized, same_count, cells_sized}
use Rattle.pool.proofs.Every.{member-tabulate}
use Rattle.pool.proofs.AllKept.{all-counted}
use Rattle.questions.proofs.WellFormed.{WellFormed, well_formed_read, well_formed_made}
use Rattle.questions.proofs.PoolGraph.{pool-within}
use Rattle.reversal.specs.Reached.{is_reached, reached_count}
use Rattle.answers.specs.Outcome.{answered}
use Rattle.collector.specs.Collect.{collected}
use Rattle.collector.proofs.Collected.{reached-kept, kept-count, collected-full}
use Rattle.graph.specs.Preorder.{elem}
use Rattle.stack_algorithm.proofs.Going.{stack_bound}
use Rattle.stack_algorithm.proofs.NoCheck.{no_check}
use Rattle.stack_algorithm.proofs.CombChecks.{elem-replicate}
use Rattle.stack_marker.specs.StackCollect.{lent_run, stack_of}
use Rattle.worst_case.specs.WorstCase.{worst_case_words, worst_case_of}
use Rattle.worst_case.specs.WorstCaseTheorem.{WorstCase, WorstCaseBuilt, NoPoolHoldsMore, HalfIsEnough, FewerAreChecked, NoneIsNotEnough, OneLessIsChecked}
use Rattle.worst_case.proofs.Built.{built-length, built-pair, built-value, built-links, built-count, built-head, built-nil, built-well_formed, built-reached, built-entries, built_checks, built-without_words}

-- the words that are built hold that pool
module _ (w : List ℕ) (some : 0 < cell_count_of_length register_count (length w)) where
  abbrev cells_of : ℕ
  cells_of = cell_count_of_length register_count (length w)

  abbrev built_of : List ℕ
  built_of = worst_case_words register_count cells_of w

  fits : pool_length register_count cells_of ≤ length w
  fits = (length_sized register_count (length w) some).room

  made : worst_case_of w ≡ (answered ((cells_of - 1) / 2 ∷ []), built_of)
  made = simp (lt-ltb 0 cells_of some)

  built : WorstCase cells_of built_of
  built =
      let cells : cell_count_of_length register_count (length built_of) ≡ cells_of = ap (cell_count_of_length register_count) (built-length register_count cells_of w fits) in
      record {
        cells = same_count register_count built_of (built-count register_count cells_of w fits ∙ sym cells) ∙ cells;
        is_well_formed = well_formed_made register_count cells_of built_of (built-well_formed register_count cells_of w fits some);
        pairs = built-pair register_count cells_of w fits;
        reached = built-reached register_count cells_of w fits (omega arith);
        entries = built-entries register_count cells_of w fits some (omega arith);
        values = built-value register_count cells_of w fits;
        head = built-head register_count cells_of w fits;
        nil = built-nil register_count cells_of w fits;
        links = built-links register_count cells_of w fits;
      }

pub worst_case_built : WorstCaseBuilt
worst_case_built w some = (built_of w some, made w some, built w some)

pub no_pool_holds_more : NoPoolHoldsMore
no_pool_holds_more R n w well = stack_bound n (graph_of R w) (roots_of R w) (pool-within (well_formed_read R n w well))

pub half_is_enough : HalfIsEnough
unfolding elem
half_is_enough n w stack some cells well long =
    let g = graph_of register_count w in
    let roots = roots_of register_count w in
    let within = pool-within (well_formed_read register_count n w well) in
    let run = (no_check (length stack) n g roots within).1 (omega (arith, stack_bound n g roots within)) in
    rw cells (simp (lt-ltb 0 n some, well, run))

-- all of the pool that is built is kept, as it is
module _ (n : ℕ) (w : List ℕ) (some : 0 < n) (built : WorstCase n w) where
  well : WellFormed register_count n w
  well = well_formed_read register_count n w built.is_well_formed

  room : pool_length register_count n ≤ length w
  room = omega (arith, built.cells, (cells_sized register_count w (omega (arith, built.cells))).0.room)

  -- what register 0 reaches, the registers reach
  all-reached : (i : ℕ) → 0 < i → i ≤ n → Reach (graph_of register_count w) (roots_of register_count w) i
  all-reached i low high =
      let first = Reach.root (member-tabulate register_count (λ k. register w k) 0 (omega arith)) in
      reach_least (Reach (graph_of register_count w) (roots_of register_count w))
      (each_cons (λ x. 0 < x → Reach (graph_of register_count w) (roots_of register_count w) x) first (each_nil _))
      (λ x r. (Reach.left r, Reach.right r)) (built.reached i low high)

  kept-all : reached_count register_count n w ≡ n
  kept-all =
      sym (kept-count register_count n w well room)
      ∙ all-counted (is_reached register_count n w) n λ i low high. reached-kept register_count n w well (all-reached i low high)

  unchanged : collected register_count n w ≡ w
  unchanged = collected-full register_count n w well room kept-all built.head

  -- so a collection with a stack answers by the checks alone
  answers_by_checks : (stack dropped : List ℕ) → (lent_run n w stack).1 ≡ dropped
      → stack_of w stack ≡ (answered (n ∷ cond (not (elem 0 dropped)) 1 0 ∷ length dropped ∷ []), w, replicate (length stack) 0)
  answers_by_checks stack dropped run = rw built.cells (simp (lt-ltb 0 n some, built.is_well_formed, run, kept-all, unchanged))

pub fewer_are_checked : FewerAreChecked
fewer_are_checked w stack some words =
    let n = cell_count_of_length register_count (length w) in
    let count = ((n - 1) / 2 - 1) / length stack in
    let run = built_checks register_count n w (fits w some) some (omega arith) (length stack) words in
    let answer = answers_by_checks n (built_of w some) some (built w some) stack (replicate count (length stack)) run in
    rw (made w some) (rw (elem-replicate count (length stack) words, length-replicate count (length stack)) at answer)

pub none_is_not_enough : NoneIsNotEnough
unfolding elem
none_is_not_enough w many =
    let n = cell_count_of_length register_count (length w) in
    let some : 0 < n = omega arith in
    let run = built-without_words register_count n w (fits w some) (omega arith) many in
    rw (made w some) (answers_by_checks n (built_of w some) some (built w some) [] (0 ∷ []) run)

pub one_less_is_checked : OneLessIsChecked
one_less_is_checked w [] one =
    let n = cell_count_of_length register_count (length w) in
    none_is_not_enough w (omega arith)
    ∙ ap (λ (t : Bool). (answered (n ∷ cond t 1 0 ∷ 1 ∷ []), (worst_case_of w).1, [])) (sym (lt-leb 5 n (omega arith)))
one_less_is_checked w (x ∷ stack) one =
    let n = cell_count_of_length register_count (length w) in
    let words = length (x ∷ stack) in
    let same : (n - 1) / 2 - 1 ≡ 1 * words + 0 = omega arith in
    let count : ((n - 1) / 2 - 1) / words ≡ 1 = ap (λ (k : ℕ). k / words) same ∙ digits_div 1 (omega arith) in
    fewer_are_checked w (x ∷ stack) (omega arith) (omega arith)
    ∙ ap₂ (λ (t : Bool) (k : ℕ). (answered (n ∷ cond t 1 0 ∷ k ∷ []), (worst_case_of w).1, replicate words 0)) (sym (le-leb 5 n (omega arith))) count
