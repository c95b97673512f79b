-- What is proved of the pool that fills the stack, and of every other pool (02, S-3 and S-5): statements.
use Rattle.std.specs.Prelude.{ℕ, ◌+◌, ◌-◌, ◌/◌, ◌<◌, ◌≤◌, ◌≡◌, List, [], ◌∷◌, true, cond, length, replicate, leb}
use Rattle.graph.specs.Graph.{Reach}
use Rattle.graph.specs.Compare.{Agree}
use Rattle.pool.specs.Layout.{register_count, cell_count_of_length, cell_count, head, register, state, value, graph_of, roots_of}
use Rattle.pool.specs.States.{pair_state}
use Rattle.questions.specs.Validity.{well_formed}
use Rattle.answers.specs.Outcome.{answered}
use Rattle.reversal.specs.Reached.{reached_count}
use Rattle.collector.specs.Collect.{collected}
use Rattle.stack_algorithm.specs.Stack.{max_entries}
use Rattle.stack_algorithm.specs.Comb.{comb}
use Rattle.stack_marker.specs.StackCollect.{stack_of}
use Rattle.worst_case.specs.WorstCase.{worst_case_of}

-- The words w hold the pool of n cells that is built.
pub record WorstCase (n : ℕ) (w : List ℕ) : Type 0 where
  -- "build a pool of N used cells", which is well-formed; each is a pair
  pub cells : cell_count register_count w ≡ n
  pub is_well_formed : well_formed register_count n w ≡ true
  pub pairs : (i : ℕ) → 0 < i → i ≤ n → state register_count w i ≡ pair_state
  -- "all reached from register 0", from it alone
  pub reached : (i : ℕ) → 0 < i → i ≤ n → Reach (graph_of register_count w) (register w 0 ∷ []) i
  -- "for which the stack marker of S-2 holds the most entries. That number is (N − 1) / 2 rounded down"
  pub entries : max_entries n (graph_of register_count w) (roots_of register_count w) ≡ (n - 1) / 2
  -- "Values and the head are 0, registers 1 to 15 nil"
  pub values : (i : ℕ) → 0 < i → i ≤ n → value register_count w i ≡ 0
  pub head : head w ≡ 0
  pub nil : (k : ℕ) → 0 < k → k < register_count → register w k ≡ 0
  -- "the paper written with the builder names the links": those of the comb
  pub links : (i : ℕ) → 0 < i → i ≤ n → Agree (graph_of register_count w) (comb n) i

-- The contract of the builder gives that pool, in words of any content, and that number.
abbrev pub WorstCaseBuilt : Type 0
WorstCaseBuilt =
    (w : List ℕ)
    → let n = cell_count_of_length register_count (length w) in
    0 < n → (w' : List ℕ) × (worst_case_of w ≡ (answered ((n - 1) / 2 ∷ []), w')) × WorstCase n w'

-- "Every other whole pool of N cells, by any registers, holds at most as many."
abbrev pub NoPoolHoldsMore : Type 0
NoPoolHoldsMore = (R n : ℕ) (w : List ℕ) → well_formed R n w ≡ true → max_entries n (graph_of R w) (roots_of R w) ≤ (n - 1) / 2

-- So a lent stack of (N − 1) / 2 words is enough for every well-formed pool of N cells, and none of its entries is ever checked: the collection with it says so.
abbrev pub HalfIsEnough : Type 0
HalfIsEnough =
    (n : ℕ) (w stack : List ℕ) → 0 < n → cell_count register_count w ≡ n → well_formed register_count n w ≡ true → (n - 1) / 2 ≤ length stack
    → stack_of w stack ≡ (answered (reached_count register_count n w ∷ 1 ∷ 0 ∷ []), collected register_count n w, replicate (length stack) 0)

-- With one word at least (02, S-5): the entries are leaves, so that each check drops all of them. It is enough, keeps all cells and leaves the pool as it is. The
-- number of checks is ((N − 1) / 2 − 1) / words, rounded down: 0 from (N − 1) / 2 words on.
abbrev pub FewerAreChecked : Type 0
FewerAreChecked =
    (w stack : List ℕ)
    → let n = cell_count_of_length register_count (length w) in
    let built = (worst_case_of w).1 in
    0 < n → 0 < length stack → stack_of built stack ≡ (answered (n ∷ 1 ∷ ((n - 1) / 2 - 1) / length stack ∷ []), built, replicate (length stack) 0)

-- With no word there is no entry to drop: where a word is needed, none is not enough, and one check says so.
abbrev pub NoneIsNotEnough : Type 0
NoneIsNotEnough =
    (w : List ℕ)
    → let n = cell_count_of_length register_count (length w) in
    let built = (worst_case_of w).1 in
    3 ≤ n → stack_of built [] ≡ (answered (n ∷ 0 ∷ 1 ∷ []), built, [])

-- So one word less than (N − 1) / 2 makes one check. For N ≥ 5 it is enough; for N = 3 and N = 4 that is no word, and it is not.
abbrev pub OneLessIsChecked : Type 0
OneLessIsChecked =
    (w stack : List ℕ)
    → let n = cell_count_of_length register_count (length w) in
    let built = (worst_case_of w).1 in
    length stack + 1 ≡ (n - 1) / 2 → stack_of built stack ≡ (answered (n ∷ cond (leb 5 n) 1 0 ∷ 1 ∷ []), built, replicate (length stack) 0)
