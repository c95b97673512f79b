-- Demand 2 for readers: what a collection does to a well-formed pool. `collect_of` is what the contract of `collect` says.
use Rattle.std.specs.Prelude.{ℕ, ◌<◌, ◌≤◌, ◌≡◌, ◌↔◌, true, length}
use mathlib.Core.List.{List, [], ◌∷◌, Memᴰ}
use Rattle.graph.specs.Graph.{Reach}
use Rattle.graph.specs.Theorems.{Distinct}
use Rattle.pool.specs.Layout.{register_count, cell_count, count, head, register, state, left, right, value, is_point_at, graph_of, roots_of}
use Rattle.pool.specs.States.{is_used, is_free}
use Rattle.questions.specs.Validity.{well_formed}
use Rattle.pool.specs.Retain.{free_list, free_cells, sweep_of}
use Rattle.answers.specs.Outcome.{answered}
use Rattle.reversal.specs.Reached.{is_reached, visits_of}
use Rattle.collector.specs.Collect.{collect_of}
use Rattle.reversal.specs.Reversal.{MarkRoots}

-- Cell x can be reached from the registers over left and right.
abbrev pub Reached : List ℕ → ℕ → Type 0
Reached w x = Reach (graph_of register_count w) (roots_of register_count w) x

-- Cell x is used, and all its words are those that it has in w: a pair's links and its value, a point's state 5, x, y and its value.
pub record SameCell (w w' : List ℕ) (x : ℕ) : Type 0 where
  pub used : is_used (state register_count w' x) ≡ true
  pub state : state register_count w' x ≡ state register_count w x
  pub left : left register_count w' x ≡ left register_count w x
  pub right : right register_count w' x ≡ right register_count w x
  pub value : value register_count w' x ≡ value register_count w x

-- The words w' after a collection of the pool w of n cells that kept the cells `kept`.
pub record Collected (n : ℕ) (w w' kept : List ℕ) : Type 0 where
  -- The kept cells are those that are reached, each once.
  pub reached : (x : ℕ) → Memᴰ x kept ↔ Reached w x
  pub once : Distinct kept
  -- A reached cell is as before.
  pub same : (x : ℕ) → Reached w x → SameCell w w' x
  -- Every other cell is free, and the free list has exactly these, ascending.
  pub free : (x : ℕ) → 0 < x → x ≤ n → (Reached w x → ⊥) → is_free (state register_count w' x) ≡ true
  pub chain : free_list register_count n w' ≡ free_cells (is_reached register_count n w) n 1
  -- The registers and N are as before.
  pub registers : (k : ℕ) → k < register_count → register w' k ≡ register w k
  pub count : count w' ≡ count w
  -- The result is a well-formed pool, and collecting it again answers the same and changes nothing.
  pub cells : cell_count register_count w' ≡ n
  pub is_well_formed : well_formed register_count n w' ≡ true
  pub again : collect_of w' ≡ (answered (length kept ∷ visits_of (is_point_at register_count w) kept ∷ []), w')
  -- Where all n cells are reached, and the free list was empty, nothing changes at all.
  pub full : length kept ≡ n → head w ≡ 0 → w' ≡ w

-- Demand 2: a collection keeps exactly the cells that the registers reach, with their words, and frees all others; it answers how many it
-- kept, and three visits for each pair and one for each point of them ("visits are 3 × pairs + points", 02, S-8).
abbrev pub CollectionKeepsTheReached : Type 0
CollectionKeepsTheReached =
    (n : ℕ) (w : List ℕ) → 0 < n → cell_count register_count w ≡ n → well_formed register_count n w ≡ true
    → (kept w' : List ℕ) × (collect_of w ≡ (answered (length kept ∷ visits_of (is_point_at register_count w) kept ∷ []), w')) × Collected n w w' kept

-- A collection of the pool w of n cells that answers `kept` and `visits` and leaves w': the marker's runs over the registers, from 0 visits on, and
-- then the sweep. "We report visits only": the number is that of the visits that were made, one after the other, whatever it comes to.
pub record MarkedAndSwept (n : ℕ) (w : List ℕ) (kept visits : ℕ) (w' : List ℕ) : Type 0 where
  -- The words between the two.
  pub marked : List ℕ
  -- "It runs from each register in order .. whose cell has state 0".
  pub runs : MarkRoots register_count n (roots_of register_count w) (0, w) (visits, marked)
  -- Each visit leaves no choice: whatever runs from there makes so many visits and leaves these words.
  pub only : (end : ℕ × List ℕ) → MarkRoots register_count n (roots_of register_count w) (0, w) end → end ≡ (visits, marked)
  -- "The sweep sets state 3 to 0", a marked point's to 5, "frees every other cell and rebuilds the ascending chain."
  pub swept : sweep_of register_count n marked ≡ (kept, w')

-- Visits are counted: what a collection answers and leaves is the result of marking by reversal and of the sweep, visits included.
abbrev pub CollectionMarksAndSweeps : Type 0
CollectionMarksAndSweeps =
    (n : ℕ) (w : List ℕ) → 0 < n → cell_count register_count w ≡ n → well_formed register_count n w ≡ true
    → (kept visits : ℕ) × (w' : List ℕ) × (collect_of w ≡ (answered (kept ∷ visits ∷ []), w')) × MarkedAndSwept n w kept visits w'
