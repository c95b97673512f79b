-- No theorem is vacuous: the hypotheses of each are met by an instance, most of them by one pool, on which what the theorem says is not trivial.
use Rattle.std.specs.Prelude.{ℕ, suc, ◌+◌, ◌*◌, ◌-◌, ◌/◌, ◌^◌, ◌<◌, ◌≤◌, ◌≡◌, true, false, length, get_or, drop, replicate, Some, Ok}
use Prim.Native.Char.{code}
use mathlib.Core.List.{List, [], ◌∷◌, ◌++◌, Memᴰ}
use Rattle.leb128.specs.Leb128.{found, encode, read_at, Bytes, Between}
use Rattle.graph.specs.Graph.{Graph, Reach, Within}
use Rattle.graph.specs.Dfs.{marks, Dfs, DfsAll}
use Rattle.graph.specs.Marking.{outside, Closure}
use Rattle.graph.specs.Compare.{Agree, Paired, OneToOne}
use Rattle.pool.specs.Words.{tabulate}
use Rattle.pool.specs.Layout.{register_count, cell_limit, pool_length, cell_count_of_length, cell_count, is_point_at, graph_of, roots_of}
use Rattle.questions.specs.Validity.{well_formed}
use Rattle.pool.specs.Lengths.{LengthOf}
use Rattle.pool.specs.Retain.{fresh_words}
use Rattle.pool.specs.Fresh.{fresh_of}
use Rattle.answers.specs.Outcome.{answered}
use Rattle.occupancy.specs.Occupancy.{distance, Nearest}
use Rattle.reversal.specs.Reached.{reached_cells, reached_count}
use Rattle.collector.specs.Collect.{collect_of}
use Rattle.visit.specs.declared.VisitCase.TheVariants as visit
use Rattle.visit.specs.Visit.{Visitable, marker}
use Rattle.reversal.specs.Reversal.{MarkRoots}
use Rattle.reversal.specs.Trace.{trace, followed, four_ways, trace_roots, begins}
use Rattle.reversal.specs.ReversalTheorem.{Agreement}
use Rattle.recursive_marker.specs.Steps.{Markable}
use Rattle.recursive_marker.specs.Recursive.{recursive_of}
use Rattle.stack_algorithm.specs.Stack.{is_unmarked, stack_run, max_entries}
use Rattle.stack_algorithm.specs.Steps.{Going}
use Rattle.stack_algorithm.specs.Check.{check, is_enough, limited_run}
use Rattle.stack_algorithm.specs.Comb.{comb}
use Rattle.stack_algorithm.specs.StackTheorem.{chain}
use Rattle.stack_marker.specs.StackCollect.{stack_of}
use Rattle.stack_marker.specs.StackExample.{fork_pool}
use Rattle.worst_case.specs.WorstCase.{worst_case_of}
use Rattle.worst_case.specs.Example.{five_pool}
use Rattle.calls.specs.declared.Call.{Call}
use Rattle.calls.specs.declared.Call.TheVariants as call
use Rattle.batch.specs.declared.Stopped.TheVariants as stopped
use Rattle.batch.specs.Program.{program_of, program_of_calls}
use Rattle.batch.specs.Run.{run_of, after_all}
use Rattle.reference.specs.Equivalence.{pool_answers}
use Rattle.pool.specs.declared.Kind.TheVariants as kind
use Rattle.image.specs.Image.{Image, parsed, read_image}
use Rattle.image.specs.OldForm.{OldCell, OldNumbers}
use Rattle.load.specs.Load.{load_of}
use Rattle.save.specs.Save.{save_of}
use Rattle.save.specs.RoundTrip.{Words}
use Rattle.lines.specs.declared.Line.TheVariants as line
use Rattle.script.specs.declared.Found.TheVariants as found
use Rattle.lines.specs.Lines.{is_digit, all, decimal_value}
use Rattle.script.specs.declared.LineReader.TheVariants as reader
use Rattle.script.specs.Reader.{new_reader, begun_of}
use Rattle.replies.specs.Replies.{decimal}
use Rattle.script.specs.Scripts.{next_line}
use Rattle.runner.specs.declared.Progress.{Progress}
use Rattle.runner.specs.Work.{initial}

-- A pool of three used cells. Register 0 holds cell 1, both of whose links lead to cell 2 (which is shared), and that leads back to cell 1 (a cycle).
-- Cell 3 leads to cell 1 and to itself, and is not reached.
abbrev pub three : List ℕ
three = (3 ∷ 0 ∷ 1 ∷ []) ++ replicate 15 0 ++ (0 ∷ 2 ∷ 2 ∷ 300 ∷ []) ++ (0 ∷ 1 ∷ 0 ∷ 8 ∷ []) ++ (0 ∷ 1 ∷ 3 ∷ 9 ∷ [])

-- The same after a collection: cell 3 is free, and the head.
abbrev pub three_collected : List ℕ
three_collected = (3 ∷ 3 ∷ 1 ∷ []) ++ replicate 15 0 ++ (0 ∷ 2 ∷ 2 ∷ 300 ∷ []) ++ (0 ∷ 1 ∷ 0 ∷ 8 ∷ []) ++ (4 ∷ 0 ∷ 0 ∷ 0 ∷ [])

-- A pool of just the two cells that are reached, in the other order: register 0 holds cell 2.
abbrev pub two : List ℕ
two = (2 ∷ 0 ∷ 2 ∷ []) ++ replicate 15 0 ++ (0 ∷ 2 ∷ 0 ∷ 8 ∷ []) ++ (0 ∷ 1 ∷ 1 ∷ 300 ∷ [])

-- The graph of a pool and its roots.
abbrev pub graph : List ℕ → Graph
graph = graph_of register_count

abbrev pub roots : List ℕ → List ℕ
roots = roots_of register_count

-- `CollectionKeepsTheReached`, `CollectionMarksAndSweeps`, `RunOverPool`, `RetainedFreeList`, `StackCollects` and `CollectedAnswersAlike`; and `FreshIsFree`, which asks for no more
-- than a number of cells and room for them. (`ChainNeeds` asks for nothing.)
pub record PoolInstance : Type 0 where
  pub some : 0 < 3
  pub room : pool_length register_count 3 ≤ length three
  pub cells : cell_count register_count three ≡ 3
  pub is_well_formed : well_formed register_count 3 three ≡ true
  -- A collection frees cell 3. Where all cells are reached it changes nothing.
  pub answer : collect_of three ≡ (answered (2 ∷ 6 ∷ []), three_collected)
  pub full : collect_of two ≡ (answered (2 ∷ 6 ∷ []), two)
  -- With a lent stack of one word it does the same, and also with none, as the two links that are unmarked are equal.
  pub stack : stack_of three (9 ∷ []) ≡ (answered (2 ∷ 1 ∷ 0 ∷ []), three_collected, 0 ∷ [])
  pub no_stack : stack_of three [] ≡ (answered (2 ∷ 1 ∷ 0 ∷ []), three_collected, [])

-- `RunFromLink` and `RunFollows`, from link 1, and `RunFromRoots` (that the roots are cells is `within.root` of GraphInstance).
pub record ReversalInstance : Type 0 where
  pub agreement : Agreement register_count 3 (graph three) (is_point_at register_count three) (outside 3) three
  pub unmarked : outside 3 1 ≡ 0
  pub dfs : Dfs (graph three) (outside 3) 1 (1 ∷ 2 ∷ [])
  pub all : DfsAll (graph three) (outside 3) (roots three) (1 ∷ 2 ∷ [])
  -- What the recursive marker's visit of link 1 asks for, with depth 3
  pub recursive : Markable register_count 3 3 1 0 three
  -- `VisitIsByCase`: the first visit of cell 1
  pub visitable : Visitable register_count 3 (marker 1 4 0, three)
  -- A cell with two leaves: the nine visits of the run meet all five cases. Cases 2 and 4 go to cells 2 and 3, and five visits are four-way exchanges.
  pub five_cases : trace register_count 9 (marker 1 4 0, fork_pool)
      ≡ (visit.FollowLeft, 2) ∷ (visit.PassLeft, 2) ∷ (visit.PassRight, 2) ∷ (visit.Retreat, 1) ∷ (visit.FollowRight, 3) ∷ (visit.PassLeft, 3)
      ∷ (visit.PassRight, 3) ∷ (visit.Retreat, 1) ∷ (visit.Retreat, 4) ∷ []
  pub two_followed : followed (trace register_count 9 (marker 1 4 0, fork_pool)) ≡ 2 ∷ 3 ∷ []
  pub five_exchanges : four_ways (trace register_count 9 (marker 1 4 0, fork_pool)) ≡ 5

-- A pool with two runs: register 0 leads to cell 2, a point, and register 1 to cell 1, which leads to 2 and 3. (The point's x is 1, as the number of a cell, and
-- its y is 77, as of none.)
abbrev pub two_runs : List ℕ
two_runs = (3 ∷ 0 ∷ 2 ∷ 1 ∷ []) ++ replicate 14 0 ++ (0 ∷ 2 ∷ 3 ∷ 7 ∷ []) ++ (5 ∷ 1 ∷ 77 ∷ 8 ∷ []) ++ (0 ∷ 0 ∷ 0 ∷ 9 ∷ [])

-- `FollowedOnce` and `FollowedCount`, whose runs are these: the first makes the one visit of the point. Cases 2 and 4 go to cell 3 alone, the one reached cell at
-- which no run begins.
pub record RunsInstance : Type 0 where
  pub room : pool_length register_count 3 ≤ length two_runs
  pub is_well_formed : well_formed register_count 3 two_runs ≡ true
  pub last : ℕ × List ℕ
  pub runs : MarkRoots register_count 3 (roots two_runs) (0, two_runs) last
  pub reached : reached_cells register_count 3 two_runs ≡ 2 ∷ 1 ∷ 3 ∷ []
  pub begun : begins runs ≡ 2 ∷ 1 ∷ []
  pub gone_to : followed (trace_roots runs) ≡ 3 ∷ []
  pub exchanges : four_ways (trace_roots runs) ≡ 3

-- Cells 1 and 2 of `three` are cells 2 and 1 of `two`, and nil is nil.
abbrev pub Swapped : ℕ → ℕ → Type 0
Swapped x y = (x ≤ 2) × (y ≡ get_or (0 ∷ 2 ∷ 1 ∷ []) x 0)

-- The theorems of graphs and of marking with a stack, on the pool's graph.
pub record GraphInstance : Type 0 where
  -- `PreorderReached`, `PreorderDistinct`, `PreorderLength`, `PreorderDepth`
  pub within : Within 3 (graph three) (roots three)
  pub deeper : 3 ≤ 4
  pub reached : Reach (graph three) (roots three) 2
  pub unreached : Reach (graph three) (roots three) 3 → ⊥
  -- `MarkedReached`, `MarkedCount`
  pub closure : Closure (graph three) (outside 3) (roots three) (marks (outside 3) (1 ∷ 2 ∷ []))
  -- `ReachAgree`, `PreorderAgree`: with the pool after the collection, where cell 3 has other links
  pub agree : (x : ℕ) → Reach (graph three) (roots three) x → Agree (graph three) (graph three_collected) x
  pub differ : Agree (graph three) (graph three_collected) 3 → ⊥
  -- `PairingKept`, and `LengthPaired`, `PreorderPaired`: with the pool of two cells
  pub relation : OneToOne Swapped
  pub related_roots : (i : ℕ) → i < length (roots three) → Swapped (get_or (roots three) i 0) (get_or (roots two) i 0)
  pub related_links : (x y : ℕ) → Swapped x y → 0 < x → 0 < y
      → Swapped ((graph three).left x) ((graph two).left y) × Swapped ((graph three).right x) ((graph two).right y)
  pub within_two : Within 2 (graph two) (roots two)
  pub lengths : length (roots three) ≡ length (roots two)
  pub paired : OneToOne (Paired (graph three) (roots three) (graph two) (roots two))
  -- `StackEnds`, `StackMarksTheReached`, `StackMarksOnce`, `StackBound`: cell 2 is both links of cell 1, and not pushed; of two leaves one is
  pub turns : 3 ≤ 4
  pub run : stack_run 3 (graph three) (roots three) ≡ (1 ∷ 2 ∷ [], 0)
  pub run_fork : stack_run 3 (graph fork_pool) (roots fork_pool) ≡ (1 ∷ 2 ∷ 3 ∷ [], 1)
  -- `StackCases`: of cell 1 both links are unmarked, and equal; of cell 2 the left one is or none, of cell 3 the right one; of a cell with two
  -- leaves both are, and not equal
  pub equal : (is_unmarked (1 ∷ []) ((graph three).left 1) ≡ true) × (is_unmarked (1 ∷ []) ((graph three).right 1) ≡ true)
      × ((graph three).left 1 ≡ (graph three).right 1)
  pub left : (is_unmarked (2 ∷ []) ((graph three).left 2) ≡ true) × (is_unmarked (2 ∷ []) ((graph three).right 2) ≡ false)
  pub none : (is_unmarked (1 ∷ []) ((graph three).left 2) ≡ false) × (is_unmarked (1 ∷ []) ((graph three).right 2) ≡ false)
  pub right : (is_unmarked (1 ∷ []) ((graph three).left 3) ≡ false) × (is_unmarked (1 ∷ []) ((graph three).right 3) ≡ true)
  pub both : (is_unmarked (1 ∷ []) ((graph fork_pool).left 1) ≡ true) × (is_unmarked (1 ∷ []) ((graph fork_pool).right 1) ≡ true)
      × ((graph fork_pool).left 1 ≡ (graph fork_pool).right 1 → ⊥)
  -- `EqualLinksNeedNone`
  pub links_equal : (x : ℕ) → Reach (chain 3) (1 ∷ []) x → (chain 3).left x ≡ (chain 3).right x

-- The number 300, with a byte before it and one behind it.
abbrev pub around : List ℕ
around = 0x05 ∷ 0xAC ∷ 0x02 ∷ 0x00 ∷ []

-- LEB128: `OneToFiveBytes` and `DecimalsReadBack` (of scripts) of the largest number; `ReadsEncodings`, both ways.
pub record NumberInstance : Type 0 where
  pub largest : 4294967295 < 2 ^ 32
  pub bytes : Bytes around
  pub read : read_at around 1 ≡ found 300 3
  pub encoded : (300 < 2 ^ 32) × Between around 1 3 (encode 300)

-- The occupancy: `OccupancyIsNearest` where 3 of 40 cells are kept: 7.5 percent, an exact half.
pub record OccupancyInstance : Type 0 where
  pub questions : (1 ≤ 40) × (40 ≤ cell_limit) × (3 ≤ 40)
  pub nearest : Nearest (100 * 3) 40 8
  pub half : 2 * distance (100 * 3) (8 * 40) ≡ 40

-- The bytes of an image of two cells, what it holds, and words to load it into.
abbrev pub image : List ℕ
image = 2 ∷ 1 ∷ (replicate 15 0 ++ (0 ∷ 2 ∷ 2 ∷ 0xAC ∷ 0x02 ∷ 0 ∷ 1 ∷ 0 ∷ 8 ∷ []))

abbrev pub image_of_two : Image
image_of_two =
    record {
      registers = 1 ∷ replicate 15 0;
      cells = record { kind = kind.Pair; left = 2; right = 2; value = 300 } ∷ record { kind = kind.Pair; left = 1; right = 0; value = 8 } ∷ [];
    }

abbrev pub words : List ℕ
words = replicate 26 5

-- Scratch for a save of three cells, and an output with two bytes more than the image.
abbrev pub scratch : List ℕ
scratch = replicate 6 5

abbrev pub output : List ℕ
output = replicate 28 9

-- The theorems of load and save.
pub record ImageInstance : Type 0 where
  -- `CheckIsLoad`, `LoadIsWellFormed`: the image is accepted
  pub size : length words ≡ pool_length register_count 2 + 0
  pub accepted : (load_of words image).0.verdict ≡ Ok tt
  pub loaded : (load_of words image).1 ≡ (2 ∷ 0 ∷ 1 ∷ []) ++ replicate 15 0 ++ (0 ∷ 2 ∷ 2 ∷ 300 ∷ []) ++ (0 ∷ 1 ∷ 0 ∷ 8 ∷ [])
  -- `SaveThenLoad`, `SavedSameFile`, `LoadedAnswersAlike`: both pools are saved as that image, and the two bytes behind it stay
  pub words32 : Words three
  pub saved : save_of three scratch output ≡ (answered (26 ∷ []), replicate 6 0, image ++ 9 ∷ 9 ∷ [])
  pub saved_two : save_of two scratch output ≡ save_of three scratch output
  pub target : 0 < cell_count_of_length register_count (length words)
  pub fit : reached_count register_count (cell_count register_count three) three ≤ cell_count_of_length register_count (length words)
  -- `LoadThenSave`: its cells are numbered in the order of the visits
  pub read : read_image register_count (cell_count_of_length register_count (length words)) image ≡ parsed image_of_two 26
  pub ordered : reached_cells register_count (cell_count_of_length register_count (length words)) (load_of words image).1 ≡ tabulate 2 suc
  pub room : 2 * cell_count_of_length register_count (length words) ≤ length scratch
  -- `ReadsImageBytes`, `OneImage`: it is read with the same numbers from two byte strings, for pools of two sizes
  pub bytes : Bytes image
  pub other_bytes : Bytes (image ++ 9 ∷ 9 ∷ [])
  pub other_read : read_image register_count 3 (image ++ 9 ∷ 9 ∷ []) ≡ parsed image_of_two 26

-- A pool of a pair and two points, all reached: register 0 holds cell 2, which leads to cells 1 and 3, and register 1 holds cell 1. The words of the points look
-- like links, and are none.
abbrev pub mixed : List ℕ
mixed = (3 ∷ 0 ∷ 2 ∷ 1 ∷ []) ++ replicate 14 0 ++ (5 ∷ 2 ∷ 9 ∷ 7 ∷ []) ++ (0 ∷ 1 ∷ 3 ∷ 8 ∷ []) ++ (5 ∷ 3 ∷ 300 ∷ 9 ∷ [])

-- Its image: cell 2 is visited first, then 1, then 3. The points' x and y are as they were.
abbrev pub mixed_image : List ℕ
mixed_image = 3 ∷ 1 ∷ 2 ∷ (replicate 14 0 ++ (0 ∷ 2 ∷ 3 ∷ 8 ∷ []) ++ (1 ∷ 2 ∷ 9 ∷ 7 ∷ []) ++ (1 ∷ 3 ∷ 0xAC ∷ 0x02 ∷ 9 ∷ []))

-- And what is loaded from it.
abbrev pub mixed_loaded : List ℕ
mixed_loaded = (3 ∷ 0 ∷ 1 ∷ 2 ∷ []) ++ replicate 14 0 ++ (0 ∷ 2 ∷ 3 ∷ 8 ∷ []) ++ (5 ∷ 2 ∷ 9 ∷ 7 ∷ []) ++ (5 ∷ 3 ∷ 300 ∷ 9 ∷ [])

-- An image of one cell in the form of before, with one register for brevity.
abbrev pub old_cells : List OldCell
old_cells = record { left = 0; right = 1; value = 4294967295 } ∷ []

-- The same theorems of a pool with points, by every marker; and `OldImageRefused`. (`OldImageNotLoaded` asks for the same with sixteen registers.)
pub record PointInstance : Type 0 where
  pub cells : cell_count register_count mixed ≡ 3
  pub is_well_formed : well_formed register_count 3 mixed ≡ true
  pub answer : collect_of mixed ≡ (answered (3 ∷ 5 ∷ []), mixed)
  pub stack : stack_of mixed (9 ∷ []) ≡ (answered (3 ∷ 1 ∷ 0 ∷ []), mixed, 0 ∷ [])
  pub recursive : recursive_of mixed ≡ (answered (3 ∷ 5 ∷ []), mixed)
  pub saved : save_of mixed scratch (replicate 31 9) ≡ (answered (30 ∷ []), replicate 6 0, mixed_image ++ 9 ∷ [])
  pub loaded : load_of (replicate 30 5) mixed_image ≡ (record { verdict = Ok tt; end = 30 }, mixed_loaded)
  pub words32 : Words mixed
  pub target : 0 < cell_count_of_length register_count (length {A = ℕ} (replicate 30 5))
  pub fit : reached_count register_count (cell_count register_count mixed) mixed ≤ cell_count_of_length register_count (length {A = ℕ} (replicate 30 5))
  pub old : OldNumbers (1 ∷ []) old_cells
  pub old_some : 1 ≤ length old_cells

-- Two calls, five words each, and room for one word more than their answers.
abbrev pub calls : List Call
calls = call.New 0 0 0 7 ∷ call.Collect ∷ []

abbrev pub list : List ℕ
list = 2 ∷ 0 ∷ 0 ∷ 0 ∷ 7 ∷ 10 ∷ 5 ∷ 5 ∷ 5 ∷ 5 ∷ []

abbrev pub out : List ℕ
out = replicate 7 5

-- Words as they may be lent for a pool of three cells.
abbrev pub lent : List ℕ
lent = replicate 30 9

-- And for one of five.
abbrev pub lent_for_five : List ℕ
lent_for_five = replicate 38 9

-- The pool that fills the stack, built in the words for three cells: cell 1 leads to 3 and 2.
abbrev pub worst_of_three : List ℕ
worst_of_three = (3 ∷ 0 ∷ 1 ∷ []) ++ replicate 15 0 ++ (0 ∷ 3 ∷ 2 ∷ 0 ∷ []) ++ replicate 8 0

-- `CheckLosesNothing`, `LimitedEnds`, `LimitedMarksTheReached`, `LimitedMarksOnlyReached`, `NoCheck` and `FewChecks`, on the comb of five cells with one word:
-- with 3 in hand, and 5 and 4 marked, the word holds 2, a leaf, and the check drops it. With two words there is no check.
pub record CheckInstance : Type 0 where
  pub within : Within 5 (comb 5) (1 ∷ [])
  pub before : Going (comb 5) (1 ∷ []) (1 ∷ 3 ∷ 2 ∷ 5 ∷ 4 ∷ []) ((5 ∷ 4 ∷ []) ++ (2 ∷ []))
  pub left : check 5 (comb 5) (1 ∷ 3 ∷ 2 ∷ 5 ∷ 4 ∷ []) (2 ∷ []) ≡ (1 ∷ 3 ∷ 2 ∷ 5 ∷ 4 ∷ [], [])
  pub run : limited_run 1 5 (comb 5) (1 ∷ []) ≡ (1 ∷ 3 ∷ 2 ∷ 5 ∷ 4 ∷ [], 1 ∷ [])
  pub enough : is_enough (limited_run 1 5 (comb 5) (1 ∷ [])) ≡ true
  pub turns : 5 ≤ 6
  pub entries : max_entries 5 (comb 5) (1 ∷ []) ≤ 2

-- `WorstCaseBuilt`, `HalfIsEnough`, `FewerAreChecked`, `NoneIsNotEnough` and `OneLessIsChecked`. (`NoPoolHoldsMore` asks for a well-formed pool, as in
-- PoolInstance; `CombReached`, `CombHolds`, `CombChecks` and `CombWithoutWords` ask for no more than numbers of cells and of words.)
pub record WorstCaseInstance : Type 0 where
  pub target : 0 < cell_count_of_length register_count (length lent)
  pub built : worst_case_of lent ≡ (answered (1 ∷ []), worst_of_three)
  -- one word is enough for the pool of three cells above, and none is not for the one that is built
  pub half : (3 - 1) / 2 ≤ length {A = ℕ} (9 ∷ [])
  pub three_cells : 3 ≤ cell_count_of_length register_count (length lent)
  pub short : stack_of worst_of_three [] ≡ (answered (3 ∷ 0 ∷ 1 ∷ []), worst_of_three, [])
  -- of five cells, one word is one less than are needed
  pub five : 0 < cell_count_of_length register_count (length lent_for_five)
  pub word : 0 < length {A = ℕ} (9 ∷ [])
  pub one_less : length {A = ℕ} (9 ∷ []) + 1 ≡ (cell_count_of_length register_count (length lent_for_five) - 1) / 2
  pub checked : stack_of five_pool (9 ∷ []) ≡ (answered (5 ∷ 1 ∷ 1 ∷ []), five_pool, 0 ∷ [])

-- Words for the same pool, and two behind its cells.
abbrev pub behind : List ℕ
behind = 7 ∷ 8 ∷ []

abbrev pub longer : List ℕ
longer = lent ++ behind

-- `FreshIsWellFormed`, `Equivalence`, `EquivalenceAtLimit`, `NeverMalformed`, `ReachedPools` and `RefusedWhenFull`, which ask for no more than a length of a pool;
-- `LengthsOfPools`, `LeftoverCount`, `LeftoversStay` and `LeftoversUnseen`: with two words behind the cells, and with none.
pub record LeftoverInstance : Type 0 where
  pub fits : LengthOf register_count 3 2 (length longer)
  pub exact : LengthOf register_count 3 0 (length lent)
  pub fresh : fresh_of longer ≡ (answered (3 ∷ 2 ∷ []), fresh_words register_count 3 lent ++ behind)
  pub built : worst_case_of longer ≡ (answered (1 ∷ []), worst_of_three ++ behind)
  pub collected : collect_of (three ++ behind) ≡ (answered (2 ∷ 6 ∷ []), three_collected ++ behind)
  pub saved : save_of (three ++ behind) scratch output ≡ (answered (26 ∷ []), replicate 6 0, image ++ 9 ∷ 9 ∷ [])
  pub loaded : load_of (words ++ behind) image ≡ ((load_of words image).0, (load_of words image).1 ++ behind)

-- `RunsOneAfterTheOther` and `RunEquivalence`, and what `NeverMalformed` asks for of an answer.
pub record BatchInstance : Type 0 where
  pub program : program_of list ≡ program_of_calls calls
  pub room : 3 * length calls ≤ length out
  pub run : run_of list (fresh_words register_count 3 longer) out
      ≡ (Ok 2, after_all calls (fresh_words register_count 3 longer), 0 ∷ 0 ∷ 0 ∷ 0 ∷ 1 ∷ 3 ∷ 5 ∷ [])
  pub answer : Memᴰ (answered (1 ∷ 3 ∷ [])) (pool_answers calls (fresh_words register_count 3 longer))

-- Three digits; two lines, the second without its line feed; the progress where both are read; and words for the largest pool.
abbrev pub padded : List ℕ
padded = code "0" ∷ code "0" ∷ code "7" ∷ []

abbrev pub lines : List ℕ
lines = code "g" ∷ code "\n" ∷ code "g" ∷ []

abbrev pub progress : Progress
progress = record { used = 0; reader = reader.Letter (code "g"); at = 3; put = 0 }

abbrev pub largest : List ℕ
largest = replicate (pool_length register_count cell_limit) 0

-- The theorems of scripts and of the interpreter.
pub record ScriptInstance : Type 0 where
  -- `FewestDigits`: 007 is longer than 7
  pub some : 0 < length padded
  pub digits : all is_digit padded ≡ true
  pub fewer : length (decimal (decimal_value padded)) < length padded
  -- `PartsRead`: a line ends, or goes on behind the part
  pub ended : next_line new_reader (drop 0 lines) 0 ≡ found.Line (Some (line.Run call.Collect)) 2
  pub more : next_line new_reader (drop 2 lines) 2 ≡ found.More progress.reader
  -- `StartsWhole`: words for the largest pool; `PartsJoin`: a part is read to its end; `Ends`: a line has begun, or not
  pub words : length largest ≡ pool_length register_count cell_limit
  pub read : length lines ≤ progress.at
  pub begun : begun_of progress.reader ≡ true
  pub over : begun_of initial.reader ≡ false
