-- What is proved of marking with a stack of few words whose entries are checked (02, S-5): statements.
use Rattle.std.specs.Prelude.{ℕ, ◌-◌, ◌/◌, ◌≤◌, ◌≡◌, ◌↔◌, true}
use mathlib.Core.List.{List, [], ◌++◌, Memᴰ}
use Rattle.graph.specs.Graph.{Graph, Reach, Within}
use Rattle.graph.specs.Theorems.{Distinct}
use Rattle.stack_algorithm.specs.Stack.{stack_marked, HoldsAll}
use Rattle.stack_algorithm.specs.Steps.{Going}
use Rattle.stack_algorithm.specs.Check.{check, is_enough, check_count, limited_runs, limited_run}

-- A check loses nothing: where all marked cells but the pending ones have their links marked or nil, with the entries among the pending ones, it is so
-- with those that are left in their place.
abbrev pub CheckLosesNothing : Type 0
CheckLosesNothing =
    (steps : ℕ) (g : Graph) (roots seen others entries : List ℕ) → Going g roots seen (others ++ entries)
    → let left = check steps g seen entries in Going g roots left.0 (others ++ left.1)

-- The marker ends: with more turns and longer walks than there are cells it does the same.
abbrev pub LimitedEnds : Type 0
LimitedEnds =
    (room n : ℕ) (g : Graph) (roots : List ℕ) → Within n g roots → (turns : ℕ) → n ≤ turns → limited_runs room turns g [] roots ≡ limited_run room n g roots

-- Where the stack is enough, exactly the cells that the roots reach are marked.
abbrev pub LimitedMarksTheReached : Type 0
LimitedMarksTheReached =
    (room n : ℕ) (g : Graph) (roots : List ℕ) → Within n g roots → is_enough (limited_run room n g roots) ≡ true
    → (x : ℕ) → Memᴰ x (limited_run room n g roots).0 ↔ Reach g roots x

-- Where it is not, no other cells are; and no cell is marked twice, in either case.
abbrev pub LimitedMarksOnlyReached : Type 0
LimitedMarksOnlyReached =
    (room n : ℕ) (g : Graph) (roots : List ℕ) → Within n g roots
    → ((x : ℕ) → Memᴰ x (limited_run room n g roots).0 → Reach g roots x) × Distinct (limited_run room n g roots).0

-- No check is made exactly where the words hold all entries of the marker without a limit; then it marks the same cells in the same order.
abbrev pub NoCheck : Type 0
NoCheck =
    (room n : ℕ) (g : Graph) (roots : List ℕ) → Within n g roots
    → ((check_count (limited_run room n g roots) ≡ 0) ↔ HoldsAll room n g roots)
    × (HoldsAll room n g roots → limited_run room n g roots ≡ (stack_marked n g roots, []))

-- Each check belongs to a push, for which two cells are marked: no graph of n cells takes more than (n - 1) / 2 checks.
abbrev pub FewChecks : Type 0
FewChecks = (room n : ℕ) (g : Graph) (roots : List ℕ) → Within n g roots → check_count (limited_run room n g roots) ≤ (n - 1) / 2
