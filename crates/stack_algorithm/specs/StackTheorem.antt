-- What is proved of marking with a stack: statements.
use Rattle.std.specs.Prelude.{ℕ, suc, ◌-◌, ◌/◌, ◌≤◌, ◌≡◌, ◌↔◌, Bool, true, false, cond, length, ltb}
use mathlib.Core.List.{List, [], ◌∷◌, ◌++◌, Memᴰ}
use Rattle.graph.specs.Graph.{Graph, Reach, Within}
use Rattle.graph.specs.Theorems.{Distinct}
use Rattle.stack_algorithm.specs.Stack.{is_unmarked, holding, run, runs, stack_run, stack_marked, max_entries}

-- The cases of 01 and of 02, S-2, for the cell p in hand with the stack behind it, by whether its left link l and its right link r are unmarked.
pub record TurnCases (turns : ℕ) (g : Graph) (seen : List ℕ) (p : ℕ) (stack : List ℕ) (l r : ℕ) (left-unmarked right-unmarked : Bool) : Type 0 where
  -- "both marked or nil, pop the next in hand, or end if the stack is empty"
  pub none : left-unmarked ≡ false → right-unmarked ≡ false → run (suc turns) g seen (p ∷ stack) ≡ holding (length stack) (run turns g seen stack)
  -- "one unmarked, mark it and go there"
  pub left : left-unmarked ≡ true → right-unmarked ≡ false
      → run (suc turns) g seen (p ∷ stack) ≡ holding (length stack) (run turns g (seen ++ l ∷ []) (l ∷ stack))
  pub right : left-unmarked ≡ false → right-unmarked ≡ true
      → run (suc turns) g seen (p ∷ stack) ≡ holding (length stack) (run turns g (seen ++ r ∷ []) (r ∷ stack))
  -- "Two equal unmarked links now count as one unmarked link: mark it and go there."
  pub equal : left-unmarked ≡ true → right-unmarked ≡ true → l ≡ r
      → run (suc turns) g seen (p ∷ stack) ≡ holding (length stack) (run turns g (seen ++ l ∷ []) (l ∷ stack))
  -- "both unmarked, mark both, push right, go left", where they are not equal
  pub both : left-unmarked ≡ true → right-unmarked ≡ true → (l ≡ r → ⊥)
      → run (suc turns) g seen (p ∷ stack) ≡ holding (length stack) (run turns g (seen ++ l ∷ r ∷ []) (l ∷ r ∷ stack))

-- A turn of the marker is one of these; it has come to its end where nothing is in hand.
abbrev pub StackCases : Type 0
StackCases =
    (turns : ℕ) (g : Graph) (seen : List ℕ)
    → (run turns g seen [] ≡ (seen, 0))
    × ((p : ℕ) (stack : List ℕ)
    → TurnCases turns g seen p stack (g.left p) (g.right p) (is_unmarked seen (g.left p)) (is_unmarked seen (g.right p)))

-- The marker ends: with more turns than one for each cell it does the same.
abbrev pub StackEnds : Type 0
StackEnds = (n : ℕ) (g : Graph) (roots : List ℕ) → Within n g roots → (turns : ℕ) → n ≤ turns → runs turns g [] roots ≡ stack_run n g roots

-- It marks exactly the cells that the roots reach.
abbrev pub StackMarksTheReached : Type 0
StackMarksTheReached =
    (n : ℕ) (g : Graph) (roots : List ℕ) → Within n g roots → (x : ℕ) → Memᴰ x (stack_marked n g roots) ↔ Reach g roots x

-- It marks no cell twice.
abbrev pub StackMarksOnce : Type 0
StackMarksOnce = (n : ℕ) (g : Graph) (roots : List ℕ) → Within n g roots → Distinct (stack_marked n g roots)

-- No graph of n cells, whatever its roots are, ever needs more than (n - 1) / 2 entries, rounded down (02, S-3: "holds at most as many").
abbrev pub StackBound : Type 0
StackBound = (n : ℕ) (g : Graph) (roots : List ℕ) → Within n g roots → max_entries n g roots ≤ (n - 1) / 2

-- Where both links of each reached cell are equal, the stack never holds an entry.
abbrev pub EqualLinksNeedNone : Type 0
EqualLinksNeedNone = (n : ℕ) (g : Graph) (roots : List ℕ) → ((x : ℕ) → Reach g roots x → g.left x ≡ g.right x) → max_entries n g roots ≡ 0

-- A chain of n cells with equal links: both links of each cell lead to the next one, and those of the last are nil.
abbrev pub chain : ℕ → Graph
chain n = record { left = λ x. cond (ltb x n) (suc x) 0; right = λ x. cond (ltb x n) (suc x) 0 }

-- "The chain of such cells needs no stack word where 01 said N − 1"
abbrev pub ChainNeeds : Type 0
ChainNeeds = (n : ℕ) → max_entries n (chain n) (1 ∷ []) ≡ 0
