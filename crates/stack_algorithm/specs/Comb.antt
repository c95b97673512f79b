-- The plan that fills the stack (02, S-3): "the paper written with the builder names the links".
use Rattle.std.specs.Prelude.{ℕ, ◌+◌, ◌-◌, ◌/◌, ◌%◌, ◌<◌, ◌≤◌, ◌≡◌, [], ◌∷◌, cond, replicate, eqb, leb}
use Rattle.graph.specs.Graph.{Graph, Reach}
use Rattle.stack_algorithm.specs.Stack.{max_entries}
use Rattle.stack_algorithm.specs.Check.{limited_run}

-- A link to cell x of n cells, nil where x is past n.
abbrev pub or_nil : ℕ → ℕ → ℕ
or_nil n x = cond (leb x n) x 0

-- The link of cell i to cell i + step: an odd cell has left i + 2 and right i + 1, each nil where that is past n, and an even cell has two nil links.
abbrev pub comb_link : ℕ → ℕ → ℕ → ℕ
comb_link n i step = cond (eqb (i % 2) 1) (or_nil n (i + step)) 0

-- A left comb of n cells: the odd cells are a chain over left links, and the right link of each leads to a leaf, but for the last one's where n is odd.
--
--     1 --left--> 3 --left--> 5 --left--> 7
--     |           |           |           |
--   right       right       right       right
--     v           v           v           v
--     2           4           6           8
--
-- The marker goes down the chain and pushes 2, 4, 6 on its way: an entry for each two cells that it marks.
abbrev pub comb : ℕ → Graph
comb n = record { left = λ i. comb_link n i 2; right = λ i. comb_link n i 1 }

-- "all reached from register 0", which leads to cell 1: every cell of the comb.
abbrev pub CombReached : Type 0
CombReached = (n x : ℕ) → 0 < x → x ≤ n → Reach (comb n) (1 ∷ []) x

-- "the stack marker of S-2 holds the most entries. That number is (N − 1) / 2 rounded down": exactly so many, on the comb of n cells. (`StackBound`: no graph
-- of n cells holds more.)
abbrev pub CombHolds : Type 0
CombHolds = (n : ℕ) → max_entries n (comb n) (1 ∷ []) ≡ (n - 1) / 2

-- The comb with one word at least (02, S-5): the entries are leaves, so that each check drops all of them, and the next is made by the push that finds the words
-- full again.
abbrev pub CombChecks : Type 0
CombChecks = (n room : ℕ) → 0 < room → (limited_run room n (comb n) (1 ∷ [])).1 ≡ replicate (((n - 1) / 2 - 1) / room) room

-- With no word, there is no entry that the first check could drop.
abbrev pub CombWithoutWords : Type 0
CombWithoutWords = (n : ℕ) → 3 ≤ n → (limited_run 0 n (comb n) (1 ∷ [])).1 ≡ 0 ∷ []
