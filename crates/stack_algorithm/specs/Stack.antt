-- Marking with a stack that has no limit (01, "Marking with a lent stack", after Kurokawa's Algorithm 2; 02, S-2, "Two links, one branch").
use Rattle.std.specs.Prelude.{ℕ, zero, suc, ◌≤◌, max, List, [], ◌∷◌, ◌++◌, Bool, true, false, cond, ◌||◌, not, length, eqb}
use Rattle.graph.specs.Graph.{Graph}
use Rattle.graph.specs.Preorder.{elem}

-- Is the link a cell that is not marked, where `seen` are the marked ones? Nil counts as marked.
abbrev pub is_unmarked : List ℕ → ℕ → Bool
is_unmarked seen x = not (eqb x 0 || elem x seen)

-- "Look at both links": those of the left link l and the right link r that are unmarked, by whether each is. "Two equal unmarked links now count as
-- one unmarked link" (02, S-2).
abbrev pub unmarked_links : Bool → Bool → ℕ → ℕ → List ℕ
unmarked_links true true l r = cond (eqb l r) (l ∷ []) (l ∷ r ∷ [])
unmarked_links true false l r = l ∷ []
unmarked_links false true l r = r ∷ []
unmarked_links false false l r = []

-- The unmarked links of the cell p.
abbrev pub onward : Graph → List ℕ → ℕ → List ℕ
onward g seen p = unmarked_links (is_unmarked seen (g.left p)) (is_unmarked seen (g.right p)) (g.left p) (g.right p)

-- The cells marked at the end, and the most entries that the stack ever held, `held` among them.
abbrev pub holding : ℕ → List ℕ × ℕ → List ℕ × ℕ
holding held end = (end.0, max held end.1)

-- `seen` are the cells marked so far; of the pending ones the first is in hand, and the others are the stack, its top first. The unmarked links of
-- the cell in hand are marked and take its place: "both marked or nil, pop the next in hand, or end if the stack is empty; one unmarked, mark it
-- and go there; both unmarked, mark both, push right, go left". The first argument bounds how often a cell is taken in hand.
unfoldable pub run : ℕ → Graph → List ℕ → List ℕ → List ℕ × ℕ
run zero g seen pending = (seen, 0)
run (suc turns) g seen [] = (seen, 0)
run (suc turns) g seen (p ∷ stack) = holding (length stack) (run turns g (seen ++ onward g seen p) (onward g seen p ++ stack))

-- "a cell not already marked is marked and taken in hand"
abbrev pub taken : List ℕ → ℕ → List ℕ
taken seen p = cond (is_unmarked seen p) (p ∷ []) []

-- "per register in order"
unfoldable pub runs : ℕ → Graph → List ℕ → List ℕ → List ℕ × ℕ
runs turns g seen [] = (seen, 0)
runs turns g seen (p ∷ ps) =
    let first = run turns g (seen ++ taken seen p) (taken seen p) in
    holding first.1 (runs turns g first.0 ps)

-- The marker on a graph of n cells: a cell is taken in hand once at most.
abbrev pub stack_run : ℕ → Graph → List ℕ → List ℕ × ℕ
stack_run n g roots = runs n g [] roots

-- The cells that it marks.
abbrev pub stack_marked : ℕ → Graph → List ℕ → List ℕ
stack_marked n g roots = (stack_run n g roots).0

-- The most entries that its stack ever holds.
abbrev pub max_entries : ℕ → Graph → List ℕ → ℕ
max_entries n g roots = (stack_run n g roots).1

-- 01's "enough": "when Algorithm 2 never holds more entries than there are words".
abbrev pub HoldsAll : ℕ → ℕ → Graph → List ℕ → Type 0
HoldsAll room n g roots = max_entries n g roots ≤ room
