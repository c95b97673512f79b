-- Marking with a lent stack, worked out by hand on pools of two and three cells.
use Rattle.std.specs.Prelude.{ℕ, ◌≡◌, List, [], ◌∷◌, ◌++◌, replicate}
use Rattle.answers.specs.Outcome.{answered}
use Rattle.stack_marker.specs.StackCollect.{stack_of}

-- Register 0 holds cell 1, both of whose links lead to cell 2, a leaf.
abbrev pub leaf_pool : List ℕ
leaf_pool = 2 ∷ 0 ∷ 1 ∷ (replicate 15 0 ++ 0 ∷ 2 ∷ 2 ∷ 7 ∷ 0 ∷ 0 ∷ 0 ∷ 8 ∷ [])

-- "the case of the leaf with two equal links becomes enough with none" (02, S-2). Both cells are kept, the pool is as it was, and the stack word ends 0.
abbrev pub LeafExample : Type 0
LeafExample =
    (stack_of leaf_pool (9 ∷ []) ≡ (answered (2 ∷ 1 ∷ 0 ∷ []), leaf_pool, 0 ∷ [])) × (stack_of leaf_pool [] ≡ (answered (2 ∷ 1 ∷ 0 ∷ []), leaf_pool, []))

-- Register 0 holds cell 1, whose links lead to cells 2 and 3, two leaves.
abbrev pub fork_pool : List ℕ
fork_pool = 3 ∷ 0 ∷ 1 ∷ (replicate 15 0 ++ 0 ∷ 2 ∷ 3 ∷ 7 ∷ 0 ∷ 0 ∷ 0 ∷ 8 ∷ 0 ∷ 0 ∷ 0 ∷ 9 ∷ [])

-- Two links that are not equal: "both unmarked, mark both, push right, go left". One stack word is enough, none is not: "A check is one such pass, even over
-- no entries" (02, S-5).
abbrev pub ForkExample : Type 0
ForkExample =
    (stack_of fork_pool (9 ∷ []) ≡ (answered (3 ∷ 1 ∷ 0 ∷ []), fork_pool, 0 ∷ [])) × (stack_of fork_pool [] ≡ (answered (3 ∷ 0 ∷ 1 ∷ []), fork_pool, []))
