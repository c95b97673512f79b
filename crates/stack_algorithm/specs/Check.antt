-- Marking with a stack of few words, whose entries are checked where it is full (02, S-5, "Fewer stack words", "after 003's stacked node check").
use Rattle.std.specs.Prelude.{ℕ, zero, suc, ◌-◌, List, [], ◌∷◌, ◌++◌, Bool, cond, not, length, ltb}
use Rattle.graph.specs.Graph.{Graph}
use Rattle.graph.specs.Preorder.{elem}
use Rattle.stack_algorithm.specs.Stack.{onward, taken}

-- One of three, by the unmarked links of a cell: there is none, or one, or there are two, which are not equal.
abbrev pub by_links : {A : Type 0} → List ℕ → A → (ℕ → A) → (ℕ → ℕ → A) → A
by_links [] none one two = none
by_links (x ∷ []) none one two = one x
by_links (l ∷ r ∷ more) none one two = two l r

-- "From an entry, while just one link is unmarked, or two equal ones, mark it and go there; drop the entry if both end marked; keep the cell reached if
-- two different ones are unmarked, leaving them unmarked." Gives the cells marked then, and what takes the entry's place: nothing, or the cell reached. The
-- first argument bounds how many cells are looked at.
unfoldable pub walk : ℕ → Graph → List ℕ → ℕ → List ℕ × List ℕ
walk zero g seen p = (seen, p ∷ [])
walk (suc steps) g seen p = by_links (onward g seen p) (seen, []) (λ x. walk steps g (seen ++ x ∷ []) x) λ l r. (seen, p ∷ [])

-- "check the entries from top to bottom .. Close the gaps in order": the cells marked then, and the entries that are left, the top one first. What one
-- entry's walk marked is marked for the entries below it.
unfoldable pub check : ℕ → Graph → List ℕ → List ℕ → List ℕ × List ℕ
check steps g seen [] = (seen, [])
check steps g seen (p ∷ entries) =
    let first = walk steps g seen p in
    let others = check steps g first.0 entries in
    (others.0, first.1 ++ others.1)

-- The result of a marker is the cells marked at the end, and for each check, in order, how many entries it dropped. This is the one with further checks before it.
abbrev pub behind : List ℕ → List ℕ × List ℕ → List ℕ × List ℕ
behind dropped end = (end.0, dropped ++ end.1)

-- A push of r, with l to be taken in hand and both marked, that finds the stack full: "check the entries .. and push if an entry went. Only if none went does
-- reversal take over": then the marker ends. How it goes on from the cells marked and the pending ones is told by `on`.
abbrev pub check_and_push : ℕ → Graph → (List ℕ → List ℕ → List ℕ × List ℕ) → List ℕ → List ℕ → ℕ → ℕ → List ℕ × List ℕ
check_and_push steps g on seen entries l r =
    let left = check steps g seen entries in
    let dropped = length entries - length left.1 in
    behind (dropped ∷ []) (cond (ltb 0 dropped) (on left.0 (l ∷ r ∷ left.1)) (left.0, []))

-- "both unmarked, mark both, push right, go left" (01); "When a push, its two links already marked, finds the stack full, check the entries".
abbrev pub push : ℕ → ℕ → Graph → (List ℕ → List ℕ → List ℕ × List ℕ) → List ℕ → List ℕ → ℕ → ℕ → List ℕ × List ℕ
push room steps g on seen entries l r =
    let marked = seen ++ l ∷ r ∷ [] in
    cond (ltb (length entries) room) (on marked (l ∷ r ∷ entries)) (check_and_push steps g on marked entries l r)

-- A turn, by the unmarked links of the cell in hand: "both marked or nil, pop the next in hand"; "one unmarked, mark it and go there"; or a push.
abbrev pub turn_by : ℕ → ℕ → Graph → (List ℕ → List ℕ → List ℕ × List ℕ) → List ℕ → List ℕ → List ℕ → List ℕ × List ℕ
turn_by room steps g on seen entries links =
    by_links links (on seen entries) (λ x. on (seen ++ x ∷ []) (x ∷ entries)) (push room steps g on seen entries)

-- The marker with `room` words of stack, between two turns: of the pending cells the first is in hand, and the others are the entries, the top one first. The
-- second argument bounds the walks, and the third how often a cell is taken in hand.
unfoldable pub limited : ℕ → ℕ → ℕ → Graph → List ℕ → List ℕ → List ℕ × List ℕ
limited room steps zero g seen pending = (seen, [])
limited room steps (suc turns) g seen [] = (seen, [])
limited room steps (suc turns) g seen (p ∷ entries) = turn_by room steps g (limited room steps turns g) seen entries (onward g seen p)

-- ""enough" now means that no check found all entries needed": each dropped one at least.
abbrev pub is_enough : List ℕ × List ℕ → Bool
is_enough end = not (elem 0 end.1)

-- "A check is one such pass, even over no entries; the answer adds how many ran, a last vain one too."
abbrev pub check_count : List ℕ × List ℕ → ℕ
check_count end = length end.1

-- "per register in order" (01), as long as the stack is enough
unfoldable pub limited_runs : ℕ → ℕ → Graph → List ℕ → List ℕ → List ℕ × List ℕ
limited_runs room turns g seen [] = (seen, [])
limited_runs room turns g seen (p ∷ ps) =
    let first = limited room turns turns g (seen ++ taken seen p) (taken seen p) in
    cond (is_enough first) (behind first.1 (limited_runs room turns g first.0 ps)) first

-- The marker with `room` words of stack on a graph of n cells.
abbrev pub limited_run : ℕ → ℕ → Graph → List ℕ → List ℕ × List ℕ
limited_run room n g roots = limited_runs room n g [] roots
