-- What the marker with a lent stack and the check of its entries may rely on, and how their results stand in the words.
use Rattle.std.specs.Prelude.{ℕ, zero, suc, ◌<◌, ◌≡◌, List, [], ◌∷◌, ◌++◌, true, cond, not, length, get_or, eqb}
use Rattle.pool.specs.Layout.{state, link_of, graph_of, roots_of}
use Rattle.pool.specs.States.{is_used, is_marked}
use Rattle.questions.specs.Validity.{well_formed}
use Rattle.visit.specs.Visit.{unmarked}
use Rattle.reversal.specs.ReversalTheorem.{mark_all}
use Rattle.stack_algorithm.specs.Stack.{unmarked_links}
use Rattle.stack_algorithm.specs.Steps.{Going}
use Rattle.stack_algorithm.specs.Check.{walk, check}
use Rattle.stack_check.specs.declared.Onward.{Onward}
use Rattle.stack_check.specs.declared.Onward.TheVariants as onward

-- A link is nil, or leads to a cell that is used or marked, and not both.
abbrev pub UsedOrMarked : ℕ → List ℕ → ℕ → Type 0
UsedOrMarked R w x = 0 < x → is_used (state R w x) ≡ not (is_marked (state R w x))

-- The links that the marker goes on to: the first it goes to, the second it pushes.
abbrev pub links_of : Onward → List ℕ
links_of onward.Nowhere = []
links_of (onward.To x) = x ∷ []
links_of (onward.Both l r) = l ∷ r ∷ []

-- The same, read from the words: a cell's unmarked links.
abbrev pub onward_in : ℕ → List ℕ → ℕ → List ℕ
onward_in R w p =
    unmarked_links (unmarked R w (link_of R w p 1)) (unmarked R w (link_of R w p 2)) (link_of R w p 1) (link_of R w p 2)

-- The entries below `top` of the lent words, the top one first.
unfoldable pub entries : List ℕ → ℕ → List ℕ
entries stack zero = []
entries stack (suc top) = get_or stack top 0 ∷ entries stack top

-- What stands in the place of an entry after its walk: a cell, or 0 for none.
abbrev pub entry_of : ℕ → List ℕ
entry_of x = cond (eqb x 0) [] (x ∷ [])

-- The entries without the gaps, in their order.
unfoldable pub without_nil : List ℕ → List ℕ
without_nil [] = []
without_nil (x ∷ xs) = entry_of x ++ without_nil xs

-- The words w are those of a well-formed pool of n cells in which some cells are marked, of which these are pending.
pub record Pending (R n : ℕ) (w pending : List ℕ) : Type 0 where
  pub pool : List ℕ
  pub seen : List ℕ
  pub well : well_formed R n pool ≡ true
  pub words : w ≡ mark_all R pool seen
  pub going : Going (graph_of R pool) (roots_of R pool) seen pending

-- What the walk from an entry may rely on: it is pending, as other cells may be.
abbrev pub Walkable : ℕ → ℕ → List ℕ → ℕ → Type 0
Walkable R n w p = (others : List ℕ) × Pending R n w (p ∷ others)

-- What a check may rely on: all lent words are entries, and pending, as other cells may be.
abbrev pub Checkable : ℕ → ℕ → List ℕ → List ℕ → Type 0
Checkable R n w stack = (others : List ℕ) × Pending R n w (others ++ entries stack (length stack))

-- The result of a walk or a check: the pool's words with the cells marked then, and what is left of the entry or the entries.
abbrev pub in_words : ℕ → List ℕ → List ℕ × List ℕ → List ℕ × List ℕ
in_words R pool left = (mark_all R pool left.0, left.1)

abbrev pub walk_in : (R n : ℕ) (w : List ℕ) (p : ℕ) → Walkable R n w p → List ℕ × List ℕ
walk_in R n w p h = in_words R h.1.pool (walk n (graph_of R h.1.pool) h.1.seen p)

abbrev pub check_in : (R n : ℕ) (w stack : List ℕ) → Checkable R n w stack → List ℕ × List ℕ
check_in R n w stack h = in_words R h.1.pool (check n (graph_of R h.1.pool) h.1.seen (entries stack (length stack)))
