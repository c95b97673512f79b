-- The pool that keeps some cells and frees all others (01: "the ascending chain"). Fresh keeps none, a collection keeps what is reached, and
-- a loaded image keeps its own cells.
use Rattle.std.specs.Prelude.{ℕ, zero, suc, ◌+◌, ◌-◌, ◌/◌, ◌%◌, List, [], ◌∷◌, ◌++◌, Bool, true, false, cond, ◌||◌, length, get_or, drop, replicate, eqb, leb, ltb}
use Rattle.pool.specs.Words.{tabulate}
use Rattle.pool.specs.Layout.{first_cell, pool_length, set_count, cell, state, left, head}
use Rattle.pool.specs.States.{free_state, is_marked, as_used}

-- The lowest of the k cells from i on that is not kept, 0 where all of them are kept.
unfoldable pub lowest_free : (ℕ → Bool) → ℕ → ℕ → ℕ
lowest_free keep zero i = 0
lowest_free keep (suc k) i = elim (keep i) [ true ↦ lowest_free keep k (suc i) | false ↦ i ]

-- "the next higher free cell (0 at the end)" after cell i; after 0, "the lowest free cell".
abbrev pub free_above : (ℕ → Bool) → ℕ → ℕ → ℕ
free_above keep n i = lowest_free keep (n - i) (suc i)

-- A kept cell is used, its links and its value as they were.
abbrev pub kept_field : ℕ → List ℕ → ℕ → ℕ → ℕ
kept_field R w i zero = as_used (state R w i)
kept_field R w i (suc f) = cell R w i (suc f)

-- "A free cell's left is the next higher free cell (0 at the end), its right and value are 0".
abbrev pub free_field : (ℕ → Bool) → ℕ → ℕ → ℕ → ℕ
free_field keep n i zero = free_state
free_field keep n i (suc zero) = free_above keep n i
free_field keep n i (suc (suc f)) = 0

-- Field f of cell i: that of a kept cell or of a free one.
abbrev pub retained_field : ℕ → ℕ → (ℕ → Bool) → List ℕ → ℕ → ℕ → ℕ
retained_field R n keep w i f = cond (keep i) (kept_field R w i f) (free_field keep n i f)

-- The word at place k: the head, then what stays (word 0, the registers, and whatever stands behind the cells), then the fields of the cells.
abbrev pub retained_word : ℕ → ℕ → (ℕ → Bool) → List ℕ → ℕ → ℕ
retained_word R n keep w k =
    cond (eqb k 1) (free_above keep n 0)
    (cond (ltb k (first_cell R) || leb (pool_length R n) k) (get_or w k 0)
    (retained_field R n keep w (suc ((k - first_cell R) / 4)) ((k - first_cell R) % 4)))

-- The words of a pool of n cells after every cell that `keep` names is kept and every other one is on the ascending chain.
unfoldable pub retain : ℕ → ℕ → (ℕ → Bool) → List ℕ → List ℕ
retain R n keep w = tabulate (length w) (retained_word R n keep w)

-- How many of the cells 1 to n are kept.
unfoldable pub kept_count : (ℕ → Bool) → ℕ → ℕ
kept_count keep zero = 0
kept_count keep (suc n) = cond (keep (suc n)) 1 0 + kept_count keep n

-- The lent words w with n in word 0 and 0 in every other word of a pool of n cells.
abbrev pub blank_words : ℕ → ℕ → List ℕ → List ℕ
blank_words R n w = set_count (replicate (pool_length R n) 0 ++ drop (pool_length R n) w) n

-- "All registers become nil, cells 1 to N free." Words behind the cells stay as they were lent.
abbrev pub fresh_words : ℕ → ℕ → List ℕ → List ℕ
fresh_words R n w = retain R n (λ i. false) (blank_words R n w)

-- The free list: the cells met from a link on by following left links, at most k of them.
unfoldable pub chain_from : ℕ → ℕ → List ℕ → ℕ → List ℕ
chain_from R zero w i = []
chain_from R (suc k) w i = elim (eqb i 0) [ true ↦ [] | false ↦ i ∷ chain_from R k w (left R w i) ]

-- The free list of a pool of n cells.
abbrev pub free_list : ℕ → ℕ → List ℕ → List ℕ
free_list R n w = chain_from R n w (head w)

-- Has a marker marked cell i?
abbrev pub marked_cell : ℕ → List ℕ → ℕ → Bool
marked_cell R w i = is_marked (state R w i)

-- What the sweep of a pool of n cells answers and leaves: the number of marked cells, and the pool that keeps just these. "The sweep sets state 3 to 0,
-- frees every other cell and rebuilds the ascending chain."
abbrev pub sweep_of : ℕ → ℕ → List ℕ → ℕ × List ℕ
sweep_of R n w = (kept_count (marked_cell R w) n, retain R n (marked_cell R w) w)

-- The cells among the k from i on that are not kept, in ascending order.
unfoldable pub free_cells : (ℕ → Bool) → ℕ → ℕ → List ℕ
free_cells keep zero i = []
free_cells keep (suc k) i = elim (keep i) [ true ↦ free_cells keep k (suc i) | false ↦ i ∷ free_cells keep k (suc i) ]
