-- Fresh, and the free list of any pool that keeps some cells.
use Rattle.std.specs.Prelude.{ℕ, suc, ◌≤◌, ◌≡◌, List, [], ◌∷◌, Bool, cond, length, ltb}
use Rattle.answers.specs.Outcome.{Outcome, answered, refused}
use Rattle.pool.specs.Words.{tabulate}
use Rattle.pool.specs.Layout.{register_count, pool_length, cell_count_of_length, leftover_of_length}
use Rattle.pool.specs.Retain.{retain, fresh_words, free_list, free_cells}

-- Fresh: "N from the length alone", refusal 1 where there is none; refused, nothing changes. "Fresh answers N and e" (02, S-6).
abbrev pub fresh_of : List ℕ → Outcome × List ℕ
fresh_of w =
    let n = cell_count_of_length register_count (length w) in
    cond (ltb 0 n) (answered (n ∷ leftover_of_length register_count (length w) ∷ []), fresh_words register_count n w) (refused 1, w)

-- The free list of fresh words has every cell once, ascending: 1, 2, .., n.
abbrev pub FreshIsFree : Type 0
FreshIsFree = (n : ℕ) (w : List ℕ) → 1 ≤ n → pool_length register_count n ≤ length w → free_list register_count n (fresh_words register_count n w) ≡ tabulate n suc

-- Of every retained pool: the free list has exactly the cells that are not kept, each once, ascending.
abbrev pub RetainedFreeList : Type 0
RetainedFreeList = (R n : ℕ) (keep : ℕ → Bool) (w : List ℕ) → 1 ≤ n → pool_length R n ≤ length w
    → free_list R n (retain R n keep w) ≡ free_cells keep n 1
