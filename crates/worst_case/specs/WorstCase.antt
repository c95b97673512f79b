-- The pool that fills the stack of the stack marker (02, S-3, "The plan that fills the stack"): what is built, and what is answered.
use Rattle.std.specs.Prelude.{ℕ, zero, suc, ◌-◌, ◌/◌, List, [], ◌∷◌, cond, length, ltb}
use Rattle.pool.specs.Layout.{register_count, cell_count_of_length, set_register, put_cell}
use Rattle.pool.specs.States.{pair_state}
use Rattle.pool.specs.Retain.{blank_words}
use Rattle.answers.specs.Outcome.{Outcome, answered, refused}
use Rattle.stack_algorithm.specs.Comb.{comb_link}

-- The words with cell i of a left comb of n cells: it is used, with its two links, and "Values .. are 0".
abbrev pub put_comb_cell : ℕ → ℕ → List ℕ → ℕ → List ℕ
put_comb_cell R n w i = put_cell R w i pair_state (comb_link n i 2) (comb_link n i 1) 0

-- The words with its cells k to 1.
unfoldable pub put_comb : ℕ → ℕ → ℕ → List ℕ → List ℕ
put_comb R n zero w = w
put_comb R n (suc k) w = put_comb R n k (put_comb_cell R n w (suc k))

-- "a pool of N used cells, all reached from register 0", which leads to cell 1. "Values and the head are 0, registers 1 to 15 nil". Words behind the cells
-- stay as they were lent.
abbrev pub worst_case_words : ℕ → ℕ → List ℕ → List ℕ
worst_case_words R n w = put_comb R n n (set_register (blank_words R n w) 0 1)

-- "Only the length is judged, as for fresh"; refused, nothing changes. "That number is (N − 1) / 2 rounded down, and it is answered."
abbrev pub worst_case_of : List ℕ → Outcome × List ℕ
worst_case_of w =
    let n = cell_count_of_length register_count (length w) in
    cond (ltb 0 n) (answered ((n - 1) / 2 ∷ []), worst_case_words register_count n w) (refused 1, w)
