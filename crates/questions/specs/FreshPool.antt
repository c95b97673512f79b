-- What a fresh pool is: a statement, proved in proofs/FreshPool.antt.
use Rattle.std.specs.Prelude.{ℕ, ◌≡◌, List, true, length}
use Rattle.pool.specs.Layout.{register_count, cell_count}
use Rattle.pool.specs.Lengths.{LengthOf}
use Rattle.pool.specs.Retain.{fresh_words}
use Rattle.questions.specs.Validity.{well_formed}

-- What fresh leaves in words of the length of n cells, and e words behind them, is a pool of n cells, and well-formed (01: whole).
abbrev pub FreshIsWellFormed : Type 0
FreshIsWellFormed = (n e : ℕ) (w : List ℕ) → LengthOf register_count n e (length w)
    → (cell_count register_count (fresh_words register_count n w) ≡ n) × (well_formed register_count n (fresh_words register_count n w) ≡ true)
