-- The lengths of pools (02, S-6, "Leftover words").
use Rattle.std.specs.Prelude.{ℕ, ◌+◌, ◌<◌, ◌≤◌, ◌≡◌, ◌↔◌, List, length}
use Rattle.pool.specs.Layout.{cell_limit, pool_length, leftover_limit, cell_count_of_length, leftover_of_length, leftover_words}

-- "The length may now be 18 + 4 × N + e, with e from 0 to 3", and "N from 1 to 4,000": len words are those of a pool of n cells and e words behind them.
pub record LengthOf (R n e len : ℕ) : Type 0 where
  pub least : 1 ≤ n
  pub most : n ≤ cell_limit
  pub few : e ≤ leftover_limit
  pub sum : len ≡ pool_length R n + e

-- N and e are told by the length alone: a length is that of n cells and e words behind them exactly when these are the numbers counted from it.
abbrev pub LengthsOfPools : Type 0
LengthsOfPools = (R n e len : ℕ) → LengthOf R n e len ↔ ((0 < n) × (cell_count_of_length R len ≡ n) × (leftover_of_length R len ≡ e))

-- And the words behind the cells are e.
abbrev pub LeftoverCount : Type 0
LeftoverCount = (R n e : ℕ) (w : List ℕ) → LengthOf R n e (length w) → length (leftover_words R w) ≡ e
