-- What `free_above` asks of the cells that it leaves as they are.
use Rattle.std.specs.Prelude.{ℕ, ◌<◌, ◌≤◌, ◌≡◌, List, true}
use Rattle.pool.specs.Layout.{state}
use Rattle.pool.specs.States.{is_used}

-- The first k cells are used.
abbrev pub FirstUsed : ℕ → ℕ → List ℕ → Type 0
FirstUsed R k w = (i : ℕ) → 0 < i → i ≤ k → is_used (state R w i) ≡ true
