-- What the test of all cells asks of each.
use Rattle.std.specs.Prelude.{ℕ, List, Bool, ◌&&◌, ◌||◌, not, eqb, leb}
use Rattle.pool.specs.Layout.{state, link_of}
use Rattle.pool.specs.States.{is_used, is_free}

-- A link is plausible if it is nil or the number of a cell that is not free. It is valid where every state is used or free.
abbrev pub plausible_link : ℕ → ℕ → List ℕ → ℕ → Bool
plausible_link R n w x = eqb x 0 || (leb x n && not (is_free (state R w x)))

-- A cell is plausible if it is free, or used with plausible links. All cells are plausible exactly if all are valid.
abbrev pub plausible_cell : ℕ → ℕ → List ℕ → ℕ → Bool
plausible_cell R n w i =
    is_free (state R w i) || (is_used (state R w i) && plausible_link R n w (link_of R w i 1) && plausible_link R n w (link_of R w i 2))
