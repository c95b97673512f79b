-- Valid links and well-formed pools (01, "The pool's words": "sound" and "whole").
use Rattle.std.specs.Prelude.{ℕ, suc, List, Bool, ◌&&◌, ◌||◌, eqb, leb}
use Rattle.pool.specs.Words.{every}
use Rattle.pool.specs.Layout.{register, state, link_of}
use Rattle.pool.specs.States.{is_used, is_free}

-- "A link is sound if it is 0 or the number of a used cell."
abbrev pub valid_link : ℕ → ℕ → List ℕ → ℕ → Bool
valid_link R n w x = eqb x 0 || (leb x n && is_used (state R w x))

-- Of one cell: "every state is 0 or 4 and .. all links of used cells are sound", and "a whole pool may hold state 5" (02, S-8), the point's, of which
-- nothing else is asked: it has no links.
abbrev pub valid_cell : ℕ → ℕ → List ℕ → ℕ → Bool
valid_cell R n w i =
    is_free (state R w i) || (is_used (state R w i) && valid_link R n w (link_of R w i 1) && valid_link R n w (link_of R w i 2))

-- "all registers .. are sound"
abbrev pub registers_valid : ℕ → ℕ → List ℕ → Bool
registers_valid R n w = every R (λ k. valid_link R n w (register w k))

-- Every cell is free, or used with sound links.
abbrev pub cells_valid : ℕ → ℕ → List ℕ → Bool
cells_valid R n w = every n (λ k. valid_cell R n w (suc k))

-- "A pool is whole if every state is 0 or 4 and all registers and all links of used cells are sound", and state 5 with 02, S-8.
abbrev pub well_formed : ℕ → ℕ → List ℕ → Bool
well_formed R n w = registers_valid R n w && cells_valid R n w
