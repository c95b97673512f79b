-- The steps of save: the number of a link in the scratch, the parts of an image's bytes, and bytes that are written.
use Rattle.std.specs.Prelude.{ℕ, ◌+◌, ◌-◌, ◌≡◌, Bool, cond, length, get_or, take, drop, eqb}
use mathlib.Core.List.{List, ◌++◌, map, flat_map}
use Rattle.leb128.specs.Leb128.{encode}
use Rattle.pool.specs.Layout.{roots_of}
use Rattle.reversal.specs.Reached.{reached_cells}
use Rattle.image.specs.Image.{number_in, saved_cell, cell_bytes}

-- The number of the link x, nil's or that of a cell.
abbrev pub number_at : List ℕ → ℕ → ℕ
number_at s x = cond (eqb x 0) 0 (get_or s (x - 1) 0)

-- What an image holds for a left or right word: the number of a pair's link, a point's word as it is.
abbrev pub word_at : Bool → List ℕ → ℕ → ℕ
word_at point s x = cond point x (number_at s x)

-- The bytes of the registers from register j on.
abbrev pub register_bytes : ℕ → ℕ → List ℕ → ℕ → List ℕ
register_bytes R n w j = flat_map encode (map (number_in (reached_cells R n w)) (drop j (roots_of R w)))

-- The bytes of the reached cells from place p of the order on.
abbrev pub order_bytes : ℕ → ℕ → List ℕ → ℕ → List ℕ
order_bytes R n w p = flat_map cell_bytes (map (saved_cell R w (reached_cells R n w)) (drop p (reached_cells R n w)))

-- From the output out to after, these bytes were written at a place, and `next` is the place behind them.
abbrev pub PutBytes : (bytes out : List ℕ) (at next : ℕ) (after : List ℕ) → Type 0
PutBytes bytes out at next after = (next ≡ at + length bytes) × (after ≡ take at out ++ bytes ++ drop (at + length bytes) out)
