-- The numbering of the reached cells in lent scratch: the first n words hold each cell's number, the next n the cell of each number.
use Rattle.std.specs.Prelude.{ℕ, ◌+◌, ◌-◌, ◌*◌, ◌<◌, ◌≤◌, ◌≡◌, List, Bool, true, not, ◌&&◌, length, get_or, replicate, eqb}
use Rattle.std.specs.Coded.{le_prop, Coded-set, coded_bool, coded_ℕ}
use Rattle.pool.specs.Layout.{cell_limit, pool_length}
use Rattle.questions.specs.Validity.{well_formed}
use Rattle.reversal.specs.Reached.{reached_cells, reached_count}
use Rattle.image.specs.Image.{number_in}

-- A well-formed pool of n cells, with scratch of s words.
pub record Savable (R n : ℕ) (w : List ℕ) (s : ℕ) : Type 0 where
  pub most : n ≤ cell_limit
  pub room : pool_length R n ≤ length w
  pub scratch : 2 * n ≤ s
  pub is_well_formed : well_formed R n w ≡ true

-- Is the link x a cell that has no number yet?
abbrev pub is_new : List ℕ → ℕ → Bool
is_new s x = not (eqb x 0) && eqb (get_or s (x - 1) 0) 0

-- No word is set.
abbrev pub Clear : List ℕ → Type 0
Clear s = s ≡ replicate (length s) 0

-- The scratch holds the number of each cell, 0 where a cell is not reached.
abbrev pub Numbered : ℕ → ℕ → List ℕ → List ℕ → Type 0
Numbered R n w s = (x : ℕ) → 0 < x → x ≤ n → get_or s (x - 1) 0 ≡ number_in (reached_cells R n w) x

-- No word of the first n is above n.
abbrev pub NumbersWithin : ℕ → List ℕ → Type 0
NumbersWithin n s = (x : ℕ) → x < n → get_or s x 0 ≤ n

-- From the scratch s to t, the cell of each number is put behind the numbers: of a number that only one cell has.
pub record Listed (n : ℕ) (s t : List ℕ) : Type 0 where
  pub numbers : (x : ℕ) → x < n → get_or t x 0 ≡ get_or s x 0
  pub cells : (x : ℕ) → x < n → 0 < get_or s x 0 → ((y : ℕ) → y < n → get_or s y 0 ≡ get_or s x 0 → y ≡ x)
      → get_or t (n + (get_or s x 0 - 1)) 0 ≡ x + 1

-- The scratch holds the number of each cell and, behind them, the order.
pub record Ordered (R n : ℕ) (w s : List ℕ) : Type 0 where
  pub numbers : Numbered R n w s
  pub cells : (p : ℕ) → p < reached_count R n w → get_or s (n + p) 0 ≡ get_or (reached_cells R n w) p 0

-- Of either of these any two proofs are equal, as it has to be of what a struct always holds.
pub Savable-prop : {R n : ℕ} {w : List ℕ} {s : ℕ} → IsProp (Savable R n w s)
Savable-prop a b =
    λ j.
    record {
      most = le_prop a.most b.most j;
      room = le_prop a.room b.room j;
      scratch = le_prop a.scratch b.scratch j;
      is_well_formed = Coded-set coded_bool _ _ a.is_well_formed b.is_well_formed j;
    }

pub Ordered-prop : {R n : ℕ} {w s : List ℕ} → IsProp (Ordered R n w s)
Ordered-prop a b =
    λ j.
    record {
      numbers = λ x low high. Coded-set coded_ℕ _ _ (a.numbers x low high) (b.numbers x low high) j;
      cells = λ p below. Coded-set coded_ℕ _ _ (a.cells p below) (b.cells p below) j;
    }
