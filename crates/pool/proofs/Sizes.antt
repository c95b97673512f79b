-- The lengths of pools, and the first question.
use Prim.Native.Nat.{ℕ, ◌+◌, ◌-◌, ◌/◌, ◌<◌, ◌≤◌}
use mathlib.Core.Path.{◌≡◌, refl, sym, ◌∙◌}
use mathlib.Core.List.{List}
use mathlib.Core.Bool.{Bool, true, false, false≢true, cond, ◌&&◌}
use native.Mathlib.Omega.{arith}
use native.Mathlib.Decide.{dec_le}
use lib.ListN.{length, length-drop}
use lib.Dec.{eqb}
use borrow.Author.Tests.{le-leb, lt-leb, eq-eqb, ne_eqb, eqb-true}
use Rattle.pool.specs.Layout.{first_cell, cell_limit, pool_length, leftover_limit, cell_count_of_length, leftover_of_length, cell_count, count}
use Rattle.pool.specs.Lengths.{LengthOf, LengthsOfPools, LeftoverCount}

-- both parts of a test that holds
pub both : (a b : Bool) → (a && b) ≡ true → (a ≡ true) × (b ≡ true)
both true b h = (refl, h)
both false b h = absurd (false≢true h)

-- two parts of a test hold, and the third decides
pub third_decides : (a b c : Bool) → a ≡ true → b ≡ true → c ≡ (a && b && c)
third_decides a b c ha hb = rw (ha, hb)

-- the number of cells of a length that fits, and of one that is too short or too long
module _ (R len : ℕ) where
  pub fitting : pool_length R 1 ≤ len → len ≤ pool_length R cell_limit + leftover_limit → (len - first_cell R) / 4 ≡ cell_count_of_length R len
  unfolding cell_count_of_length
  fitting low high = simp (le-leb (pool_length R 1) len low, le-leb len (pool_length R cell_limit + leftover_limit) high)

  pub too_short : len < pool_length R 1 → 0 ≡ cell_count_of_length R len
  unfolding cell_count_of_length
  too_short short = simp (lt-leb (pool_length R 1) len short)

  pub too_long : pool_length R cell_limit + leftover_limit < len → 0 ≡ cell_count_of_length R len
  unfolding cell_count_of_length
  too_long long = simp (le-leb (pool_length R 1) len (omega arith), lt-leb len (pool_length R cell_limit + leftover_limit) long)

-- a length that has a number of cells is that of so many cells, with the words behind them
pub length_of : (R len : ℕ) → 0 < cell_count_of_length R len → LengthOf R (cell_count_of_length R len) (leftover_of_length R len) len
length_of R len some = go (dec_le (pool_length R 1) len) (dec_le len (pool_length R cell_limit + leftover_limit))
  where
    go : Dec (pool_length R 1 ≤ len) → Dec (len ≤ pool_length R cell_limit + leftover_limit) → LengthOf R (cell_count_of_length R len) (leftover_of_length R len) len
    go (yes low) (yes high) =
        let counted = fitting R len low high in
        record { least = some; most = omega (arith, counted); few = omega arith; sum = omega (arith, counted) }
    go (yes low) (no long) = absurd (omega (arith, some, too_long R len (omega arith)))
    go (no short) high = absurd (omega (arith, some, too_short R len (omega arith)))

-- and the other way round
pub of_length : {R n e len : ℕ} → LengthOf R n e len → cell_count_of_length R len ≡ n
of_length {R} {n} {e} {len} h =
    sym (fitting R len (omega (arith, h.least, h.sum)) (omega (arith, h.most, h.few, h.sum))) ∙ omega (arith, h.few, h.sum)

pub lengths_of_pools : LengthsOfPools
lengths_of_pools R n e len = (
  λ h. (h.least, of_length h, omega (arith, h.few, h.sum)),
  λ told. let found = length_of R len (omega (arith, told.0, told.1)) in rw (told.1, told.2) at found,
)

pub leftover_count : LeftoverCount
leftover_count R n e w h = simp (length-drop, of_length h) (omega (arith, h.sum))

-- what is asked of a length elsewhere: it is that of a pool of n cells, which is within the limits, and there is room for them
pub record Sized (R len n : ℕ) : Type 0 where
  pub counted : cell_count_of_length R len ≡ n
  pub room : pool_length R n ≤ len
  pub least : 1 ≤ n
  pub most : n ≤ cell_limit

pub sized : {R n e len : ℕ} → LengthOf R n e len → Sized R len n
sized h = record { counted = of_length h; room = omega (arith, h.sum); least = h.least; most = h.most }

pub length_sized : (R len : ℕ) → 0 < cell_count_of_length R len → Sized R len (cell_count_of_length R len)
length_sized R len some = sized (length_of R len some)

-- the same of the number that the code has counted
pub counted_sized : (R len : ℕ) {n : ℕ} → n ≡ cell_count_of_length R len → (n ≡ 0 → ⊥) → Sized R len n
counted_sized R len cells some = rw cells (length_sized R len (omega (arith, some)))

-- the number of cells of words by their length and word 0
module _ (R : ℕ) (w : List ℕ) where
  pub no_cells : cell_count_of_length R (length w) ≡ 0 → cell_count R w ≡ 0
  unfolding cell_count
  no_cells none = go (eqb (count w) (cell_count_of_length R (length w)))
    where
      go : (t : Bool) → cond t (cell_count_of_length R (length w)) 0 ≡ 0
      go true = none
      go false = refl

  pub same_count : count w ≡ cell_count_of_length R (length w) → cell_count R w ≡ cell_count_of_length R (length w)
  unfolding cell_count
  same_count e = simp (eq-eqb _ _ e)

  pub other_count : (count w ≡ cell_count_of_length R (length w) → ⊥) → cell_count R w ≡ 0
  unfolding cell_count
  other_count h = simp (ne_eqb _ _ h)

  -- words that are a pool: its length and word 0 are those of its cells
  pub cells_sized : 0 < cell_count R w → Sized R (length w) (cell_count R w) × (count w ≡ cell_count R w)
  unfolding cell_count
  cells_sized = go (eqb (count w) (cell_count_of_length R (length w))) refl
    where
      go : (t : Bool) → eqb (count w) (cell_count_of_length R (length w)) ≡ t → 0 < cond t (cell_count_of_length R (length w)) 0
          → Sized R (length w) (cond t (cell_count_of_length R (length w)) 0) × (count w ≡ cond t (cell_count_of_length R (length w)) 0)
      go true e h = (length_sized R (length w) h, eqb-true _ _ e)
      go false e h = absurd (omega arith)

-- words of the same length with the same word 0 are pools of as many cells
pub cells_same : (R : ℕ) (w w' : List ℕ) → length w ≡ length w' → count w ≡ count w' → cell_count R w ≡ cell_count R w'
unfolding cell_count
cells_same R w w' len first = rw (len, first)
