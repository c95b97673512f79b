-- The states of a cell: which tests exclude each other, and what marking and the sweep make of them.
use Prim.Native.Nat.{ℕ, ◌<◌}
use native.Mathlib.Omega.{arith}
use mathlib.Core.Path.{◌≡◌, refl, sym, ap, ◌∙◌}
use mathlib.Core.Logic.{◌⊎◌, inl, inr}
use mathlib.Core.Bool.{Bool, true, false, cond, ◌||◌, not, true≢false}
use lib.Dec.{eqb}
use lib.Bits.{bit_and, bit_xor}
use borrow.Author.Tests.{eqb-true, eq-eqb, ne_eqb}
use Rattle.pool.specs.States.{pair_state, marked_pair_state, free_state, point_state, marked_point_state, is_point, is_used, is_marked, is_free, as_marked, as_used}

-- the test whether a number is one of two
module _ (s a b : ℕ) where
  pub first_of : s ≡ a → true ≡ (eqb s a || eqb s b)
  first_of e = simp (eq-eqb s a e)

  one_of : (eqb s a || eqb s b) ≡ true → (s ≡ a) ⊎ (s ≡ b)
  one_of e = go (eqb s a) refl e
    where
      go : (t : Bool) → eqb s a ≡ t → (t || eqb s b) ≡ true → (s ≡ a) ⊎ (s ≡ b)
      go true e h = inl (eqb-true s a e)
      go false e h = inr (eqb-true s b h)

  none_of : (s ≡ a → ⊥) → (s ≡ b → ⊥) → (eqb s a || eqb s b) ≡ false
  none_of other other' = simp (ne_eqb s a other, ne_eqb s b other')

pub marked-pair : is_marked marked_pair_state ≡ true
unfolding is_marked
marked-pair = refl

pub pair-marked : as_marked pair_state ≡ marked_pair_state
unfolding as_marked is_point
pair-marked = refl

module _ (s : ℕ) where
  -- a used state is that of a pair or of a point
  pub used_is : is_used s ≡ true → (s ≡ pair_state) ⊎ (s ≡ point_state)
  unfolding is_used
  used_is e = one_of s pair_state point_state e

  pub neither_point : (s ≡ point_state → ⊥) → (s ≡ marked_point_state → ⊥) → is_point s ≡ false
  unfolding is_point
  neither_point point marked = none_of s point_state marked_point_state point marked

  pub neither_used : (s ≡ pair_state → ⊥) → (s ≡ point_state → ⊥) → is_used s ≡ false
  unfolding is_used
  neither_used pair point = none_of s pair_state point_state pair point

  -- and that of a pair, where it is no point
  pub used_pair : is_used s ≡ true → is_point s ≡ false → s ≡ pair_state
  unfolding is_point
  used_pair e pair = go (used_is e)
    where
      go : (s ≡ pair_state) ⊎ (s ≡ point_state) → s ≡ pair_state
      go (inl h) = h
      go (inr h) = absurd (true≢false (first_of s point_state marked_point_state h ∙ pair))

  pub used-point : is_used s ≡ true → is_point s ≡ true → s ≡ point_state
  unfolding is_point
  used-point e point = go (used_is e) (one_of s point_state marked_point_state point)
    where
      go : (s ≡ pair_state) ⊎ (s ≡ point_state) → (s ≡ point_state) ⊎ (s ≡ marked_point_state) → s ≡ point_state
      go (inl h) (inl k) = k
      go (inl h) (inr k) = absurd (omega arith)
      go (inr h) k = h

  -- the state of a pair is that of a used cell, and of no point
  pub pair_is : s ≡ pair_state → (is_used s ≡ true) × (is_point s ≡ false)
  unfolding is_used is_point
  pair_is e = (rw e refl, rw e refl)

  -- the state of a point is that of a used cell
  pub point_is : s ≡ point_state → (is_used s ≡ true) × (is_point s ≡ true)
  unfolding is_used is_point
  point_is e = (rw e refl, rw e refl)

  -- the states of a marked pair and of a marked point, and what the sweep makes of them
  pub marked-pair_is : s ≡ marked_pair_state → (is_marked s ≡ true) × (is_point s ≡ false) × (as_used s ≡ pair_state)
  unfolding is_marked is_point as_used
  marked-pair_is e = (rw e refl, rw e refl, rw e refl)

  pub marked-point_is : s ≡ marked_point_state → (is_marked s ≡ true) × (is_point s ≡ true) × (as_used s ≡ point_state)
  unfolding is_marked is_point as_used
  marked-point_is e = (rw e refl, rw e refl, rw e refl)

  -- a marked state is that of a pair, where it is not that of a marked point
  pub marked-pair_other : is_marked s ≡ true → (s ≡ marked_point_state → ⊥) → is_point s ≡ false
  unfolding is_marked
  marked-pair_other e other = go (one_of s marked_pair_state marked_point_state e)
    where
      go : (s ≡ marked_pair_state) ⊎ (s ≡ marked_point_state) → is_point s ≡ false
      go (inl h) = (marked-pair_is h).1
      go (inr h) = absurd (other h)

  pub other_unmarked : (s ≡ marked_pair_state → ⊥) → (s ≡ marked_point_state → ⊥) → is_marked s ≡ false
  unfolding is_marked
  other_unmarked other other' = none_of s marked_pair_state marked_point_state other other'

  -- the marks of a pair, 1 to 3, are those of no point, and 3 alone is that of a marked one
  pub low_pair : s < point_state → is_point s ≡ false
  unfolding is_point
  low_pair h = none_of s point_state marked_point_state (omega arith) (omega arith)

  pub low_unmarked : s < marked_pair_state → is_marked s ≡ false
  unfolding is_marked
  low_unmarked h = none_of s marked_pair_state marked_point_state (omega arith) (omega arith)

  pub visited_not_used : 0 < s → s < point_state → is_used s ≡ false
  unfolding is_used
  visited_not_used some h = none_of s pair_state point_state (omega arith) (omega arith)

  pub unmarked_other : is_marked s ≡ false → (s ≡ marked_pair_state → ⊥) × (s ≡ marked_point_state → ⊥)
  unfolding is_marked
  unmarked_other e = (λ h. true≢false (first_of s marked_pair_state marked_point_state h ∙ e), λ h. let six : is_marked s ≡ true = rw h refl in true≢false (sym six ∙ e))

  pub used_not_free : is_used s ≡ true → is_free s ≡ false
  used_not_free e = go (used_is e)
    where
      go : (s ≡ pair_state) ⊎ (s ≡ point_state) → is_free s ≡ false
      go (inl h) = rw h refl
      go (inr h) = rw h refl

  pub used_not_marked : is_used s ≡ true → is_marked s ≡ false
  unfolding is_marked
  used_not_marked e = go (used_is e)
    where
      go : (s ≡ pair_state) ⊎ (s ≡ point_state) → (eqb s marked_pair_state || eqb s marked_point_state) ≡ false
      go (inl h) = rw h refl
      go (inr h) = rw h refl

  pub free_not_used : is_free s ≡ true → is_used s ≡ false
  unfolding is_used
  free_not_used e = let h : s ≡ free_state = eqb-true s free_state e in none_of s pair_state point_state (omega arith) (omega arith)

  pub free_not_marked : is_free s ≡ true → is_marked s ≡ false
  unfolding is_marked
  free_not_marked e = let h : s ≡ free_state = eqb-true s free_state e in none_of s marked_pair_state marked_point_state (omega arith) (omega arith)

  pub marked_not_used : is_marked s ≡ true → is_used s ≡ false
  unfolding is_marked is_used
  marked_not_used e = go (one_of s marked_pair_state marked_point_state e)
    where
      go : (s ≡ marked_pair_state) ⊎ (s ≡ marked_point_state) → (eqb s pair_state || eqb s point_state) ≡ false
      go (inl h) = rw h refl
      go (inr h) = rw h refl

  -- marking keeps the kind, and so does making used again
  pub point-marked : is_point (as_marked s) ≡ is_point s
  unfolding as_marked is_point
  point-marked = go (eqb s point_state || eqb s marked_point_state)
    where
      go : (t : Bool) → (eqb (cond t marked_point_state marked_pair_state) point_state || eqb (cond t marked_point_state marked_pair_state) marked_point_state) ≡ t
      go true = refl
      go false = refl

  pub point-used : is_point (as_used s) ≡ is_point s
  unfolding as_used is_point
  point-used = go (eqb s point_state || eqb s marked_point_state)
    where
      go : (t : Bool) → (eqb (cond t point_state pair_state) point_state || eqb (cond t point_state pair_state) marked_point_state) ≡ t
      go true = refl
      go false = refl

  pub marked-marked : is_marked (as_marked s) ≡ true
  unfolding as_marked is_marked
  marked-marked = go (is_point s)
    where
      go : (t : Bool) → (eqb (cond t marked_point_state marked_pair_state) marked_pair_state || eqb (cond t marked_point_state marked_pair_state) marked_point_state) ≡ true
      go true = refl
      go false = refl

  pub used-used : is_used (as_used s) ≡ true
  unfolding as_used is_used
  used-used = go (is_point s)
    where
      go : (t : Bool) → (eqb (cond t point_state pair_state) pair_state || eqb (cond t point_state pair_state) point_state) ≡ true
      go true = refl
      go false = refl

  -- the states of a used cell and of a marked one of its kind differ in the lowest two bits
  pub used-marked : is_used s ≡ true → bit_xor s marked_pair_state ≡ as_marked s
  unfolding as_marked is_point
  used-marked e = go (used_is e)
    where
      go : (s ≡ pair_state) ⊎ (s ≡ point_state) → bit_xor s marked_pair_state ≡ cond (eqb s point_state || eqb s marked_point_state) marked_point_state marked_pair_state
      go (inl h) = rw h refl
      go (inr h) = rw h refl

  pub marked-used : is_marked s ≡ true → bit_xor s marked_pair_state ≡ as_used s
  unfolding is_marked as_used is_point
  marked-used e = go (one_of s marked_pair_state marked_point_state e)
    where
      go : (s ≡ marked_pair_state) ⊎ (s ≡ marked_point_state) → bit_xor s marked_pair_state ≡ cond (eqb s point_state || eqb s marked_point_state) point_state pair_state
      go (inl h) = rw h refl
      go (inr h) = rw h refl

  -- the second bit is that of marked states, where a state is used or marked
  pub marked_bit : is_used s ≡ not (is_marked s) → is_used s ≡ eqb (bit_and s 2) 0
  unfolding is_used is_marked
  marked_bit = go (is_used s) (is_marked s) refl refl
    where
      go : (u m : Bool) → is_used s ≡ u → is_marked s ≡ m → u ≡ not m → u ≡ eqb (bit_and s 2) 0
      go true m e f h = at (used_is e)
        where
          at : (s ≡ pair_state) ⊎ (s ≡ point_state) → true ≡ eqb (bit_and s 2) 0
          at (inl h) = rw h refl
          at (inr h) = rw h refl
      go false true e f h = at (one_of s marked_pair_state marked_point_state f)
        where
          at : (s ≡ marked_pair_state) ⊎ (s ≡ marked_point_state) → false ≡ eqb (bit_and s 2) 0
          at (inl h) = rw h refl
          at (inr h) = rw h refl
      go false false e f h = absurd (true≢false (sym h))

  -- a used state is what the sweep makes of it
  pub used-same : is_used s ≡ true → s ≡ as_used s
  unfolding as_used is_point
  used-same e = go (used_is e)
    where
      go : (s ≡ pair_state) ⊎ (s ≡ point_state) → s ≡ cond (eqb s point_state || eqb s marked_point_state) point_state pair_state
      go (inl h) = rw h refl
      go (inr h) = rw h refl

-- marking and making used again look at the kind alone
module _ (s t : ℕ) (same : is_point s ≡ is_point t) where
  pub marked-alike : as_marked s ≡ as_marked t
  unfolding as_marked
  marked-alike = ap (λ (b : Bool). cond b marked_point_state marked_pair_state) same

  pub used-alike : as_used s ≡ as_used t
  unfolding as_used
  used-alike = ap (λ (b : Bool). cond b point_state pair_state) same

-- two used states of one kind are one
pub same-state : (s t : ℕ) → is_used s ≡ true → is_used t ≡ true → is_point s ≡ is_point t → s ≡ t
same-state s t used used' same = used-same s used ∙ (used-alike s t same ∙ sym (used-same t used'))

pub marked-again : (s : ℕ) → as_marked (as_marked s) ≡ as_marked s
marked-again s = marked-alike (as_marked s) s (point-marked s)
