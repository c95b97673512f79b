-- How many of several cells are pairs and points, and the visits of them.
use Prim.Native.Nat.{ℕ, ◌+◌, ◌*◌, ◌≤◌}
use native.Mathlib.Omega.{arith}
use mathlib.Core.Path.{◌≡◌, refl}
use mathlib.Core.Bool.{Bool, true, false, cond}
use mathlib.Core.List.Memᴰ
use mathlib.Core.List.{List, [], ◌∷◌, ◌++◌}
use lib.ListN.{length}
use Rattle.graph.proofs.Lists.{Each}
use Rattle.reversal.specs.Reached.{pair_count, point_count, visits_of}

module _ (point : ℕ → Bool) where
  -- one more
  module _ (x : ℕ) (xs : List ℕ) where
    pub counts_pair : point x ≡ false → (pair_count point (x ∷ xs) ≡ 1 + pair_count point xs) × (point_count point (x ∷ xs) ≡ point_count point xs)
    unfolding pair_count point_count
    counts_pair e = (rw e refl, rw e (omega arith))

    pub counts_point : point x ≡ true → (pair_count point (x ∷ xs) ≡ pair_count point xs) × (point_count point (x ∷ xs) ≡ 1 + point_count point xs)
    unfolding pair_count point_count
    counts_point e = (rw e (omega arith), rw e refl)

  -- several
  pub pairs-append : (t u : List ℕ) → pair_count point (t ++ u) ≡ pair_count point t + pair_count point u
  unfolding pair_count
  pairs-append [] u = omega arith
  pairs-append (x ∷ xs) u = omega (arith, pairs-append xs u)

  pub points_append : (t u : List ℕ) → point_count point (t ++ u) ≡ point_count point t + point_count point u
  unfolding point_count
  points_append [] u = omega arith
  points_append (x ∷ xs) u = omega (arith, points_append xs u)

  pub visits-append : (t u : List ℕ) → visits_of point (t ++ u) ≡ visits_of point t + visits_of point u
  visits-append t u = omega (arith, pairs-append t u, points_append t u)

  -- every cell is a pair or a point
  pub kinds_all : (t : List ℕ) → pair_count point t + point_count point t ≡ length t
  unfolding pair_count point_count
  kinds_all [] = refl
  kinds_all (x ∷ xs) = go (point x) (kinds_all xs)
    where
      go : (b : Bool) → pair_count point xs + point_count point xs ≡ length xs
          → cond b 0 1 + pair_count point xs + (cond b 1 0 + point_count point xs) ≡ length (x ∷ xs)
      go true e = omega arith
      go false e = omega arith

  -- so there are at most three visits of each
  pub visits-most : (t : List ℕ) → visits_of point t ≤ 3 * length t
  visits-most t = omega (arith, kinds_all t)

-- the counts look at the kinds of the cells alone
module _ (point point' : ℕ → Bool) where
  pub pairs_cong : (t : List ℕ) → Each (λ x. point x ≡ point' x) t → pair_count point t ≡ pair_count point' t
  unfolding pair_count
  pairs_cong [] same = refl
  pairs_cong (x ∷ xs) same = rw (same x (Memᴰ.head refl), pairs_cong xs (λ y mem. same y (Memᴰ.tail mem))) refl

  pub points_cong : (t : List ℕ) → Each (λ x. point x ≡ point' x) t → point_count point t ≡ point_count point' t
  unfolding point_count
  points_cong [] same = refl
  points_cong (x ∷ xs) same = rw (same x (Memᴰ.head refl), points_cong xs (λ y mem. same y (Memᴰ.tail mem))) refl

  pub visits_cong : (t : List ℕ) → Each (λ x. point x ≡ point' x) t → visits_of point t ≡ visits_of point' t
  visits_cong t same = omega (arith, pairs_cong t same, points_cong t same)
