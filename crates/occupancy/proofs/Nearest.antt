-- The nearest whole number, an exact half to the even one: by one comparison, and as the only number that is nearest.
use Prim.Native.Nat.{ℕ, ◌+◌, ◌*◌, ◌/◌, ◌%◌, ◌<◌, ◌≤◌}
use mathlib.Core.Path.{◌≡◌, refl, sym}
use mathlib.Core.List.{[], ◌∷◌}
use native.Mathlib.Nat.{div-add-mod', mod-lt, mul-le-mul_right, add-mul}
use native.Mathlib.Decide.{dec_le}
use native.Mathlib.Omega.{arith}
use borrow.Author.Tests.{lt-ltb, le-ltb, le-leb}
use Rattle.answers.specs.Outcome.{answered}
use Rattle.pool.specs.Layout.{cell_limit}
use Rattle.occupancy.specs.Occupancy.{round_half_even, occupancy_of, Nearest, OccupancyIsNearest}

module _ (a n : ℕ) where
  -- up where it is more than a half, or a half and the whole part is odd; else the whole part stays
  pub goes_up : n < 2 * (a % n) + a / n % 2 → round_half_even a n ≡ a / n + 1
  goes_up more = go (dec_le (2 * (a % n)) n)
    where
      go : Dec (2 * (a % n) ≤ n) → round_half_even a n ≡ a / n + 1
      go (yes half) =
          let odd : a / n % 2 ≡ 1 = omega (arith, more, half) in
          simp (le-ltb (2 * (a % n)) n (omega (arith, more)), le-ltb n (2 * (a % n)) half, odd)
      go (no over) = simp (le-ltb (2 * (a % n)) n (omega (arith, over)), lt-ltb n (2 * (a % n)) (omega (arith, over)))

  pub stays : 2 * (a % n) + a / n % 2 ≤ n → round_half_even a n ≡ a / n
  stays most = go (dec_le n (2 * (a % n)))
    where
      go : Dec (n ≤ 2 * (a % n)) → round_half_even a n ≡ a / n
      go (yes half) =
          let even : a / n % 2 ≡ 0 = omega (arith, most, half) in
          simp (le-ltb (2 * (a % n)) n half, le-ltb n (2 * (a % n)) (omega (arith, most)), even)
      go (no under) = simp (lt-ltb (2 * (a % n)) n (omega (arith, under)))

  -- what is rounded so is nearest
  rounded_is_nearest : 1 ≤ n → Nearest a n (round_half_even a n)
  rounded_is_nearest some = go (dec_le (2 * (a % n) + a / n % 2) n)
    where
      parts : a / n * n + a % n ≡ a
      parts = div-add-mod' a n

      less : a % n < n
      less = mod-lt a some

      next : (a / n + 1) * n ≡ a / n * n + 1 * n
      next = add-mul (a / n) 1 n

      go : Dec (2 * (a % n) + a / n % 2 ≤ n) → Nearest a n (round_half_even a n)
      go (yes most) = rw (stays most) (record { near = omega (arith, parts, most); even = λ half. omega (arith, parts, most, half) })
      go (no more) =
          rw (goes_up (omega (arith, more)))
          (record { near = omega (arith, parts, less, next, more); even = λ half. omega (arith, parts, less, next, more, half) })

  -- of two that are nearest neither is below the other: each would be half of n away, and both be even, one after the other
  not_below : (p q : ℕ) → 1 ≤ n → Nearest a n p → Nearest a n q → p < q → ⊥
  not_below p q some at_p at-q below = go (dec_le (p + 2) q)
    where
      after : p * n + n ≤ q * n
      after = let step = mul-le-mul_right {m = p + 1} {n = q} n (omega (arith, below)) in let sum = add-mul p 1 n in omega (arith, step, sum)

      go : Dec (p + 2 ≤ q) → ⊥
      go (yes far) =
          let step = mul-le-mul_right {m = p + 2} {n = q} n far in
          let sum = add-mul p 2 n in
          omega (arith, some, step, sum, at_p.near, at-q.near)
      go (no beside) =
          let even = at_p.even (omega (arith, after, at_p.near, at-q.near)) in
          let also = at-q.even (omega (arith, after, at_p.near, at-q.near)) in
          omega (arith, below, beside, even, also)

  only_one : (p q : ℕ) → 1 ≤ n → Nearest a n p → Nearest a n q → p ≡ q
  only_one p q some at_p at-q = go (dec_le q p) (dec_le p q)
    where
      go : Dec (q ≤ p) → Dec (p ≤ q) → p ≡ q
      go (no below) h = absurd (not_below p q some at_p at-q (omega (arith, below)))
      go (yes h) (no below) = absurd (not_below q p some at-q at_p (omega (arith, below)))
      go (yes h) (yes k) = omega (arith, h, k)

-- the answer where the questions are passed
pub answers_rounded : (kept n : ℕ) {p : ℕ} → 1 ≤ n → n ≤ cell_limit → kept ≤ n → round_half_even (100 * kept) n ≡ p → answered (p ∷ []) ≡ occupancy_of kept n
answers_rounded kept n some within fits is = simp (le-leb 1 n some, le-leb n cell_limit within, le-leb kept n fits, is)

pub occupancy_is_nearest : OccupancyIsNearest
occupancy_is_nearest kept n some within fits =
    let is = rounded_is_nearest (100 * kept) n some in (
      round_half_even (100 * kept) n,
      sym (answers_rounded kept n some within fits refl),
      λ q. ((λ at. only_one (100 * kept) n q (round_half_even (100 * kept) n) some at is), (λ e. rw e is)),
    )
