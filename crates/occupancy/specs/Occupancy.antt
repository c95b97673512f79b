-- The occupancy of a pool (01, "Images"; 02, S-7, "Gauge to the nearest percent").
use Rattle.std.specs.Prelude.{ℕ, ◌+◌, ◌-◌, ◌*◌, ◌/◌, ◌%◌, ◌≤◌, ◌≡◌, ◌↔◌, [], ◌∷◌, cond, ◌&&◌, eqb, leb, ltb}
use Rattle.pool.specs.Layout.{cell_limit}
use Rattle.answers.specs.Outcome.{Outcome, answered, refused}

-- "to the nearest whole number, and an exact half to the even one" (02, S-7; rounding half to even), of the fraction a / n: it has a whole part, and a % n of n
-- parts are left. Less than a half stays, more than a half goes up, and of two whole numbers that are equally near it is the even one.
abbrev pub round_half_even : ℕ → ℕ → ℕ
round_half_even a n =
    let whole = a / n in
    cond (ltb (2 * (a % n)) n) whole (cond (ltb n (2 * (a % n))) (whole + 1) (cond (eqb (whole % 2) 0) whole (whole + 1)))

-- Occupancy: "Gauge: kept and N give the percent 100 × kept / N", which "goes to the nearest whole number" (02, S-7: "The gauge's equation follows"); "is N within
-- limits, and for gauge kept at most N? No: 1".
abbrev pub occupancy_of : ℕ → ℕ → Outcome
occupancy_of kept n = cond (leb 1 n && leb n cell_limit && leb kept n) (answered (round_half_even (100 * kept) n ∷ [])) (refused 1)

-- How far two numbers are apart. (Subtraction stops at 0, so that one of the two terms is 0.)
abbrev pub distance : ℕ → ℕ → ℕ
distance a b = (a - b) + (b - a)

-- The same rule without a quotient: p is at most a half away from the fraction a / n, that is, 2 × |a − p × n| is at most n; and where it is exactly a half
-- away, p is even.
pub record Nearest (a n p : ℕ) : Type 0 where
  pub near : 2 * distance a (p * n) ≤ n
  pub even : 2 * distance a (p * n) ≡ n → p % 2 ≡ 0

-- "The percent goes to the nearest whole number, and an exact half to the even one" (02, S-7): where the questions are passed the answer is one number p, and it is
-- the only one with 2 × |100 × kept − p × n| at most n, and even where that is an equality.
abbrev pub OccupancyIsNearest : Type 0
OccupancyIsNearest =
    (kept n : ℕ) → 1 ≤ n → n ≤ cell_limit → kept ≤ n
    → (p : ℕ) × (occupancy_of kept n ≡ answered (p ∷ [])) × ((q : ℕ) → Nearest (100 * kept) n q ↔ (q ≡ p))
