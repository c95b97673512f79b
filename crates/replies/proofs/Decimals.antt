-- Decimals, a digit at a time; how long they are; and that they are read back.
use Prim.Native.Nat.{ℕ, zero, suc, ◌+◌, ◌*◌, ◌/◌, ◌%◌, ◌^◌, ◌<◌, ◌≤◌}
use Prim.Native.Char.{code}
use mathlib.Core.Path.{◌≡◌, refl, ap, sym, ◌∙◌}
use mathlib.Core.List.{List, [], ◌∷◌, ◌++◌, foldl, foldl-append}
use mathlib.Core.Bool.{Bool, true, and-eq-true_iff}
use lib.Dec.{leb}
use native.Mathlib.Nat.{pow-suc, pow-succ', mul_assoc, mul-le-mul_right, lt_of_lt_of_le}
use native.Mathlib.Decide.{dec_lt}
use native.Mathlib.Omega.{arith}
use lib.ListN.{length, length-append}
use borrow.Author.Tests.{lt-ltb, le-ltb, le-leb, leb-true}
use Rattle.lines.specs.Lines.{is_digit, with_digit, decimal_value, all, is_number}
use Rattle.replies.specs.Replies.{digits, decimal, DecimalsReadBack, FewestDigits}

digits_last : (more v : ℕ) → v < 10 → digits more v ≡ (code "0" + v) ∷ []
unfolding digits
digits_last zero v small = refl
digits_last (suc more) v small = rw (digits, lt-ltb v 10 small)

digits_more : (more v : ℕ) → 10 ≤ v → digits (suc more) v ≡ digits more (v / 10) ++ (code "0" + v % 10) ∷ []
unfolding digits
digits_more more v large = rw (digits, le-ltb v 10 large)

-- Room for more digits than there are changes nothing.
enough : (more other v : ℕ) → v ≤ more → v ≤ other → digits more v ≡ digits other v
enough zero other v h k = digits_last zero v (omega arith) ∙ sym (digits_last other v (omega arith))
enough (suc more) zero v h k = digits_last (suc more) v (omega arith) ∙ sym (digits_last zero v (omega arith))
enough (suc more) (suc other) v h k =
    elim (dec_lt v 10) [
      | yes small ↦ digits_last (suc more) v small ∙ sym (digits_last (suc other) v small)
      | no large ↦
          digits_more more v (omega arith)
          ∙ ap (λ d. d ++ (code "0" + v % 10) ∷ []) (enough more other (v / 10) (omega arith) (omega arith))
          ∙ sym (digits_more other v (omega arith))
    ]

-- A number below 10 is one digit; another is the decimal of its tenth and its last digit.
pub decimal-last : (v : ℕ) → v < 10 → decimal v ≡ (code "0" + v) ∷ []
unfolding decimal
decimal-last v small = digits_last v v small

pub decimal-more : (v : ℕ) → 10 ≤ v → decimal v ≡ decimal (v / 10) ++ (code "0" + v % 10) ∷ []
unfolding decimal
decimal-more zero large = absurd (omega arith)
decimal-more (suc v) large =
    digits_more v (suc v) large ∙ ap (λ d. d ++ (code "0" + suc v % 10) ∷ []) (enough v (suc v / 10) (suc v / 10) (omega arith) (omega arith))

pub length_more : (v : ℕ) → 10 ≤ v → length (decimal v) ≡ length (decimal (v / 10)) + 1
length_more v large = ap length (decimal-more v large) ∙ length-append (decimal (v / 10)) ((code "0" + v % 10) ∷ [])

-- A number below a power of ten has no more digits than that.
digits-most : (more v : ℕ) → v < 10 ^ suc more → length (decimal v) ≤ suc more
digits-most zero v less = omega (arith, ap length (decimal-last v (omega arith)))
digits-most (suc more) v less =
    elim (dec_lt v 10) [
      | yes small ↦ omega (arith, ap length (decimal-last v small))
      | no large ↦
          omega (
            arith,
            length_more v (omega arith),
            digits-most more (v / 10) (omega (arith, pow-suc 10 (suc more))),
          )
    ]

pub decimal-most : (v : ℕ) → v < 2 ^ 32 → length (decimal v) ≤ 10
decimal-most v fits = digits-most 9 v (omega arith)

decimal-some : (v : ℕ) → 0 < length (decimal v)
decimal-some v =
    elim (dec_lt v 10) [
      | yes small ↦ omega (arith, ap length (decimal-last v small))
      | no large ↦ omega (arith, length_more v (omega arith))
    ]

all_append : (test : ℕ → Bool) (xs ys : List ℕ) → all test xs ≡ true → all test ys ≡ true → all test (xs ++ ys) ≡ true
unfolding all
all_append test [] ys left right = right
all_append test (x ∷ xs) ys left right =
    let apart = (and-eq-true_iff (test x) (all test xs)).0 left in
    (and-eq-true_iff (test x) (all test (xs ++ ys))).1 (apart.0, all_append test xs ys apart.1 right)

-- The code of a digit is a digit.
one_digit : (d : ℕ) → d < 10 → all is_digit ((code "0" + d) ∷ []) ≡ true
unfolding all
one_digit d small = rw (le-leb (code "0") (code "0" + d) (omega arith), le-leb (code "0" + d) (code "9") (omega arith))

-- The decimal of a number is digits, and their value is the number.
record Back (v : ℕ) : Type 0 where
  value : decimal_value (decimal v) ≡ v
  alike : all is_digit (decimal v) ≡ true

back_last : (v : ℕ) → v < 10 → Back v
back_last v small =
    let e = decimal-last v small in
    record { value = ap decimal_value e ∙ omega arith; alike = rw e (one_digit v small) }

back_more : (v : ℕ) → 10 ≤ v → Back (v / 10) → Back v
back_more v large above =
    let e = decimal-more v large in
    record {
      value = ap decimal_value e ∙ foldl-append with_digit 0 (decimal (v / 10)) ((code "0" + v % 10) ∷ []) ∙ omega (arith, above.value);
      alike = rw e (all_append is_digit (decimal (v / 10)) _ above.alike (one_digit (v % 10) (omega arith)));
    }

back : (most v : ℕ) → v ≤ most → Back v
back zero v h = back_last v (omega arith)
back (suc most) v h =
    elim (dec_lt v 10) [
      | yes small ↦ back_last v small
      | no large ↦ back_more v (omega arith) (back most (v / 10) (omega arith))
    ]

-- Digits are a number if there are some and the value is in range.
some_number : (word : List ℕ) → 0 < length word → all is_digit word ≡ true → decimal_value word < 2 ^ 32 → is_number word ≡ true
unfolding is_number
some_number [] some alike fits = absurd (omega arith)
some_number (b ∷ word) some alike fits = rw (alike, lt-ltb (decimal_value (b ∷ word)) (2 ^ 32) fits)

pub decimals_read_back : DecimalsReadBack
decimals_read_back v fits =
    let b = back v v (omega arith) in
    record { number = some_number (decimal v) (decimal-some v) b.alike (omega (arith, b.value)); value = b.value }

-- Behind a value v each digit multiplies by ten: the value stays below that power of ten, v + 1 times.
below_power : (v : ℕ) (word : List ℕ) → all is_digit word ≡ true → foldl with_digit v word < (v + 1) * 10 ^ length word
unfolding all
below_power v [] alike = omega arith
below_power v (b ∷ word) alike =
    let apart = (and-eq-true_iff (is_digit b) (all is_digit word)).0 alike in
    let digit = leb-true b (code "9") ((and-eq-true_iff (leb (code "0") b) (leb b (code "9"))).0 apart.0).1 in
    let less = below_power (with_digit v b) word apart.1 in
    let power = pow-succ' 10 (length word) in
    let most = mul-le-mul_right {m = with_digit v b + 1} {n = (v + 1) * 10} (10 ^ length word) (omega arith) in
    lt_of_lt_of_le less (rw power (rw mul_assoc at most))

pub fewest_digits : FewestDigits
fewest_digits [] some alike = absurd (omega arith)
fewest_digits (b ∷ word) some alike = digits-most (length word) (decimal_value (b ∷ word)) (omega (arith, below_power 0 (b ∷ word) alike))
