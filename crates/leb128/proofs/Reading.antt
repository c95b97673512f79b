-- Reading a number a group at a time: what is left to read, with what has been read, always gives the same answer.
use Prim.Native.Nat.{ℕ, zero, suc, ◌+◌, ◌-◌, ◌*◌, ◌%◌, ◌^◌, ◌<◌, ◌≤◌}
use mathlib.Core.Path.{◌≡◌, refl, ap, sym, ◌∙◌}
use mathlib.Core.List.{List}
use Rattle.std.specs.Prelude.{Ok, Err}
use native.Mathlib.Nat.{pow-succ', one-le-pow, mul_assoc, mul-add, add_assoc, mul-le-mul_left, le-mul_of_pos_right}
use native.Mathlib.Numerals.{add-one}
use native.Mathlib.Omega.{arith}
use lib.ListN.{length, get_or, drop, drop_of_length-le}
use lib.Seq.{drop-cons}
use Rattle.leb128.specs.declared.NumberError.TheVariants.{Missing, OutOfRange, Padded}
use Rattle.leb128.specs.Leb128.{Found, found, map_value, read_further, read_at}
use Rattle.leb128.proofs.Decoding.{first_last, first_more, first_none, read_fifth, read_beyond, read-last, read_more, read_none, read-padded}

-- What is read, behind groups that make `value`, where its own lowest group has the weight `weight`.
abbrev onto : ℕ → ℕ → Found → Found
onto value weight = map_value (λ x. value + weight * x)

-- One more group can be counted to those before it.
onto_group : (value weight low : ℕ) (n : Found)
    → onto value weight (map_value (λ high. low + 128 * high) n) ≡ onto (value + weight * low) (weight * 128) n
onto_group value weight low (Ok n) = simp (mul-add, add_assoc, mul_assoc)
onto_group value weight low (Err why) = refl

-- On the way of reading the number at a place: the groups before `i` make `value`, the one at `i` has the weight `weight`, and up to
-- `more` may follow it.
pub record Reading (bytes : List ℕ) (at more value weight i : ℕ) : Type 0 where
  pub whole : weight * 128 ^ more ≡ 2 ^ 28
  pub below : value < weight
  pub result : onto value weight (read_further more (drop i bytes) i) ≡ read_at bytes at

-- The first group, its byte there: the number ends, or goes on with up to four groups.
pub record First (bytes : List ℕ) (at : ℕ) : Type 0 where
  pub ends : get_or bytes at 0 < 128 → found (get_or bytes at 0) (at + 1) ≡ read_at bytes at
  pub again : 128 ≤ get_or bytes at 0 → Reading bytes at 3 (get_or bytes at 0 - 128) 128 (at + 1)

-- A further group before the fifth, its byte there: what the code computes fits, and the number ends or goes on.
pub record Turn (bytes : List ℕ) (at left value weight i group : ℕ) : Type 0 where
  pub next_weight : weight * 128 ≤ 2 ^ 28
  pub fits : value + weight * (group % 128) < 2 ^ 28
  pub padded : group ≡ 0 → Err Padded ≡ read_at bytes at
  pub ends : 0 < group → group < 128 → found (value + weight * (group % 128)) (i + 1) ≡ read_at bytes at
  pub again : 128 ≤ group → Reading bytes at (left - 1) (value + weight * (group % 128)) (weight * 128) (i + 1)

-- The fifth group, its byte there.
pub record Fifth (bytes : List ℕ) (at value i group : ℕ) : Type 0 where
  pub below : value < 2 ^ 28
  pub beyond : 16 ≤ group → Err OutOfRange ≡ read_at bytes at
  pub padded : group ≡ 0 → Err Padded ≡ read_at bytes at
  pub ends : 0 < group → group < 16 → found (value + 2 ^ 28 * group) (i + 1) ≡ read_at bytes at

-- Where the bytes end before the number starts, it is missing.
pub none : (bytes : List ℕ) (at : ℕ) → length bytes ≤ at → Err Missing ≡ read_at bytes at
unfolding read_at
none bytes at short = rw (drop_of_length-le, first_none)

pub first : (bytes : List ℕ) (at : ℕ) → at < length bytes → get_or bytes at 0 < 256 → First bytes at
unfolding read_at
first bytes at there byte =
    record {
      ends = λ small. rw (drop-cons bytes at 0, first_last);
      again = λ large. record { whole = refl; below = omega arith; result = rw (drop-cons bytes at 0, first_more, add-one at) };
    }

-- The weight of the next group, and that it is at most that of the fifth.
shifted : (more weight : ℕ) → weight * 128 ^ suc more ≡ 2 ^ 28 → weight * 128 * 128 ^ more ≡ 2 ^ 28
shifted more weight whole = mul_assoc weight 128 (128 ^ more) ∙ ap (λ x. weight * x) (sym (pow-succ' 128 more)) ∙ whole

bounded : (more weight : ℕ) → weight * 128 ^ suc more ≡ 2 ^ 28 → weight * 128 ≤ 2 ^ 28
bounded more weight whole =
    omega (arith, shifted more weight whole, le-mul_of_pos_right (weight * 128) (one-le-pow more 128 (omega arith)))

-- A number below the weight and a group of that weight stay below the next weight.
product : (value weight group : ℕ) → value < weight → group < 128 → value + weight * group < weight * 128
product value weight group below small =
    let most : group ≤ 127 = omega arith in
    omega (arith, mul-le-mul_left weight most)

module _ {bytes : List ℕ} {at value weight i : ℕ} where
  -- Where the bytes end, the number is missing, however many groups may follow.
  pub missing : {more : ℕ} → Reading bytes at more value weight i → length bytes ≤ i → Err Missing ≡ read_at bytes at
  missing {more} r short = rw (drop_of_length-le, read_none) at r.result

  turn_more : (more : ℕ) → Reading bytes at (suc more) value weight i → i < length bytes → get_or bytes i 0 < 256
      → Turn bytes at (suc more) value weight i (get_or bytes i 0)
  turn_more more r there byte =
      let bound = bounded more weight r.whole in
      let below = product value weight (get_or bytes i 0 % 128) r.below (omega arith) in
      record {
        next_weight = bound;
        fits = omega arith;
        padded = λ none. rw (drop-cons bytes i 0, none, read-padded) at r.result;
        ends = λ some small.
            let same : get_or bytes i 0 % 128 ≡ get_or bytes i 0 = omega arith in
            rw same (rw (drop-cons bytes i 0, read-last) at r.result);
        again = λ large.
            let same : get_or bytes i 0 % 128 ≡ get_or bytes i 0 - 128 = omega arith in
            let fewer : suc more - 1 ≡ more = omega arith in
            rw fewer
            (record {
              whole = shifted more weight r.whole;
              below = below;
              result = rw (drop-cons bytes i 0, read_more, onto_group value weight (get_or bytes i 0 - 128) _, ← same, ← add-one i) at r.result;
            });
      }

  pub turn : {left group : ℕ} → Reading bytes at left value weight i → 0 < left → i < length bytes → group < 256 → group ≡ get_or bytes i 0
      → Turn bytes at left value weight i group
  turn {left} {group} r some there byte e =
      let more : left ≡ suc (left - 1) = omega arith in
      rw (e, more) (turn_more (left - 1) (rw more at r) there (omega arith))

  pub fifth : {left group : ℕ} → Reading bytes at left value weight i → left ≡ 0 → i < length bytes → group ≡ get_or bytes i 0
      → Fifth bytes at value i group
  fifth {left} {group} r none there e =
      let here = rw none at r in
      rw e
      (record {
        below = omega (arith, here.whole, r.below);
        beyond = λ large. rw (drop-cons bytes i 0, read_beyond) at here.result;
        padded = λ none. rw (drop-cons bytes i 0, none, read-padded) at here.result;
        ends = λ some small.
            let h : weight ≡ 2 ^ 28 = omega (arith, here.whole) in
            rw (drop-cons bytes i 0, read_fifth, h) at here.result;
      })

  -- The weight tells whether more groups may follow.
  pub some_left : {left : ℕ} → Reading bytes at left value weight i → weight < 2 ^ 28 → 0 < left
  some_left {left = zero} r less = absurd (omega (arith, r.whole))
  some_left {left = suc more} r less = omega arith

  pub none_left : {left : ℕ} → Reading bytes at left value weight i → 2 ^ 28 ≤ weight → left ≡ 0
  none_left {left = zero} r large = refl
  none_left {left = suc more} r large = absurd (omega (arith, bounded more weight r.whole))
