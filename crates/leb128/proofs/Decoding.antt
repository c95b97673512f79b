-- The reader, a group at a time.
use Prim.Native.Nat.{ℕ, zero, suc, ◌+◌, ◌-◌, ◌*◌, ◌<◌, ◌≤◌}
use mathlib.Core.Path.{◌≡◌, refl, sym, ap, ◌∙◌}
use mathlib.Core.List.{List, [], ◌∷◌}
use Rattle.std.specs.Prelude.{Ok, Err}
use native.Mathlib.Decide.{dec_lt}
use native.Mathlib.Omega.{arith}
use borrow.Author.Tests.{lt-ltb, le-ltb, ne_eqb}
use Rattle.leb128.specs.declared.Number.{Number}
use Rattle.leb128.specs.declared.NumberError.TheVariants.{Missing, OutOfRange, Padded}
use Rattle.leb128.specs.Leb128.{Found, found, map_value, below, read_further, read_groups}

module _ (b : ℕ) (bytes : List ℕ) (at : ℕ) where
  -- A number's first group ends it if its top bit is clear; otherwise it is the lowest group of what follows.
  pub first_last : b < 128 → read_groups (b ∷ bytes) at ≡ found b (at + 1)
  unfolding read_groups
  first_last small = rw (read_groups, lt-ltb b 128 small)

  pub first_more : 128 ≤ b → read_groups (b ∷ bytes) at ≡ below b (read_further 3 bytes (at + 1))
  unfolding read_groups
  first_more large = rw (read_groups, le-ltb b 128 large)

  -- So does a further one before the fifth, if it is not 0.
  pub read-last : (more : ℕ) → 0 < b → b < 128 → read_further (suc more) (b ∷ bytes) at ≡ found b (at + 1)
  unfolding read_further
  read-last more some small = rw (read_further, lt-ltb b 128 small, ne_eqb b 0 (omega arith))

  pub read_more : (more : ℕ) → 128 ≤ b → read_further (suc more) (b ∷ bytes) at ≡ below b (read_further more bytes (at + 1))
  unfolding read_further
  read_more more large = rw (read_further, le-ltb b 128 large)

  -- The fifth group ends the number, if it is not 0, and is at most 0F.
  pub read_fifth : 0 < b → b < 16 → read_further 0 (b ∷ bytes) at ≡ found b (at + 1)
  unfolding read_further
  read_fifth some small = rw (lt-ltb b 16 small, ne_eqb b 0 (omega arith))

  pub read_beyond : 16 ≤ b → read_further 0 (b ∷ bytes) at ≡ Err OutOfRange
  unfolding read_further
  read_beyond large = rw (le-ltb b 16 large)

-- No bytes are no number.
pub first_none : (at : ℕ) → read_groups [] at ≡ Err Missing
unfolding read_groups
first_none at = refl

pub read_none : (more at : ℕ) → read_further more [] at ≡ Err Missing
unfolding read_further
read_none more at = refl

-- A further group of 0 is padding.
pub read-padded : (more : ℕ) (bytes : List ℕ) (at : ℕ) → read_further more (0 ∷ bytes) at ≡ Err Padded
unfolding read_further
read-padded zero bytes at = refl
read-padded (suc more) bytes at = refl

-- How the groups behind a number's first one are read: the bytes from the place `at` on start with those of v, and `next` is the place behind these.
pub data Reads : ℕ → List ℕ → ℕ → ℕ → ℕ → Type 0 where
  fifth : {b : ℕ} {bytes : List ℕ} {at v next : ℕ} → (0 < b) × (b < 16) → (v ≡ b) × (next ≡ at + 1) → Reads 0 (b ∷ bytes) at v next
  last : {more b : ℕ} {bytes : List ℕ} {at v next : ℕ} → (0 < b) × (b < 128) → (v ≡ b) × (next ≡ at + 1) → Reads (suc more) (b ∷ bytes) at v next
  above : {more b : ℕ} {bytes : List ℕ} {at v next high : ℕ} → 128 ≤ b → v ≡ (b - 128) + 128 * high → Reads more bytes (at + 1) high next
      → Reads (suc more) (b ∷ bytes) at v next

-- Two answers that are equal and numbers have one value and one place behind it.
pub parts : {v v' next next' : ℕ} → found v' next' ≡ found v next → (v ≡ v') × (next ≡ next')
parts {v} {v'} {next} {next'} e =
    let same : ◌≡◌ {A = Number} (record { value = v; next = next }) (record { value = v'; next = next' }) = cc in
    (ap (λ (n : Number). n.value) same, ap (λ (n : Number). n.next) same)

-- A number with a changed value was a number before.
pub unmapped : (f : ℕ → ℕ) (n : Found) (v next : ℕ) → map_value f n ≡ found v next → (x : ℕ) × (n ≡ found x next) × (v ≡ f x)
unmapped f (Ok n) v next e = let p = parts e in (n.value, rw p.1 refl, p.0)
unmapped f (Err why) v next e = cc

-- Where the reader answers a number, it was read so.
pub number_reads : (more : ℕ) (bytes : List ℕ) (at v next : ℕ) → read_further more bytes at ≡ found v next → Reads more bytes at v next
number_reads more [] at v next e = let z : ◌≡◌ {A = ℕ} 0 1 = cc (read_none more at) in absurd (omega arith)
number_reads more (zero ∷ bytes) at v next e = let z : ◌≡◌ {A = ℕ} 0 1 = cc (read-padded more bytes at) in absurd (omega arith)
number_reads zero (suc b ∷ bytes) at v next e =
    elim (dec_lt (suc b) 16) [
      | yes small ↦ fifth {b = suc b} (omega arith, small) (parts (sym (read_fifth (suc b) bytes at (omega arith) small) ∙ e))
      | no large ↦ let z : ◌≡◌ {A = ℕ} 0 1 = cc (read_beyond (suc b) bytes at (omega arith)) in absurd (omega arith)
    ]
number_reads (suc more) (suc b ∷ bytes) at v next e =
    elim (dec_lt (suc b) 128) [
      | yes small ↦ last {b = suc b} (omega arith, small) (parts (sym (read-last (suc b) bytes at more (omega arith) small) ∙ e))
      | no large ↦
          let large : 128 ≤ suc b = omega arith in
          let high = unmapped _ (read_further more bytes (at + 1)) v next (sym (read_more (suc b) bytes at more large) ∙ e) in
          above large high.2 (number_reads more bytes (at + 1) high.0 next high.1)
    ]
