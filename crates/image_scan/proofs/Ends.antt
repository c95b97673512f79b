-- Where numbers, links and pairs end, as it is found without their values.
use Prim.Native.Nat.{ℕ, suc, ◌+◌, ◌-◌, ◌*◌, ◌%◌, ◌<◌, ◌≤◌}
use native.Mathlib.Omega.{arith}
use native.Mathlib.Nat.{le-mul_of_pos_right}
use native.Mathlib.Decide.{dec_lt}
use native.Mathlib.Numerals.{add-one}
use mathlib.Core.Path.{◌≡◌, refl, sym, ap, ◌∙◌}
use mathlib.Core.List.{List}
use Rattle.std.specs.Prelude.{Option, Some, None, Ok, Err}
use mathlib.Core.Bool.{Bool, true, false, cond}
use lib.ListN.{length, get_or, drop}
use lib.Seq.{drop-cons}
use lib.Dec.{eqb}
use borrow.Author.Tests.{le-leb, lt-leb, eq-eqb}
use Rattle.leb128.specs.Leb128.{Found, found, map_value, read_further, read_at, Bytes}
use Rattle.leb128.proofs.Decoding.{Reads, read-last, read_more, read_fifth, read_beyond, read-padded, parts, unmapped, number_reads}
use Rattle.leb128.proofs.Reading.{Reading, Turn, first, turn}
use Rattle.answers.specs.declared.Refusal.{Refusal}
use Rattle.answers.specs.declared.Refusal.TheVariants as refusal
use Rattle.image.specs.Image.{Parsed, parsed, fault, and_then, any_number, at_most, read_number, read_link, read_kind, read_cell}
use Rattle.pool.specs.declared.Kind.TheVariants as kind
use Rattle.image.proofs.Reading.{then-parsed, then-fault}
use Rattle.image_reader.proofs.Fields.{pair_byte}
use Rattle.image_scan.specs.Steps.{place_of, end_of, pair_end}

-- The place behind what a reader finds does not depend on the value.
end_mapped : (f : ℕ → ℕ) (n : Found) → end_of (any_number (map_value f n)) ≡ end_of (any_number n)
end_mapped f (Ok n) = refl
end_mapped f (Err why) = refl

module _ (bytes : List ℕ) where
  -- Where a number ends whose group at `i` is not its first, and up to `more` may follow that one.
  abbrev pub further_end : ℕ → ℕ → Option ℕ
  further_end more i = end_of (any_number (read_further more (drop i bytes) i))

  module _ (at : ℕ) (there : at < length bytes) (byte : get_or bytes at 0 < 256) where
    pub first_ends : get_or bytes at 0 < 128 → Some (at + 1) ≡ end_of (read_number bytes at)
    first_ends small = ap (λ n. end_of (any_number n)) ((first bytes at there byte).ends small)

    pub first_goes_on : 128 ≤ get_or bytes at 0 → further_end 3 (at + 1) ≡ end_of (read_number bytes at)
    first_goes_on large =
        let on = (first bytes at there byte).again large in
        sym (end_mapped _ (read_further 3 (drop (at + 1) bytes) (at + 1))) ∙ ap (λ n. end_of (any_number n)) on.result

  module _ (i : ℕ) (there : i < length bytes) where
    pub group_padded : (more : ℕ) → get_or bytes i 0 ≡ 0 → None ≡ further_end more i
    group_padded more none = rw (drop-cons bytes i 0, none, read-padded)

    pub group_ends : (left more : ℕ) → left ≡ suc more → 0 < get_or bytes i 0 → get_or bytes i 0 < 128 → Some (i + 1) ≡ further_end left i
    group_ends left more e some small = rw (e, drop-cons bytes i 0, read-last)

    pub group_goes_on : (left more : ℕ) → left ≡ suc more → 128 ≤ get_or bytes i 0 → further_end more (i + 1) ≡ further_end left i
    group_goes_on left more e large =
        rw (e, drop-cons bytes i 0, read_more, add-one i) (sym (end_mapped _ (read_further more (drop (suc i) bytes) (suc i))))

    pub fifth_ends : (left : ℕ) → left ≡ 0 → 0 < get_or bytes i 0 → get_or bytes i 0 < 16 → Some (i + 1) ≡ further_end left i
    fifth_ends left e some small = rw (e, drop-cons bytes i 0, read_fifth)

    pub fifth_beyond : (left : ℕ) → left ≡ 0 → 16 ≤ get_or bytes i 0 → None ≡ further_end left i
    fifth_beyond left e large = rw (e, drop-cons bytes i 0, read_beyond)

-- The last group of a number is not 0, so that a number is at least the weight of any of its groups.
reads_some : {more : ℕ} {bytes : List ℕ} {at v next : ℕ} → Reads more bytes at v next → 0 < v
reads_some (Reads.fifth b e) = omega (arith, b.0, e.0)
reads_some (Reads.last b e) = omega (arith, b.0, e.0)
reads_some (Reads.above large e r) = omega (arith, e, reads_some r)

at_least : {bytes : List ℕ} {at more value weight i : ℕ} → Reading bytes at more value weight i → (v next : ℕ) → read_at bytes at ≡ found v next
    → weight ≤ v
at_least {bytes} {at} {more} {value} {weight} {i} r v next e =
    let high = unmapped (λ x. value + weight * x) (read_further more (drop i bytes) i) v next (r.result ∙ e) in
    omega (arith, high.2, le-mul_of_pos_right weight (reads_some (number_reads more (drop i bytes) i high.0 next high.1)))

-- A number that is above the bound wherever it is read has no end.
above : (k : ℕ) (over : Refusal) (n : Found) → ((v next : ℕ) → n ≡ found v next → k < v) → None ≡ end_of (at_most k over (any_number n))
above k over (Ok n) high = simp (lt-leb n.value k (high n.value n.next refl))
above k over (Err why) high = refl

module _ (bytes : List ℕ) (at k : ℕ) (there : at + 2 ≤ length bytes) (byte : Bytes bytes) where
  abbrev a : ℕ
  a = get_or bytes at 0

  abbrev b : ℕ
  b = get_or bytes (at + 1) 0

  -- The end of a link by the number that is there.
  link-read : {n : Found} → n ≡ read_at bytes at → end_of (at_most k refusal.LinkRange (any_number n)) ≡ end_of (read_link k bytes at)
  link-read e = ap (λ m. end_of (at_most k refusal.LinkRange (any_number m))) e

  pub one_byte : a < 128 → a ≤ k → Some (at + 1) ≡ end_of (read_link k bytes at)
  one_byte small low = simp (le-leb a k low) at (link-read ((first bytes at (omega arith) (byte at)).ends small))

  pub one_byte_above : a < 128 → k < a → None ≡ end_of (read_link k bytes at)
  one_byte_above small high = simp (lt-leb a k high) at (link-read ((first bytes at (omega arith) (byte at)).ends small))

  module _ (more : 128 ≤ a) where
    second : Turn bytes at 3 (a - 128) 128 (at + 1) b
    second = turn ((first bytes at (omega arith) (byte at)).again more) (omega arith) (omega arith) (byte (at + 1)) refl

    pub two-bytes_padded : b ≡ 0 → None ≡ end_of (read_link k bytes at)
    two-bytes_padded none = link-read (second.padded none)

    pub two_bytes : 0 < b → (a - 128) + 128 * b ≤ k → k < 16384 → Some (at + 2) ≡ end_of (read_link k bytes at)
    two_bytes some low few =
        let same : b % 128 ≡ b = omega arith in
        let behind : at + 1 + 1 ≡ at + 2 = omega arith in
        simp (le-leb ((a - 128) + 128 * b) k low) at (link-read (rw (same, behind) at (second.ends some (omega arith))))

    pub two-bytes_above : 0 < b → k < (a - 128) + 128 * b → k < 16384 → None ≡ end_of (read_link k bytes at)
    two-bytes_above some high few = above k refusal.LinkRange (read_at bytes at) (go (dec_lt b 128))
      where
        go : Dec (b < 128) → (v next : ℕ) → read_at bytes at ≡ found v next → k < v
        go (yes small) v next e =
            let same : b % 128 ≡ b = omega arith in
            let there = rw same at (second.ends some small) ∙ e in
            omega (arith, parts there)
        go (no large) v next e = let on = second.again (omega arith) in omega (arith, at_least on v next e)

-- Something whose end is known was read; where none is known, it is refused.
record Ended {A : Type 0} (p : Parsed A) (end : ℕ) : Type 0 where
  item : A
  here : p ≡ parsed item end

ended : {A : Type 0} (p : Parsed A) (end : ℕ) → Some end ≡ end_of p → Ended p end
ended (parsed x next) end e = let same : next ≡ end = cc in record { item = x; here = ap (parsed x) same }
ended (fault why) end e = cc

unended : {A : Type 0} (p : Parsed A) → None ≡ end_of p → (why : Refusal) × (p ≡ fault why)
unended (parsed x next) e = cc
unended (fault why) e = (why, refl)

-- The last thing that is read decides the end.
end_last : {A B : Type 0} (f : A → B) (p : Parsed A) → end_of p ≡ end_of (and_then p λ x next. parsed (f x) next)
end_last f (parsed x next) = refl
end_last f (fault why) = refl

module _ (K : ℕ) (bytes : List ℕ) (at : ℕ) (there : at < length bytes) (pair : get_or bytes at 0 ≡ 0) where
  kind-read : read_kind bytes at ≡ parsed kind.Pair (at + 1)
  kind-read = pair_byte bytes at there pair

  pair-cell : end_of (read_cell K bytes at) ≡ pair_end K bytes at
  pair-cell = simp (eq-eqb _ _ pair)

  pub no_left : None ≡ end_of (read_link K bytes (at + 1)) → None ≡ pair_end K bytes at
  no_left e =
      let none = unended (read_link K bytes (at + 1)) e in
      sym (ap end_of (then-parsed _ kind-read ∙ then-fault _ none.1)) ∙ pair-cell

  module _ (behind-left : ℕ) (left : Some behind-left ≡ end_of (read_link K bytes (at + 1))) where
    pub no_right : None ≡ end_of (read_link K bytes behind-left) → None ≡ pair_end K bytes at
    no_right e =
        let l = ended (read_link K bytes (at + 1)) behind-left left in
        let none = unended (read_link K bytes behind-left) e in
        sym (ap end_of (then-parsed _ kind-read ∙ (then-parsed _ l.here ∙ then-fault _ none.1))) ∙ pair-cell

    pub pair_ends : (behind-right : ℕ) → Some behind-right ≡ end_of (read_link K bytes behind-left) → (end : Option ℕ)
        → end ≡ end_of (read_number bytes behind-right) → end ≡ pair_end K bytes at
    pair_ends behind-right right end e =
        let l = ended (read_link K bytes (at + 1)) behind-left left in
        let r = ended (read_link K bytes behind-left) behind-right right in
        e
        ∙ (end_last _ (read_number bytes behind-right)
        ∙ (sym (ap end_of (then-parsed _ kind-read ∙ (then-parsed _ l.here ∙ then-parsed _ r.here))) ∙ pair-cell))

-- Behind the end of a pair the next cell is read.
pub pair_placed : (K : ℕ) (bytes : List ℕ) (at end : ℕ) → Some end ≡ pair_end K bytes at → Ok end ≡ place_of (read_cell K bytes at)
pair_placed K bytes at end e = go (eqb (get_or bytes at 0) 0) e
  where
    go : (t : Bool) → Some end ≡ cond t (end_of (read_cell K bytes at)) None → Ok end ≡ place_of (read_cell K bytes at)
    go true h = sym (ap place_of (ended (read_cell K bytes at) end h).here)
    go false h = cc
