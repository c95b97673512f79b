-- The proofs of the statements in `specs/Leb128`.
use Prim.Native.Nat.{ℕ, zero, suc, ◌+◌, ◌-◌, ◌*◌, ◌/◌, ◌%◌, ◌^◌, ◌<◌, ◌≤◌}
use mathlib.Core.Path.{◌≡◌, refl, ap, sym, ◌∙◌}
use mathlib.Core.List.{List, [], ◌∷◌, ◌++◌}
use native.Mathlib.Nat.{pow-suc, one-le-pow}
use native.Mathlib.Decide.{dec_lt}
use native.Mathlib.Omega.{arith}
use lib.ListN.{length, drop}
use lib.Seq.{get_or-drop, drop-drop}
use Rattle.leb128.specs.Leb128.{found, below, read_further, read_groups, read_at, groups, encode, Bytes, Between, ReadsEncodings, OneToFiveBytes}
use Rattle.leb128.proofs.Encoding.{groups-last, groups-more, encode-size}
use Rattle.leb128.proofs.Decoding.{first_last, first_more, first_none, read_fifth, read-last, read_more, Reads, fifth, last, above, parts, unmapped, number_reads}

-- A number of 128 or more is read by its lowest group and what stands above it.
joined : (more v : ℕ) (at : ℕ) → below (v % 128 + 128) (found (v / 128) (at + 1 + length (groups more (v / 128)))) ≡ found v (at + suc (length (groups more (v / 128))))
joined more v at =
    let value : (v % 128 + 128 - 128) + 128 * (v / 128) ≡ v = omega arith in
    let next : at + 1 + length (groups more (v / 128)) ≡ at + suc (length (groups more (v / 128))) = omega arith in
    λ j. found (value j) (next j)

-- The groups of a number, at any place and before any bytes, are read as that number: behind a first group, if it is not 0.
further : (more v : ℕ) (after : List ℕ) (at : ℕ) → 0 < v → v < 16 * 128 ^ more
    → read_further more (groups more v ++ after) at ≡ found v (at + length (groups more v))
unfolding groups
further zero v after at some fits = read_fifth v after at some (omega arith)
further (suc more) v after at some fits =
    elim (dec_lt v 128) [
      | yes small ↦ rw (groups-last (suc more) v small) (read-last v after at more some small)
      | no large ↦
          rw (groups-more more v (omega arith))
          (read_more _ _ at more (omega arith)
          ∙ ap (below (v % 128 + 128)) (further more (v / 128) after (at + 1) (omega arith) (omega (arith, pow-suc 128 more)))
          ∙ joined more v at)
    ]

-- And from the first group on.
reads : (v : ℕ) (after : List ℕ) (at : ℕ) → v < 2 ^ 32 → read_groups (encode v ++ after) at ≡ found v (at + length (encode v))
unfolding encode
reads v after at fits =
    elim (dec_lt v 128) [
      | yes small ↦ rw (groups-last 4 v small) (first_last v after at small)
      | no large ↦
          rw (groups-more 3 v (omega arith))
          (first_more _ _ at (omega arith)
          ∙ ap (below (v % 128 + 128)) (further 3 (v / 128) after (at + 1) (omega arith) (omega arith))
          ∙ joined 3 v at)
    ]

-- What was read is those groups: they stand at the front of the bytes.
record Front (more : ℕ) (bytes : List ℕ) (at v next : ℕ) : Type 0 where
  range : v < 16 * 128 ^ more
  behind : next ≡ at + length (groups more v)
  here : bytes ≡ groups more v ++ drop (length (groups more v)) bytes

-- A single group.
single : (more b : ℕ) (bytes : List ℕ) (at : ℕ) → b < 128 → b < 16 * 128 ^ more → Front more (b ∷ bytes) at b (at + 1)
single more b bytes at small fits =
    record { range = fits; behind = rw (groups-last more b small) refl; here = rw (groups-last more b small) refl }

-- One group more below them.
under : {more b : ℕ} {bytes : List ℕ} {at v next high : ℕ} → 128 ≤ b → b < 256 → v ≡ (b - 128) + 128 * high → 0 < high
    → Front more bytes (at + 1) high next → Front (suc more) (b ∷ bytes) at v next
under {more} {b} {bytes} {at} {v} {next} {high} large byte value some f =
    let low : v % 128 + 128 ≡ b = omega arith in
    let quotient : v / 128 ≡ high = omega arith in
    let e : groups (suc more) v ≡ b ∷ groups more high = groups-more more v (omega arith) ∙ λ j. low j ∷ groups more (quotient j) in
    record {
      range = omega (arith, f.range, pow-suc 128 more);
      behind = rw e (omega (arith, f.behind));
      here = rw e (ap (λ l. b ∷ l) f.here);
    }

exact : {more : ℕ} {bytes : List ℕ} {at v next : ℕ} → Reads more bytes at v next → Bytes bytes → (0 < v) × Front more bytes at v next
exact (fifth small ends) byte = (omega arith, rw (ends.0, ends.1) (single 0 _ _ _ (omega arith) (omega arith)))
exact (last {more = more} small ends) byte =
    (omega arith, rw (ends.0, ends.1) (single (suc more) _ _ _ small.1 (omega (arith, pow-suc 128 more, one-le-pow more 128 (omega arith)))))
exact (above large value r) byte =
    let f = exact r (λ i. byte (suc i)) in (omega (arith, f.0), under large (byte 0) value f.0 f.1)

-- And so from the first group on.
front : (bytes : List ℕ) (at v next : ℕ) → Bytes bytes → read_groups bytes at ≡ found v next → Front 4 bytes at v next
front [] at v next byte e = let z : ◌≡◌ {A = ℕ} 0 1 = cc (first_none at) in absurd (omega arith)
front (b ∷ bytes) at v next byte e =
    elim (dec_lt b 128) [
      | yes small ↦
          let ends = parts (sym (first_last b bytes at small) ∙ e) in
          rw (ends.0, ends.1) (single 4 b bytes at small (omega arith))
      | no large ↦
          let high = unmapped _ (read_further 3 bytes (at + 1)) v next (sym (first_more b bytes at (omega arith)) ∙ e) in
          let f = exact (number_reads 3 bytes (at + 1) high.0 next high.1) (λ i. byte (suc i)) in
          under (omega arith) (byte 0) high.2 f.0 f.1
    ]

pub encoding_read : (bytes : List ℕ) (at v next : ℕ) → v < 2 ^ 32 → Between bytes at next (encode v) → read_at bytes at ≡ found v next
unfolding read_at
encoding_read bytes at v next fits h = ap (λ l. read_groups l at) h.from ∙ reads v (drop next bytes) at fits ∙ ap (found v) (sym h.behind)

pub reads_encodings : ReadsEncodings
unfolding read_at encode
reads_encodings bytes at v next byte = (
  λ e.
      let f = front (drop at bytes) at v next (λ i. rw get_or-drop (byte (at + i))) e in
      let rest = drop-drop (length (groups 4 v)) at bytes ∙ ap (λ k. drop k bytes) (sym f.behind) in
      (f.range, record { behind = f.behind; from = f.here ∙ ap (λ l. groups 4 v ++ l) rest }),
  λ h. encoding_read bytes at v next h.0 h.1,
)

-- The groups of a number that is not too large are bytes.
bytes-cons : (b : ℕ) (bytes : List ℕ) → b < 256 → Bytes bytes → Bytes (b ∷ bytes)
bytes-cons b bytes byte all zero = byte
bytes-cons b bytes byte all (suc i) = all i

bytes_one : {b : ℕ} → b < 256 → Bytes (b ∷ [])
bytes_one {b} byte = bytes-cons b [] byte (λ i. omega arith)

groups-bytes : (more v : ℕ) → v < 256 * 128 ^ more → Bytes (groups more v)
unfolding groups
groups-bytes zero v fits = bytes_one (omega arith)
groups-bytes (suc more) v fits =
    elim (dec_lt v 128) [
      | yes small ↦ rw (groups-last (suc more) v small) (bytes_one (omega arith))
      | no large ↦
          let above = groups-bytes more (v / 128) (omega (arith, pow-suc 128 more)) in
          rw (groups-more more v (omega arith)) (bytes-cons _ (groups more (v / 128)) (omega arith) above)
    ]

pub one_to_five_bytes : OneToFiveBytes
unfolding encode
one_to_five_bytes v fits =
    record { some = (encode-size v).0; most = (encode-size v).1; bytes = groups-bytes 4 v (omega arith) }
