-- The kind of a cell, as the code asks it.
use Prim.Native.Nat.{ℕ, ◌+◌, ◌<◌, ◌≤◌}
use native.Mathlib.Omega.{arith}
use native.Mathlib.Decide.{dec_le}
use mathlib.Core.Path.{◌≡◌, refl, sym, ap, ◌∙◌}
use mathlib.Core.List.{List}
use lib.ListN.{length, get_or, length-drop}
use lib.Seq.{get_or-drop}
use borrow.Author.Tests.{lt-leb}
use Rattle.leb128.specs.Leb128.{Bytes, read_at}
use Rattle.leb128.proofs.Encoding.{encode-last}
use Rattle.leb128.proofs.Reading.{first}
use Rattle.leb128.proofs.Theorems.{reads_encodings}
use Rattle.answers.specs.declared.Refusal.TheVariants as refusal
use Rattle.pool.specs.declared.Kind.TheVariants as kind
use Rattle.image.specs.Image.{parsed, fault, at_most, read_number, read_kind}
use Rattle.image.proofs.Reading.{then-fault}
use Rattle.image.proofs.Images.{number_there}

module _ (bytes : List ℕ) (at : ℕ) where
  -- A byte of 0 is the kind of a pair, and one of 1 that of a point.
  pub pair_byte : at < length bytes → get_or bytes at 0 ≡ 0 → read_kind bytes at ≡ parsed kind.Pair (at + 1)
  pair_byte there none =
      let byte = (first bytes at there (omega arith)).ends (omega arith) in
      rw (← byte, none) refl

  pub point_byte : at < length bytes → get_or bytes at 0 ≡ 1 → read_kind bytes at ≡ parsed kind.Point (at + 1)
  point_byte there one =
      let byte = (first bytes at there (omega arith)).ends (omega arith) in
      rw (← byte, one) refl

  -- A number of 0 or 1 is its byte.
  low_byte : Bytes bytes → (v next : ℕ) → read_number bytes at ≡ parsed v next → v ≤ 1 → (at < length bytes) × (get_or bytes at 0 ≡ v)
  low_byte byte v next e low =
      let spelled = (reads_encodings bytes at v next byte).0 (number_there (read_at bytes at) v next e) in
      let here = rw (encode-last v (omega arith)) at spelled.1.from in
      let same : at ≡ at + 0 = omega arith in (
        omega (arith, ap length here, length-drop at bytes),
        ap (λ (i : ℕ). get_or bytes i 0) same ∙ sym (get_or-drop at bytes 0 0) ∙ ap (λ (l : List ℕ). get_or l 0 0) here,
      )

  -- So where another byte stands, or none, there is no kind.
  pub no_kind : Bytes bytes → (at < length bytes → 2 ≤ get_or bytes at 0) → (v next : ℕ) → read_number bytes at ≡ parsed v next
      → read_kind bytes at ≡ fault refusal.KindNumber
  no_kind byte other v next e =
      elim (dec_le v 1) [
        | yes low ↦ let b = low_byte byte v next e low in absurd (omega (arith, b.1, other b.0))
        | no high ↦ then-fault _ (ap (at_most 1 refusal.KindNumber) e ∙ simp (lt-leb v 1 (omega arith)))
      ]
