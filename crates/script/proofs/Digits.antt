-- The digits of a number, read one after the other.
use Prim.Native.Nat.{ℕ, ◌+◌, ◌^◌, ◌<◌, ◌≤◌}
use Prim.Native.Char.{code}
use native.Mathlib.Omega.{arith}
use mathlib.Core.Path.{◌≡◌, refl, ap, sym, ◌∙◌}
use mathlib.Core.List.{List}
use mathlib.Core.Bool.{Bool, true, false, cond, ◌&&◌}
use lib.ListN.{length, get_or, drop}
use lib.Dec.{leb, ltb}
use borrow.Author.Tests.{ne_eqb, leb-true}
use Rattle.std.specs.Prelude.{Option, Some, None}
use Rattle.pool.proofs.Sizes.{both}
use Rattle.script.specs.declared.LineReader.{LineReader}
use Rattle.script.specs.declared.LineReader.TheVariants as reader
use Rattle.script.specs.declared.Numbers.{Numbers}
use Rattle.lines.specs.Lines.{is_digit, with_digit}
use Rattle.script.specs.Reader.{with_last, value_of, longer_of, digit_of, feed_of}
use Rattle.script.specs.Scripts.{next_line}
use Rattle.script.proofs.Scanning.{line_goes_on}

-- A byte that makes the number longer is a digit.
is_longer : (n : Numbers) (b v : ℕ) → Some v ≡ longer_of n b → (code "0" ≤ b) × (b ≤ code "9")
unfolding longer_of
is_longer n b v e = go (is_digit b) refl e
  where
    go : (t : Bool) → is_digit b ≡ t
        → Some v ≡ cond (t && ltb (with_digit (value_of n) b) (2 ^ 32)) (Some (with_digit (value_of n) b)) None → (code "0" ≤ b) × (b ≤ code "9")
    go true digit e =
        let t = both (leb (code "0") b) (leb b (code "9")) digit in
        (leb-true (code "0") b t.0, leb-true b (code "9") t.1)
    go false digit e = cc

feeds : (n : Numbers) (b v : ℕ) → Some v ≡ longer_of n b → feed_of (reader.Numbers n) b ≡ reader.Numbers (with_last n v)
unfolding feed_of digit_of
feeds n b v e =
    rw (ne_eqb b (code " ") (λ space. omega (arith, is_longer n b v e)))
    (ap (λ (r : Option ℕ). elim r as (λ _. LineReader) [ None ↦ reader.Bad | Some v ↦ reader.Numbers (with_last n v) ]) (sym e))

-- Where the number goes on, the reader finds behind the digit what it finds from there on.
pub digit_read : (n : Numbers) (bytes : List ℕ) (i v : ℕ) → i < length bytes → Some v ≡ longer_of n (get_or bytes i 0)
    → next_line (reader.Numbers (with_last n v)) (drop (i + 1) bytes) (i + 1) ≡ next_line (reader.Numbers n) (drop i bytes) i
digit_read n bytes i v inside e =
    ap (λ s. next_line s (drop (i + 1) bytes) (i + 1)) (sym (feeds n (get_or bytes i 0) v e))
    ∙ sym (line_goes_on (reader.Numbers n) bytes i inside (λ feed. omega (arith, is_longer n (get_or bytes i 0) v e)))
