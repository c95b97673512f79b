-- Writing a number a group at a time: what is left to write always gives the same bytes in the end.
use Prim.Native.Nat.{ℕ, ◌+◌, ◌/◌, ◌%◌, ◌^◌, ◌<◌, ◌≤◌}
use mathlib.Core.Path.{◌≡◌, ap, sym, ◌∙◌}
use mathlib.Core.List.{List, ◌++◌}
use native.Mathlib.Numerals.{add-one}
use native.Mathlib.Omega.{arith}
use lib.ListN.{length, take, drop, set, length-set}
use lib.Seq.{sets, sets-eq}
use Rattle.leb128.specs.Leb128.{encode}
use Rattle.leb128.proofs.Encoding.{encode-last, encode-more}

-- On the way of writing v into out₀ at a place: `rest` is left to write into `out`, at `i`.
pub record Writing (out₀ : List ℕ) (at v : ℕ) (out : List ℕ) (rest i : ℕ) : Type 0 where
  pub fits : rest < 2 ^ 32
  pub same : length out ≡ length out₀
  pub next : i + length (encode rest) ≡ at + length (encode v)
  pub bytes : sets out i (encode rest) ≡ sets out₀ at (encode v)

module _ {out₀ : List ℕ} {at v : ℕ} {out : List ℕ} {rest i : ℕ} (w : Writing out₀ at v out rest i) where
  -- A group with its top bit set is written, and what stands above it is left.
  pub turn : 128 ≤ rest → Writing out₀ at v (set out i (rest % 128 + 128)) (rest / 128) (i + 1)
  turn large =
      let e = encode-more rest w.fits large in
      record {
        fits = omega (arith, w.fits);
        same = simp length-set w.same;
        next = omega (arith, w.next, ap length e);
        bytes = rw add-one (sym (ap (sets out i) e) ∙ w.bytes);
      }

  -- The last group is written.
  pub written : rest < 128 → at + length (encode v) ≤ length out₀
      → (i + 1 ≡ at + length (encode v)) × (set out i rest ≡ take at out₀ ++ encode v ++ drop (at + length (encode v)) out₀)
  written small room =
      let e = encode-last rest small in
      (omega (arith, w.next, ap length e), sym (ap (sets out i) e) ∙ w.bytes ∙ sets-eq (encode v) out₀ at room)
