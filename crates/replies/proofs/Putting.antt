-- Putting texts one behind the other.
use Prim.Native.Nat.{ℕ, suc, ◌+◌, ◌-◌, ◌^◌, ◌<◌, ◌≤◌}
use mathlib.Core.Path.{◌≡◌, refl, ap, sym, ◌∙◌}
use mathlib.Core.List.{List, [], ◌∷◌, ◌++◌, append_assoc}
use native.Mathlib.Omega.{arith}
use Prim.Native.Char.{code}
use lib.ListN.{length, set, get_or, take, drop, length-append}
use Rattle.std.proofs.lemmas.List.{take_rest}
use lib.Seq.{sets, sets-eq, drop-drop}
use borrow.Rule.Slice.PartMut.{put_mid}
use borrow.Author.Tests.{le-leb, lt-leb}
use Rattle.std.specs.Prelude.{Some, None}
use Rattle.replies.proofs.Decimals.{decimal-most}
use Rattle.replies.specs.Replies.{after_space, spaced, PutText, reply_room, reply_at}

sets_append : (out : List ℕ) (at : ℕ) (text more : List ℕ) → sets out at (text ++ more) ≡ sets (sets out at text) (at + length text) more
sets_append out at [] more = ap (λ i. sets out i more) (omega arith)
sets_append out at (b ∷ text) more =
    sets_append (set out at b) (suc at) text more ∙ ap (λ i. sets (sets (set out at b) (suc at) text) i more) (omega arith)

pub puts : {out : List ℕ} {at : ℕ} {text more : List ℕ} {next last : ℕ} {middle after : List ℕ}
    → PutText out at text next middle → PutText middle next more last after → PutText out at (text ++ more) last after
puts {out} {at} {text} {more} first second =
    record {
      behind = omega (arith, length-append text more);
      bytes =
          second.bytes
          ∙ (λ j. sets (first.bytes j) (first.behind j) more)
          ∙ sym (sets_append out at text more);
    }

-- A text that is copied into its part of the bytes is put there.
pub copied : (out : List ℕ) (at : ℕ) (text part : List ℕ) → part ≡ text → at + length text ≤ length out
    → PutText out at text (at + length text) (put_mid at (at + length text - at) out part)
copied out at text part same inside =
    let long : at + length text - at ≡ length text = omega arith in
    record {
      behind = refl;
      bytes =
          rw (same, long)
          (ap (λ (rest : List ℕ). take at out ++ (text ++ rest)) (drop-drop (length text) at out)
          ∙ sym (append_assoc (take at out) text (drop (at + length text) out))
          ∙ sym (sets-eq text out at inside));
    }

-- How long the numbers of a reply are.
pub length-spaced : (x : ℕ) (numbers : List ℕ) → length (spaced (x ∷ numbers)) ≡ length (after_space x) + length (spaced numbers)
unfolding spaced
length-spaced x numbers = length-append (after_space x) (spaced numbers)

-- The numbers of a slice, the first and the others.
pub spaced-none : (numbers : List ℕ) → length numbers ≡ 0 → spaced numbers ≡ code "\n" ∷ []
unfolding spaced
spaced-none [] none = refl
spaced-none (x ∷ numbers) none = absurd (omega arith)

pub spaced-some : (numbers : List ℕ) → 1 ≤ length numbers
    → spaced numbers ≡ after_space (get_or numbers 0 0) ++ spaced (take (length numbers - 1) (drop 1 numbers))
unfolding spaced
spaced-some [] some = absurd (omega arith)
spaced-some (x ∷ numbers) some = ap (λ rest. after_space x ++ spaced rest) (sym (take_rest (x ∷ numbers) 1))

pub length-some : (numbers : List ℕ) → 1 ≤ length numbers
    → length (spaced numbers) ≡ length (after_space (get_or numbers 0 0)) + length (spaced (take (length numbers - 1) (drop 1 numbers)))
length-some numbers some =
    ap length (spaced-some numbers some)
    ∙ length-append (after_space (get_or numbers 0 0)) (spaced (take (length numbers - 1) (drop 1 numbers)))

-- No line of a word of two letters and up to two numbers is longer than the room.
pub none-most : length (spaced []) ≤ 23
unfolding spaced
none-most = omega arith

pub one-most : (x : ℕ) → x < 2 ^ 32 → length (spaced (x ∷ [])) ≤ 23
unfolding spaced
one-most x fits = omega (arith, length-spaced x [], decimal-most x fits)

pub two-most : (x y : ℕ) → x < 2 ^ 32 → y < 2 ^ 32 → length (spaced (x ∷ y ∷ [])) ≤ 23
unfolding spaced
two-most x y fits fits' = omega (arith, length-spaced x (y ∷ []), length-spaced y [], decimal-most x fits, decimal-most y fits')

-- A text that is put where there is room is written, and none where there is too little.
pub written : {out : List ℕ} {at : ℕ} {text : List ℕ} {next : ℕ} {after : List ℕ}
    → PutText out at text next after → length text ≤ reply_room → at + reply_room ≤ length out → (Some next, after) ≡ reply_at out at text
unfolding reply_at
written {out} {at} {text} put fits room =
    let bytes = put.bytes ∙ sets-eq text out at (omega arith) in
    rw (le-leb (at + reply_room) (length out) room) (λ j. (Some (put.behind j), bytes j))

pub no_room : (out : List ℕ) (at : ℕ) (text : List ℕ) → length out < at + reply_room → (None, out) ≡ reply_at out at text
unfolding reply_at
no_room out at text short = rw (lt-leb (at + reply_room) (length out) short)
