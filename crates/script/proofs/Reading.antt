-- The line reader says in the end what the whole line says.
use Prim.Native.Nat.{ℕ, suc, ◌+◌, ◌-◌, ◌<◌, ◌≤◌}
use mathlib.Core.Path.{◌≡◌, refl, ap, sym, ◌∙◌}
use mathlib.Core.List.{List, [], ◌∷◌, ◌++◌, foldl}
use mathlib.Core.Bool.{Bool, true, false, cond}
use native.Mathlib.Omega.{arith}
use lib.ListN.{length, get_or, drop}
use lib.Seq.{drop-append-le}
use lib.Dec.{ltb}
use borrow.Author.Tests.{ltb-true, ltb-false}
use Rattle.std.specs.Prelude.{Option, Some, None, is_some, unwrap_or}
use Rattle.lines.specs.declared.Line.{Line}
use Rattle.script.specs.declared.LineReader.{LineReader}
use Rattle.script.specs.declared.LineReader.TheVariants as reader
use Rattle.script.specs.declared.Numbers.{Numbers}
use Rattle.lines.specs.Lines.{is_space, first_word, later_words, with_digit, command, all, line_of, parse_line}
use Rattle.script.specs.Reader.{first_number, next_number, with_last, value_of, space_of, longer_of, digit_of, feed_of, numbers_before, last_of, end_of, begun_of, ReadsLines, KnowsBegun}
use Rattle.script.proofs.Words.{rest_of, is_next, rest_end, rest_space, rest-none, rest_byte, rest_fifth, parse_space, parse_letter, line_space, line-longer}

-- A bad line stays bad.
stays_bad : (bytes : List ℕ) → foldl feed_of reader.Bad bytes ≡ reader.Bad
unfolding feed_of
stays_bad [] = refl
stays_bad (b ∷ bytes) = stays_bad bytes

says_bad : (bytes : List ℕ) → end_of (foldl feed_of reader.Bad bytes) ≡ None
unfolding end_of
says_bad bytes = ap end_of (stays_bad bytes)

-- Three numbers at most stand before the last, and there is room for three.
record InNumber (n : Numbers) : Type 0 where
  most : n.count ≤ 3
  three : n.before ≡ get_or n.before 0 0 ∷ get_or n.before 1 0 ∷ get_or n.before 2 0 ∷ []

-- Has the last number a digit?
abbrev complete : Numbers → Bool
complete n = is_some n.last

-- What a byte makes of such numbers.
module _ (n : Numbers) (i : InNumber n) where
  before_next : (v : ℕ) → n.count < 3 → numbers_before (next_number n v) ≡ numbers_before n ++ v ∷ []
  before_next v less =
      let e : 3 - n.count ≡ suc (3 - (n.count + 1)) = omega arith in
      sym
      (sym (drop-append-le (3 - n.count) n.before (v ∷ []) (omega (arith, ap length i.three)))
      ∙ ap (λ (numbers : List ℕ). drop (3 - n.count) (numbers ++ v ∷ [])) i.three
      ∙ ap (λ k. drop k (get_or n.before 0 0 ∷ get_or n.before 1 0 ∷ get_or n.before 2 0 ∷ v ∷ [])) e)

  on_space : (b : ℕ) → is_space b ≡ true → feed_of (reader.Numbers n) b ≡ space_of n
  unfolding feed_of
  on_space b e = rw e

  on_byte : (b : ℕ) → is_space b ≡ false
      → feed_of (reader.Numbers n) b ≡ cond (is_next (value_of n) b) (reader.Numbers (with_last n (with_digit (value_of n) b))) reader.Bad
  unfolding feed_of digit_of longer_of
  on_byte b e = rw e (go (is_next (value_of n) b))
    where
      go : (t : Bool)
          → elim (cond t (Some (with_digit (value_of n) b)) None) as (λ _. LineReader) [ None ↦ reader.Bad | Some v ↦ reader.Numbers (with_last n v) ]
          ≡ cond t (reader.Numbers (with_last n (with_digit (value_of n) b))) reader.Bad
      go true = refl
      go false = refl

-- What such numbers say of the rest of the line.
abbrev rest_from : Numbers → List ℕ → Option Line
rest_from n bytes = rest_of n.letter (numbers_before n) (complete n) (value_of n) bytes

abbrev Reads : List ℕ → Type 0
Reads bytes = (n : Numbers) → InNumber n → end_of (foldl feed_of (reader.Numbers n) bytes) ≡ rest_from n bytes

reads_end : Reads []
unfolding end_of last_of
reads_end n i = go n.last ∙ sym (rest_end n.letter (numbers_before n) (complete n) (value_of n))
  where
    go : (last : Option ℕ)
        → elim last as (λ _. Option Line) [ None ↦ None | Some v ↦ command n.letter (numbers_before n ++ v ∷ []) ]
        ≡ cond (is_some last) (command n.letter (numbers_before n ++ unwrap_or last 0 ∷ [])) None
    go None = refl
    go (Some v) = refl

reads_space : (b : ℕ) (bytes : List ℕ) → Reads bytes → is_space b ≡ true → Reads (b ∷ bytes)
unfolding space_of
reads_space b bytes reads e n i = ap (λ r. end_of (foldl feed_of r bytes)) (on_space n i b e) ∙ go n.last refl (ltb n.count 3) refl
  where
    go : (last : Option ℕ) → n.last ≡ last → (t : Bool) → ltb n.count 3 ≡ t
        → end_of (foldl feed_of (space_of n) bytes) ≡ rest_from n (b ∷ bytes)
    go None f t h = rw f (says_bad bytes ∙ sym (rest-none _ _ _ b bytes e))
    go (Some v) f true h =
        let less = ltb-true n.count 3 h in
        rw (f, h)
        (reads (next_number n v) (record { most = omega arith; three = refl })
        ∙ ap (λ numbers. rest_of n.letter numbers false 0 bytes) (before_next n i v less)
        ∙ sym (rest_space n.letter (numbers_before n) v b bytes e))
    go (Some v) f false h =
        let full : 3 - n.count ≡ 0 = omega (arith, ltb-false n.count 3 h) in
        rw (f, h, full, i.three) (says_bad bytes ∙ sym (rest_fifth n.letter _ _ _ v b bytes e))

reads_byte : (b : ℕ) (bytes : List ℕ) → Reads bytes → is_space b ≡ false → Reads (b ∷ bytes)
reads_byte b bytes reads e n i =
    ap (λ r. end_of (foldl feed_of r bytes)) (on_byte n i b e)
    ∙ go (is_next (value_of n) b)
    ∙ sym (rest_byte n.letter (numbers_before n) (complete n) (value_of n) b bytes e)
  where
    go : (t : Bool)
        → end_of (foldl feed_of (cond t (reader.Numbers (with_last n (with_digit (value_of n) b))) reader.Bad) bytes)
        ≡ cond t (rest_from (with_last n (with_digit (value_of n) b)) bytes) None
    go true = reads (with_last n (with_digit (value_of n) b)) (record { most = i.most; three = i.three })
    go false = says_bad bytes

reads_number : (bytes : List ℕ) → Reads bytes
reads_number [] = reads_end
reads_number (b ∷ bytes) = go (is_space b) refl (reads_number bytes)
  where
    go : (t : Bool) → is_space b ≡ t → Reads bytes → Reads (b ∷ bytes)
    go true e reads = reads_space b bytes reads e
    go false e reads = reads_byte b bytes reads e

-- The reader at the letter, and at the first number.
on_first : (b : ℕ) → feed_of reader.Start b ≡ cond (is_space b) reader.Bad (reader.Letter b)
unfolding feed_of
on_first b = refl

on_second : (letter b : ℕ) → feed_of (reader.Letter letter) b ≡ cond (is_space b) (reader.Numbers (first_number letter)) reader.Bad
unfolding feed_of
on_second letter b = refl

reads_first_number : (letter : ℕ) (bytes : List ℕ)
    → end_of (foldl feed_of (reader.Numbers (first_number letter)) bytes) ≡ rest_of letter [] false 0 bytes
reads_first_number letter bytes = reads_number bytes _ (record { most = omega arith; three = refl })

reads_letter : (letter : ℕ) (bytes : List ℕ)
    → end_of (foldl feed_of (reader.Letter letter) bytes) ≡ line_of (letter ∷ first_word bytes) (later_words bytes)
unfolding end_of line_of first_word later_words all
reads_letter letter [] = refl
reads_letter letter (b ∷ bytes) = ap (λ r. end_of (foldl feed_of r bytes)) (on_second letter b) ∙ go (is_space b) refl
  where
    go : (t : Bool) → is_space b ≡ t
        → end_of (foldl feed_of (cond (is_space b) (reader.Numbers (first_number letter)) reader.Bad) bytes)
        ≡ line_of (letter ∷ first_word (b ∷ bytes)) (later_words (b ∷ bytes))
    go true e = rw e (reads_first_number letter bytes) ∙ sym (line_space b bytes letter e)
    go false e = rw e (says_bad bytes) ∙ sym (line-longer b bytes letter e)

pub reads_lines : ReadsLines
unfolding end_of parse_line line_of first_word
reads_lines [] = refl
reads_lines (b ∷ bytes) = ap (λ r. end_of (foldl feed_of r bytes)) (on_first b) ∙ go (is_space b) refl
  where
    go : (t : Bool) → is_space b ≡ t
        → end_of (foldl feed_of (cond (is_space b) reader.Bad (reader.Letter b)) bytes) ≡ parse_line (b ∷ bytes)
    go true e = rw e (says_bad bytes) ∙ sym (parse_space b bytes e)
    go false e = rw e (reads_letter b bytes) ∙ sym (parse_letter b bytes e)

-- A line that was fed a byte has begun.
picks : (t : Bool) (x y : LineReader) → begun_of x ≡ true → begun_of y ≡ true → begun_of (cond t x y) ≡ true
picks true x y left right = left
picks false x y left right = right

spaced : (n : Numbers) → begun_of (space_of n) ≡ true
unfolding space_of begun_of
spaced n = go n.last
  where
    go : (last : Option ℕ)
        → begun_of (elim last as (λ _. LineReader) [ None ↦ reader.Bad | Some v ↦ cond (ltb n.count 3) (reader.Numbers (next_number n v)) reader.Bad ]) ≡ true
    go None = refl
    go (Some v) = picks (ltb n.count 3) _ _ refl refl

digit-begun : (n : Numbers) (b : ℕ) → begun_of (digit_of n b) ≡ true
unfolding digit_of begun_of
digit-begun n b = go (longer_of n b)
  where
    go : (v : Option ℕ) → begun_of (elim v as (λ _. LineReader) [ None ↦ reader.Bad | Some v ↦ reader.Numbers (with_last n v) ]) ≡ true
    go None = refl
    go (Some v) = refl

fed : (s : LineReader) (b : ℕ) → begun_of (feed_of s b) ≡ true
unfolding feed_of begun_of
fed reader.Start b = picks (is_space b) _ _ refl refl
fed (reader.Letter c) b = picks (is_space b) _ _ refl refl
fed (reader.Numbers n) b = picks (is_space b) _ _ (spaced n) (digit-begun n b)
fed reader.Bad b = refl

stays_begun : (bytes : List ℕ) (s : LineReader) → begun_of s ≡ true → begun_of (foldl feed_of s bytes) ≡ true
stays_begun [] s begun = begun
stays_begun (b ∷ bytes) s begun = stays_begun bytes (feed_of s b) (fed s b)

pub knows_begun : KnowsBegun
unfolding begun_of
knows_begun [] = refl
knows_begun (b ∷ bytes) = stays_begun bytes (feed_of reader.Start b) (fed reader.Start b)
