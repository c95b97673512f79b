-- The words of a line, a byte at a time: what is left of a line whose letter and first numbers are read.
use Prim.Native.Nat.{ℕ, ◌^◌, ◌<◌, ◌≤◌}
use mathlib.Core.Path.{◌≡◌, refl, sym, ◌∙◌}
use mathlib.Core.List.{List, [], ◌∷◌, ◌++◌, map, foldl, append_assoc}
use mathlib.Core.Bool.{Bool, true, false, cond, ◌&&◌}
use native.Mathlib.Omega.{arith}
use lib.Dec.{ltb}
use borrow.Author.Tests.{lt-ltb, le-ltb, ltb-true, ltb-false}
use Rattle.lines.specs.declared.Line.{Line}
use Rattle.std.specs.Prelude.{Option, None}
use Rattle.lines.specs.Lines.{is_space, first_word, later_words, is_digit, with_digit, decimal_value, all, is_number, command, line_of, parse_line}

-- Tests in another order: of the second before the others, it is known what it says.
when_true : (d t r a f : Bool) → t ≡ true → r ≡ (a && f) → (d && t && r) ≡ (d && a && f)
when_true true t r a f e same = rw e same
when_true false t r a f e same = refl

when_false : (d t r a f : Bool) → t ≡ false → f ≡ false → (d && t && r) ≡ (d && a && f)
when_false true t r true f e small = simp (e, small)
when_false true t r false f e small = simp e
when_false false t r a f e small = refl

same_either : {A : Type 0} (t : Bool) (x : A) → cond t x x ≡ x
same_either true x = refl
same_either false x = refl

-- The first byte of a line: a space ends the first word, another byte belongs to it.
module _ (b : ℕ) (bytes : List ℕ) where
  first_ends : is_space b ≡ true → first_word (b ∷ bytes) ≡ []
  unfolding first_word
  first_ends e = rw (first_word, e)

  first_longer : is_space b ≡ false → first_word (b ∷ bytes) ≡ b ∷ first_word bytes
  unfolding first_word
  first_longer e = rw (first_word, e)

  later_more : is_space b ≡ true → later_words (b ∷ bytes) ≡ first_word bytes ∷ later_words bytes
  unfolding later_words
  later_more e = rw (later_words, e)

  later_same : is_space b ≡ false → later_words (b ∷ bytes) ≡ later_words bytes
  unfolding later_words
  later_same e = rw (later_words, e)

-- Does the byte continue a number whose value so far is v?
abbrev pub is_next : ℕ → ℕ → Bool
is_next v b = is_digit b && ltb (with_digit v b) (2 ^ 32)

-- Is this the rest of a number whose value so far is v? It may be empty if the number has a digit.
unfoldable pub is_rest : Bool → ℕ → List ℕ → Bool
is_rest complete v [] = complete
is_rest complete v (b ∷ word) = is_next v b && is_rest true (with_digit v b) word

-- More digits make no number less.
grows : (v : ℕ) (word : List ℕ) → v ≤ foldl with_digit v word
grows v [] = omega arith
grows v (b ∷ word) = omega (arith, grows (with_digit v b) word)

-- The digits may be judged one by one and the value at each of them, or all digits first and then the value.
rest_all : (v : ℕ) (word : List ℕ) → v < 2 ^ 32 → is_rest true v word ≡ (all is_digit word && ltb (foldl with_digit v word) (2 ^ 32))
unfolding is_rest all
rest_all v [] small = sym (lt-ltb v _ small)
rest_all v (b ∷ word) small = go (ltb (with_digit v b) (2 ^ 32)) refl (rest_all (with_digit v b) word)
  where
    go : (t : Bool) → ltb (with_digit v b) (2 ^ 32) ≡ t
        → (with_digit v b < 2 ^ 32 → is_rest true (with_digit v b) word ≡ (all is_digit word && ltb (foldl with_digit (with_digit v b) word) (2 ^ 32)))
        → is_rest true v (b ∷ word) ≡ (all is_digit (b ∷ word) && ltb (foldl with_digit v (b ∷ word)) (2 ^ 32))
    go true e ih = when_true (is_digit b) _ _ _ _ e (ih (ltb-true _ _ e))
    go false e ih =
        when_false (is_digit b) _ _ _ _ e
        (le-ltb (foldl with_digit (with_digit v b) word) (2 ^ 32) (omega (arith, ltb-false (with_digit v b) (2 ^ 32) e, grows (with_digit v b) word)))

-- A number is the rest of one with no digit yet.
number-rest : (word : List ℕ) → is_number word ≡ is_rest false 0 word
unfolding is_number is_rest all
number-rest [] = refl
number-rest (b ∷ word) = sym (rest_all 0 (b ∷ word) (omega arith))

-- What a line says whose letter and first numbers are read, whose next number has the value v so far, and of which these bytes are left.
unfoldable pub rest_of : ℕ → List ℕ → Bool → ℕ → List ℕ → Option Line
rest_of letter numbers complete v bytes =
    cond (is_rest complete v (first_word bytes) && all is_number (later_words bytes))
    (command letter (numbers ++ foldl with_digit v (first_word bytes) ∷ map decimal_value (later_words bytes)))
    None

module _ (letter : ℕ) (numbers : List ℕ) where
  -- The line ends.
  pub rest_end : (complete : Bool) (v : ℕ) → rest_of letter numbers complete v [] ≡ cond complete (command letter (numbers ++ v ∷ [])) None
  unfolding rest_of first_word later_words is_rest all
  rest_end true v = refl
  rest_end false v = refl

  -- A space comes: the next number begins.
  pub rest_space : (v b : ℕ) (bytes : List ℕ) → is_space b ≡ true
      → rest_of letter numbers true v (b ∷ bytes) ≡ rest_of letter (numbers ++ v ∷ []) false 0 bytes
  unfolding rest_of is_rest all
  rest_space v b bytes e =
      rw (first_ends b bytes e, later_more b bytes e, number-rest (first_word bytes), append_assoc numbers (v ∷ []) _)

  -- A space where a number has no digit.
  pub rest-none : (v b : ℕ) (bytes : List ℕ) → is_space b ≡ true → rest_of letter numbers false v (b ∷ bytes) ≡ None
  unfolding rest_of is_rest
  rest-none v b bytes e = rw (first_ends b bytes e)

  -- Another byte comes.
  pub rest_byte : (complete : Bool) (v b : ℕ) (bytes : List ℕ) → is_space b ≡ false
      → rest_of letter numbers complete v (b ∷ bytes) ≡ cond (is_next v b) (rest_of letter numbers true (with_digit v b) bytes) None
  unfolding rest_of is_rest
  rest_byte complete v b bytes e = rw (first_longer b bytes e, later_same b bytes e) (go (is_next v b))
    where
      go : (t : Bool)
          → cond (t && is_rest true (with_digit v b) (first_word bytes) && all is_number (later_words bytes))
          (command letter (numbers ++ foldl with_digit (with_digit v b) (first_word bytes) ∷ map decimal_value (later_words bytes)))
          None
          ≡ cond t (rest_of letter numbers true (with_digit v b) bytes) None
      go true = refl
      go false = refl

-- A fifth number spoils the line.
pub rest_fifth : (letter x y z v b : ℕ) (bytes : List ℕ) → is_space b ≡ true
    → rest_of letter (x ∷ y ∷ z ∷ []) true v (b ∷ bytes) ≡ None
unfolding rest_of command
rest_fifth letter x y z v b bytes e =
    rest_space letter (x ∷ y ∷ z ∷ []) v b bytes e ∙ same_either (is_rest false 0 (first_word bytes) && all is_number (later_words bytes)) None

-- The first two bytes of a line: the letter and the space behind it. Anything else spoils the line.
module _ (b : ℕ) (bytes : List ℕ) where
  pub parse_space : is_space b ≡ true → parse_line (b ∷ bytes) ≡ None
  unfolding parse_line line_of
  parse_space e = rw (first_ends b bytes e)

  pub parse_letter : is_space b ≡ false → parse_line (b ∷ bytes) ≡ line_of (b ∷ first_word bytes) (later_words bytes)
  unfolding parse_line
  parse_letter e = rw (first_longer b bytes e, later_same b bytes e)

  pub line_space : (letter : ℕ) → is_space b ≡ true
      → line_of (letter ∷ first_word (b ∷ bytes)) (later_words (b ∷ bytes)) ≡ rest_of letter [] false 0 bytes
  unfolding line_of rest_of all
  line_space letter e = rw (first_ends b bytes e, later_more b bytes e, number-rest (first_word bytes))

  pub line-longer : (letter : ℕ) → is_space b ≡ false → line_of (letter ∷ first_word (b ∷ bytes)) (later_words (b ∷ bytes)) ≡ None
  unfolding line_of
  line-longer letter e = rw (first_longer b bytes e)
