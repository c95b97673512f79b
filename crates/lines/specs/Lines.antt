-- What a line of a script says (01, "Strips flown on paper"): "one call a line: a letter, then decimals below 2^32 after single spaces
-- (leading zeros allowed, ..)". A byte is its character's code.
use Rattle.std.specs.Prelude.{ℕ, ◌+◌, ◌-◌, ◌*◌, ◌^◌, Bool, true, false, cond, ◌&&◌, eqb, leb, ltb, Option, Some, None}
use Prim.Native.Char.{code}
use mathlib.Core.List.{List, [], ◌∷◌, map, foldl}
use Rattle.calls.specs.declared.Call.{Call}
use Rattle.calls.specs.declared.Call.TheVariants as call
use Rattle.lines.specs.declared.Line.{Line}
use Rattle.lines.specs.declared.Line.TheVariants as line

-- Is it a space?
abbrev pub is_space : ℕ → Bool
is_space b = eqb b (code " ")

-- A line is words with single spaces between them. The first word: what stands before the first space.
unfoldable pub first_word : List ℕ → List ℕ
first_word [] = []
first_word (b ∷ bytes) = elim (is_space b) [ true ↦ [] | false ↦ b ∷ first_word bytes ]

-- The words behind the first, one for each space: an empty one where two spaces stand together or the last byte is one.
unfoldable pub later_words : List ℕ → List (List ℕ)
later_words [] = []
later_words (b ∷ bytes) = elim (is_space b) [ true ↦ first_word bytes ∷ later_words bytes | false ↦ later_words bytes ]

-- Is it a digit?
abbrev pub is_digit : ℕ → Bool
is_digit b = leb (code "0") b && leb b (code "9")

-- Ten times the value of the digits before, and this one.
abbrev pub with_digit : ℕ → ℕ → ℕ
with_digit v b = 10 * v + (b - code "0")

-- The value of a decimal.
abbrev pub decimal_value : List ℕ → ℕ
decimal_value word = foldl with_digit 0 word

-- Every element of a list passes a test.
unfoldable pub all {ℓ} : {A : Type ℓ} → (A → Bool) → List A → Bool
all test [] = true
all test (x ∷ xs) = test x && all test xs

-- "decimals below 2^32": some digits, whose value is in range.
unfoldable pub is_number : List ℕ → Bool
is_number [] = false
is_number (b ∷ word) = all is_digit (b ∷ word) && ltb (decimal_value (b ∷ word)) (2 ^ 32)

-- A line that runs a call.
abbrev pub run : Call → Option Line
run c = Some (line.Run c)

-- What a letter with its numbers says, none where it says nothing: "f N is fresh, n new, c copy, z clear, l left, r right, L setleft, R setright, v value, V setvalue,
-- s same, g collect, arguments as above"; and for point, east and north "the letters are p, e and o, in that order" (02, S-8).
unfoldable pub command : ℕ → List ℕ → Option Line
command letter [] = cond (eqb letter (code "g")) (run call.Collect) None
command letter (x ∷ []) =
    cond (eqb letter (code "f")) (Some (line.Fresh x))
    (cond (eqb letter (code "z")) (run (call.Clear x))
    (cond (eqb letter (code "v")) (run (call.Value x))
    (cond (eqb letter (code "e")) (run (call.East x))
    (cond (eqb letter (code "o")) (run (call.North x)) None))))
command letter (x ∷ y ∷ []) =
    cond (eqb letter (code "c")) (run (call.Copy x y))
    (cond (eqb letter (code "l")) (run (call.Left x y))
    (cond (eqb letter (code "r")) (run (call.Right x y))
    (cond (eqb letter (code "L")) (run (call.SetLeft x y))
    (cond (eqb letter (code "R")) (run (call.SetRight x y))
    (cond (eqb letter (code "V")) (run (call.SetValue x y))
    (cond (eqb letter (code "s")) (run (call.Same x y)) None))))))
command letter (x ∷ y ∷ z ∷ []) = None
command letter (x ∷ y ∷ z ∷ v ∷ []) =
    cond (eqb letter (code "n")) (run (call.New x y z v))
    (cond (eqb letter (code "p")) (run (call.Point x y z v)) None)
command letter (x ∷ y ∷ z ∷ v ∷ more ∷ numbers) = None

-- What words say: the first is a letter, the others are its numbers.
unfoldable pub line_of : List ℕ → List (List ℕ) → Option Line
line_of [] words = None
line_of (letter ∷ []) words = cond (all is_number words) (command letter (map decimal_value words)) None
line_of (letter ∷ more ∷ word) words = None

-- What a line says, its line end left out. "A line of another form prints "bad"."
unfoldable pub parse_line : List ℕ → Option Line
parse_line bytes = line_of (first_word bytes) (later_words bytes)
