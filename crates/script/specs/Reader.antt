-- The line reader: how it goes on at each byte, and that in the end it says what `parse_line` says of the whole line.
use Rattle.std.specs.Prelude.{ℕ, ◌+◌, ◌-◌, ◌^◌, ◌≡◌, List, [], ◌∷◌, ◌++◌, Bool, true, false, cond, not, ◌&&◌, drop, slice_index, ltb, Option, Some, None, unwrap_or}
use mathlib.Core.List.{foldl}
use Rattle.lines.specs.Lines.{is_space, is_digit, with_digit, command, parse_line}
use Rattle.lines.specs.declared.Line.{Line}
use Rattle.script.specs.declared.LineReader.{LineReader}
use Rattle.script.specs.declared.LineReader.TheVariants as reader
use Rattle.script.specs.declared.Numbers.{Numbers}

-- Nothing is read.
abbrev pub new_reader : LineReader
new_reader = reader.Start

-- Behind a letter the first number begins, with no digit yet.
abbrev pub first_number : ℕ → Numbers
first_number c = record { letter = c; count = 0; before = 0 ∷ 0 ∷ 0 ∷ []; last = None }

-- Behind a last number of that value the next begins, with no digit yet.
abbrev pub next_number : Numbers → ℕ → Numbers
next_number n v =
    record {
      letter = n.letter;
      count = n.count + 1;
      before = slice_index n.before 1 ∷ slice_index n.before 2 ∷ v ∷ [];
      last = None;
    }

-- The last number has that value.
abbrev pub with_last : Numbers → ℕ → Numbers
with_last n v = record { letter = n.letter; count = n.count; before = n.before; last = Some v }

-- After a space: a number with a digit ends, and the next begins; the fifth spoils the line.
unfoldable pub space_of : Numbers → LineReader
space_of n =
    elim n.last [
      | None ↦ reader.Bad
      | Some v ↦ cond (ltb n.count 3) (reader.Numbers (next_number n v)) reader.Bad
    ]

-- The value of the last number so far.
abbrev pub value_of : Numbers → ℕ
value_of n = unwrap_or n.last 0

-- The last number with one more digit that keeps it below 2^32.
unfoldable pub longer_of : Numbers → ℕ → Option ℕ
longer_of n b =
    cond (is_digit b && ltb (with_digit (value_of n) b) (2 ^ 32))
    (Some (with_digit (value_of n) b))
    None

-- After a byte of a number: such a digit, or the line is spoilt.
unfoldable pub digit_of : Numbers → ℕ → LineReader
digit_of n b = elim (longer_of n b) [ None ↦ reader.Bad | Some v ↦ reader.Numbers (with_last n v) ]

-- After a byte: the first is the letter, and the second a space.
unfoldable pub feed_of : LineReader → ℕ → LineReader
feed_of reader.Start b = cond (is_space b) reader.Bad (reader.Letter b)
feed_of (reader.Letter c) b = cond (is_space b) (reader.Numbers (first_number c)) reader.Bad
feed_of (reader.Numbers n) b = cond (is_space b) (space_of n) (digit_of n b)
feed_of reader.Bad b = reader.Bad

-- The numbers before the last: of the latest three, as many as there are.
abbrev pub numbers_before : Numbers → List ℕ
numbers_before n = drop (3 - n.count) n.before

-- What the line says if it ends in a number: nothing where that has no digit.
unfoldable pub last_of : Numbers → Option Line
last_of n = elim n.last [ None ↦ None | Some v ↦ command n.letter (numbers_before n ++ v ∷ []) ]

-- What the line says if it ends here.
unfoldable pub end_of : LineReader → Option Line
end_of reader.Start = None
end_of (reader.Letter c) = command c []
end_of (reader.Numbers n) = last_of n
end_of reader.Bad = None

-- Has the line a byte?
unfoldable pub begun_of : LineReader → Bool
begun_of reader.Start = false
begun_of (reader.Letter c) = true
begun_of (reader.Numbers n) = true
begun_of reader.Bad = true

-- The reader that is fed the bytes of a line, one after the other, says in the end what the whole line says.
abbrev pub ReadsLines : Type 0
ReadsLines = (bytes : List ℕ) → end_of (foldl feed_of new_reader bytes) ≡ parse_line bytes

-- Is the list empty?
abbrev pub is_empty : List ℕ → Bool
is_empty [] = true
is_empty (b ∷ bytes) = false

-- A line has begun exactly if the reader was fed a byte.
abbrev pub KnowsBegun : Type 0
KnowsBegun = (bytes : List ℕ) → begun_of (foldl feed_of new_reader bytes) ≡ not (is_empty bytes)
