-- The lines of a script, read in parts that end anywhere.
use Rattle.std.specs.Prelude.{ℕ, ◌+◌, ◌≡◌, List, [], ◌∷◌, ◌++◌, map, Bool, true, false, cond, drop, eqb, Option}
use Prim.Native.Char.{code}
use Rattle.lines.specs.Lines.{parse_line}
use Rattle.script.specs.Reader.{new_reader, feed_of, end_of, begun_of}
use Rattle.lines.specs.declared.Line.{Line}
use Rattle.script.specs.declared.LineReader.{LineReader}
use Rattle.script.specs.declared.Found.{Found}
use Rattle.script.specs.declared.Found.TheVariants as found

-- Is it a line feed?
abbrev pub is_line_feed : ℕ → Bool
is_line_feed b = eqb b (code "\n")

-- What a reader finds in bytes of which the first has the place `at`: the end of its line, or none.
unfoldable pub next_line : LineReader → List ℕ → ℕ → Found
next_line s [] at = found.More s
next_line s (b ∷ bytes) at =
    elim (is_line_feed b) [
      | true ↦ found.Line (end_of s) (at + 1)
      | false ↦ next_line (feed_of s b) bytes (at + 1)
    ]

-- A byte in front of the first line.
abbrev pub start_line : ℕ → List (List ℕ) → List (List ℕ)
start_line b [] = (b ∷ []) ∷ []
start_line b (line ∷ lines) = (b ∷ line) ∷ lines

-- The lines of a script, without their line feeds: "the last line needs no line end", and a last line feed starts no new line.
unfoldable pub lines_of : List ℕ → List (List ℕ)
lines_of [] = []
lines_of (b ∷ bytes) = elim (is_line_feed b) [ true ↦ [] ∷ lines_of bytes | false ↦ start_line b (lines_of bytes) ]

-- What a reader says of the rest of a script: at each line feed its line ends, and a new one begins; at the end the last, if it has a byte.
unfoldable pub read_script : LineReader → List ℕ → List (Option Line)
read_script s [] = cond (begun_of s) (end_of s ∷ []) []
read_script s (b ∷ bytes) =
    elim (is_line_feed b) [
      | true ↦ end_of s ∷ read_script new_reader bytes
      | false ↦ read_script (feed_of s b) bytes
    ]

-- A reader says of a script what its lines say.
abbrev pub ReadsScripts : Type 0
ReadsScripts = (bytes : List ℕ) → read_script new_reader bytes ≡ map parse_line (lines_of bytes)

-- Parts of a script may be read one after the other, whatever follows them: a line that is found is the next, and behind it a new reader goes on;
-- where no line ends, the reader that is handed back goes on in the next part.
pub record ReadsInParts (s : LineReader) (bytes rest : List ℕ) (at : ℕ) : Type 0 where
  pub line :
      (line : Option Line) (next : ℕ) → next_line s (drop at bytes) at ≡ found.Line line next
      → read_script s (drop at bytes ++ rest) ≡ line ∷ read_script new_reader (drop next bytes ++ rest)
  pub more : (t : LineReader) → next_line s (drop at bytes) at ≡ found.More t → read_script s (drop at bytes ++ rest) ≡ read_script t rest

-- So it is of every reader, part and place.
abbrev pub PartsRead : Type 0
PartsRead = (s : LineReader) (bytes rest : List ℕ) (at : ℕ) → ReadsInParts s bytes rest at
