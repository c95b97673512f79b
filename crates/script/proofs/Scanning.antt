-- Reading on in a part of a script, a byte at a time; and the lines of a whole script.
use Prim.Native.Nat.{ℕ, suc, ◌+◌, ◌-◌, ◌<◌}
use Prim.Native.Char.{code}
use mathlib.Core.Path.{◌≡◌, refl, ap, sym, ◌∙◌}
use mathlib.Core.List.{List, [], ◌∷◌, ◌++◌, map, foldl, foldl-append, append-nil, append_assoc}
use mathlib.Core.Bool.{Bool, true, false, cond, not}
use native.Mathlib.Numerals.{add-one}
use native.Mathlib.Omega.{arith}
use lib.ListN.{length, get_or, drop}
use lib.Seq.{drop-cons, drop-drop}
use borrow.Author.Tests.{ne_eqb}
use Rattle.std.specs.Prelude.{Option}
use Rattle.lines.specs.declared.Line.{Line}
use Rattle.script.specs.declared.LineReader.{LineReader}
use Rattle.script.specs.declared.Found.TheVariants as found
use Rattle.script.specs.Reader.{new_reader, feed_of, end_of, is_empty}
use Rattle.lines.specs.Lines.{parse_line}
use Rattle.script.specs.Scripts.{is_line_feed, next_line, start_line, lines_of, read_script, ReadsScripts, PartsRead}
use Rattle.script.proofs.Reading.{reads_lines, knows_begun}

-- A byte that is no line feed is fed.
pub line_goes_on : (s : LineReader) (bytes : List ℕ) (i : ℕ) → i < length bytes → (get_or bytes i 0 ≡ code "\n" → ⊥)
    → next_line s (drop i bytes) i ≡ next_line (feed_of s (get_or bytes i 0)) (drop (i + 1) bytes) (i + 1)
unfolding next_line
line_goes_on s bytes i inside other = rw (drop-cons bytes i 0 inside, next_line, ne_eqb (get_or bytes i 0) (code "\n") other, add-one)

-- The lines of a script whose first line starts with bytes that are read already.
abbrev start_with : List ℕ → List (List ℕ) → List (List ℕ)
start_with start [] = cond (is_empty start) [] (start ∷ [])
start_with start (line ∷ lines) = (start ++ line) ∷ lines

start_none : (lines : List (List ℕ)) → start_with [] lines ≡ lines
start_none [] = refl
start_none (line ∷ lines) = refl

start_more : (start : List ℕ) (b : ℕ) (lines : List (List ℕ)) → start_with (start ++ b ∷ []) lines ≡ start_with start (start_line b lines)
start_more [] b [] = refl
start_more (a ∷ start) b [] = refl
start_more start b (line ∷ lines) = ap (λ l. l ∷ lines) (append_assoc start (b ∷ []) line)

reads_end : (start : List ℕ) → read_script (foldl feed_of new_reader start) [] ≡ map parse_line (start_with start [])
unfolding read_script
reads_end start = rw (knows_begun start, reads_lines start) (go start)
  where
    go : (start : List ℕ) → cond (not (is_empty start)) (parse_line start ∷ []) [] ≡ map parse_line (start_with start [])
    go [] = refl
    go (b ∷ bytes) = refl

module _ (b : ℕ) (bytes : List ℕ) where
  lines_end : is_line_feed b ≡ true → lines_of (b ∷ bytes) ≡ [] ∷ lines_of bytes
  unfolding lines_of
  lines_end e = rw (lines_of, e)

  lines-longer : is_line_feed b ≡ false → lines_of (b ∷ bytes) ≡ start_line b (lines_of bytes)
  unfolding lines_of
  lines-longer e = rw (lines_of, e)

  script_end : (s : LineReader) → is_line_feed b ≡ true → read_script s (b ∷ bytes) ≡ end_of s ∷ read_script new_reader bytes
  unfolding read_script
  script_end s e = rw (read_script, e)

  script-longer : (s : LineReader) → is_line_feed b ≡ false → read_script s (b ∷ bytes) ≡ read_script (feed_of s b) bytes
  unfolding read_script
  script-longer s e = rw (read_script, e)

reads_from : (bytes start : List ℕ) → read_script (foldl feed_of new_reader start) bytes ≡ map parse_line (start_with start (lines_of bytes))
unfolding lines_of
reads_from [] start = reads_end start
reads_from (b ∷ bytes) start = go (is_line_feed b) refl (reads_from bytes)
  where
    go : (t : Bool) → is_line_feed b ≡ t
        → ((start : List ℕ) → read_script (foldl feed_of new_reader start) bytes ≡ map parse_line (start_with start (lines_of bytes)))
        → read_script (foldl feed_of new_reader start) (b ∷ bytes) ≡ map parse_line (start_with start (lines_of (b ∷ bytes)))
    go true e reads =
        let later = reads [] ∙ ap (map parse_line) (start_none (lines_of bytes)) in
        let first = reads_lines start ∙ ap parse_line (sym (append-nil start)) in
        script_end b bytes _ e
        ∙ (λ j. first j ∷ later j)
        ∙ sym (ap (λ lines. map parse_line (start_with start lines)) (lines_end b bytes e))
    go false e reads =
        script-longer b bytes _ e
        ∙ ap (λ s. read_script s bytes) (sym (foldl-append feed_of new_reader start (b ∷ [])))
        ∙ reads (start ++ b ∷ [])
        ∙ ap (map parse_line) (start_more start b (lines_of bytes) ∙ sym (ap (start_with start) (lines-longer b bytes e)))

pub reads_scripts : ReadsScripts
reads_scripts bytes = reads_from bytes [] ∙ ap (map parse_line) (start_none (lines_of bytes))

module _ (s : LineReader) (b : ℕ) (bytes : List ℕ) (at : ℕ) where
  next_end : is_line_feed b ≡ true → next_line s (b ∷ bytes) at ≡ found.Line (end_of s) (at + 1)
  unfolding next_line
  next_end e = rw (next_line, e)

  next-longer : is_line_feed b ≡ false → next_line s (b ∷ bytes) at ≡ next_line (feed_of s b) bytes (at + 1)
  unfolding next_line
  next-longer e = rw (next_line, e)

-- A line that is found ends behind the place where the part begins, and is the first of the script from there on.
record Finds (s : LineReader) (bytes rest : List ℕ) (at : ℕ) (l : Option Line) (next : ℕ) : Type 0 where
  past : at < next
  says : read_script s (bytes ++ rest) ≡ l ∷ read_script new_reader (drop (next - at) bytes ++ rest)

finds : (bytes rest : List ℕ) (s : LineReader) (at : ℕ) (l : Option Line) (next : ℕ)
    → next_line s bytes at ≡ found.Line l next → Finds s bytes rest at l next
unfolding next_line
finds [] rest s at l next h = let z : ◌≡◌ {A = ℕ} 0 1 = cc in absurd (omega arith)
finds (b ∷ bytes) rest s at l next h = go (is_line_feed b) refl (finds bytes rest)
  where
    go : (t : Bool) → is_line_feed b ≡ t
        → ((s : LineReader) (at : ℕ) (l : Option Line) (next : ℕ) → next_line s bytes at ≡ found.Line l next → Finds s bytes rest at l next)
        → Finds s (b ∷ bytes) rest at l next
    go true e more =
        let same = sym (next_end s b bytes at e) ∙ h in
        let place : at + 1 ≡ next = cc in
        let said : end_of s ≡ l = cc in
        let one : next - at ≡ 1 = omega arith in
        record { past = omega arith; says = rw one (script_end b (bytes ++ rest) s e ∙ ap (λ x. x ∷ read_script new_reader (bytes ++ rest)) said) }
    go false e more =
        let f = more (feed_of s b) (at + 1) l next (sym (next-longer s b bytes at e) ∙ h) in
        let less : next - at ≡ suc (next - (at + 1)) = omega (arith, f.past) in
        record { past = omega (arith, f.past); says = rw less (script-longer b (bytes ++ rest) s e ∙ f.says) }

finds_more : (bytes rest : List ℕ) (s t : LineReader) (at : ℕ) → next_line s bytes at ≡ found.More t → read_script s (bytes ++ rest) ≡ read_script t rest
unfolding next_line
finds_more [] rest s t at h =
    let same : s ≡ t = cc in
    ap (λ r. read_script r rest) same
finds_more (b ∷ bytes) rest s t at h = go (is_line_feed b) refl (finds_more bytes rest (feed_of s b) t (at + 1))
  where
    go : (test : Bool) → is_line_feed b ≡ test
        → (next_line (feed_of s b) bytes (at + 1) ≡ found.More t → read_script (feed_of s b) (bytes ++ rest) ≡ read_script t rest)
        → read_script s (b ∷ bytes ++ rest) ≡ read_script t rest
    go true e more =
        let same = sym (next_end s b bytes at e) ∙ h in
        let z : ◌≡◌ {A = ℕ} 0 1 = cc in
        absurd (omega arith)
    go false e more = script-longer b (bytes ++ rest) s e ∙ more (sym (next-longer s b bytes at e) ∙ h)

pub parts_read : PartsRead
parts_read s bytes rest at =
    record {
      line = λ l next h.
          let f = finds (drop at bytes) rest s at l next h in
          let place : at + (next - at) ≡ next = omega (arith, f.past) in
          f.says ∙ ap (λ d. l ∷ read_script new_reader (d ++ rest)) (drop-drop (next - at) at bytes ∙ ap (λ i. drop i bytes) place);
      more = λ t h. finds_more (drop at bytes) rest s t at h;
    }
