-- A script is run in parts, and its replies are written in parts: together they print what the whole script prints.
use Rattle.std.specs.Prelude.{ℕ, ◌+◌, ◌<◌, ◌≤◌, ◌≡◌, List, [], ◌∷◌, ◌++◌, true, false, ◌⊎◌, length, take, drop, Option}
use Prim.Native.Char.{code}
use Rattle.pool.specs.Layout.{cell_limit, register_count, pool_length}
use Rattle.lines.specs.declared.Line.{Line}
use Rattle.script.specs.Reader.{new_reader, begun_of}
use Rattle.script.specs.Scripts.{read_script}
use Rattle.replies.specs.Replies.{reply_room}
use Rattle.interpreter.specs.Execute.{turn_of, pool_of, transcript, printed}
use Rattle.runner.specs.declared.Progress.{Progress}

-- The replies that wait to be written.
abbrev pub waiting : List ℕ → Progress → List ℕ
waiting out p = take p.put out

-- What the rest of the script prints, where `more` follows the part that is read.
unfoldable pub remaining : List ℕ → List ℕ → Progress → List ℕ → List ℕ
remaining w bytes p more = transcript (length w) (read_script p.reader (drop p.at bytes ++ more)) (pool_of p.used w)

-- A script goes on: what waits, and then what the rest prints, stays the same, whatever follows the part.
abbrev pub GoesOn : List ℕ → List ℕ → List ℕ → Progress → List ℕ → List ℕ → Progress → Type 0
GoesOn bytes w out p w' out' q = (more : List ℕ) → waiting out' q ++ remaining w' bytes q more ≡ waiting out p ++ remaining w bytes p more

-- There is room for a reply behind those that wait.
abbrev pub HasRoom : List ℕ → Progress → Type 0
HasRoom out p = p.put + reply_room ≤ length out

-- A line is run: its reply is put behind those that wait, and a new line begins behind it.
pub record LineRun (line : Option Line) (next : ℕ) (w out : List ℕ) (p : Progress) (w' out' : List ℕ) (q : Progress) : Type 0 where
  pub text : waiting out' q ≡ waiting out p ++ (turn_of (length w) line (pool_of p.used w)).0
  pub pool : pool_of q.used w' ≡ (turn_of (length w) line (pool_of p.used w)).1
  pub reader : q.reader ≡ new_reader
  pub behind : q.at ≡ next
  pub inside : q.put ≤ length out

-- A step in a part: the script goes on, and some of the part is read.
pub record Advanced (bytes w out : List ℕ) (p : Progress) (w' out' : List ℕ) (q : Progress) : Type 0 where
  pub same : GoesOn bytes w out p w' out' q
  pub inside : q.put ≤ length out
  pub forward : p.at < length bytes → p.at < q.at

-- A part is worked on: the script goes on, up to the part's end or until there is no room for a reply; where there is more of the part, and room,
-- some of it is read.
pub record Worked (bytes w out : List ℕ) (p : Progress) (w' out' : List ℕ) (q : Progress) : Type 0 where
  pub same : GoesOn bytes w out p w' out' q
  pub inside : p.put ≤ length out → q.put ≤ length out
  pub ends : (length bytes ≤ q.at) ⊎ (HasRoom out q → ⊥)
  pub forward : p.at < length bytes → HasRoom out p → p.at < q.at

-- Nothing is read, there is no pool, and nothing waits.
abbrev pub initial : Progress
initial = record { used = 0; reader = new_reader; at = 0; put = 0 }

-- At the start, with words for the largest pool, the rest of the script is all of it.
abbrev pub StartsWhole : Type 0
StartsWhole =
    (w bytes more : List ℕ) → length w ≡ pool_length register_count cell_limit
    → remaining w bytes initial more ≡ printed (bytes ++ more)

-- Handed on to the next part: it is read from its first byte on, and nothing waits.
abbrev pub handed : Progress → Progress
handed p = record { used = p.used; reader = p.reader; at = 0; put = 0 }

-- Parts join: where a part is read to its end, the rest of the script goes on in the next.
abbrev pub PartsJoin : Type 0
PartsJoin =
    (w bytes following more : List ℕ) (p : Progress) → length bytes ≤ p.at
    → remaining w bytes p (following ++ more) ≡ remaining w following (handed p) more

-- At the end of the input a line that has begun ends as it does at a line feed; without one nothing more is printed.
pub record Ends (w : List ℕ) (p : Progress) : Type 0 where
  pub begun : begun_of p.reader ≡ true → remaining w [] (handed p) [] ≡ remaining w (code "\n" ∷ []) (handed p) []
  pub over : begun_of p.reader ≡ false → remaining w [] (handed p) [] ≡ []

-- So it is at every progress, whatever the words hold.
abbrev pub LastLineEnds : Type 0
LastLineEnds = (w : List ℕ) (p : Progress) → Ends w p
