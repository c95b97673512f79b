-- What a line of a script does to the pool, and what is printed for it (01, "Strips flown on paper").
use Rattle.std.specs.Prelude.{ℕ, List, [], ◌∷◌, ◌++◌, map, Bool, cond, ◌&&◌, length, take, drop, leb, ltb, Option, Some, None}
use Rattle.pool.specs.Layout.{cell_limit, register_count, pool_length}
use Rattle.pool.specs.Retain.{fresh_words}
use Rattle.answers.specs.Outcome.{answered, refused}
use Rattle.calls.specs.Calls.{call_of}
use Rattle.lines.specs.declared.Line.{Line}
use Rattle.lines.specs.declared.Line.TheVariants as line
use Rattle.replies.specs.declared.Reply.TheVariants as reply
use Rattle.lines.specs.Lines.{parse_line}
use Rattle.script.specs.Scripts.{lines_of}
use Rattle.replies.specs.Replies.{outcome_text, reply_text}

-- Is there a pool of n cells, and room for its words?
abbrev pub fits : ℕ → ℕ → Bool
fits room n = ltb 0 n && leb n cell_limit && leb (pool_length register_count n) room

-- The words of that pool, if there is one.
abbrev pub size_of : ℕ → ℕ → Option ℕ
size_of room n = cond (fits room n) (Some (pool_length register_count n)) None

-- What a line prints, and the pool's words afterwards, where `room` words are lent for it; no words are no pool. "A line of another form prints
-- "bad"." "f N is fresh"; "a refused f keeps the pool"; "runscript still prints ok alone for f" (02, S-6). A call prints what its answer says.
-- "Before an accepted f, all calls give "no 1"": no pool has no words (question 1).
abbrev pub turn_of : ℕ → Option Line → List ℕ → List ℕ × List ℕ
turn_of room None pool = (reply_text reply.Bad, pool)
turn_of room (Some (line.Fresh n)) pool =
    cond (fits room n) (outcome_text (answered []), fresh_words register_count n []) (outcome_text (refused 1), pool)
turn_of room (Some (line.Run call)) pool = (outcome_text (call_of call pool).0, (call_of call pool).1)

-- How many words are the pool's: `used`, or none where there are fewer.
abbrev pub used_of : ℕ → ℕ → ℕ
used_of len used = cond (leb used len) used 0

-- The pool's words.
abbrev pub pool_of : ℕ → List ℕ → List ℕ
pool_of used w = take (used_of (length w) used) w

-- The pool is put at the front of the words.
abbrev pub with_pool : List ℕ → List ℕ → List ℕ
with_pool pool w = pool ++ drop (length pool) w

-- A line on the words lent, of which the pool has the first `used`: what is printed, how many words are the pool's afterwards, and the words.
unfoldable pub execute_of : Option Line → ℕ → List ℕ → List ℕ × ℕ × List ℕ
execute_of line used w =
    let turn = turn_of (length w) line (pool_of used w) in
    (turn.0, length turn.1, with_pool turn.1 w)

-- What lines print, one after the other.
unfoldable pub transcript : ℕ → List (Option Line) → List ℕ → List ℕ
transcript room [] pool = []
transcript room (line ∷ lines) pool = let turn = turn_of room line pool in turn.0 ++ transcript room lines turn.1

-- What a script prints, from no pool on, with words for the largest pool.
abbrev pub printed : List ℕ → List ℕ
printed script = transcript (pool_length register_count cell_limit) (map parse_line (lines_of script)) []
