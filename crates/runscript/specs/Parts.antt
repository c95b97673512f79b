-- How runscript reads and prints a script in parts (01: "The program runscript reads standard input, one call a line ..", "It prints .."). No contract
-- can speak of what is read from standard input or written to standard output. These speak of the bytes that hold what was read, of those that are
-- handed over to be written, and of the words and the progress: what is printed, and then what the rest of the script prints, is what the script prints.
use Rattle.std.specs.Prelude.{ℕ, ◌<◌, ◌≤◌, ◌≡◌, List, [], ◌++◌, Bool, true, false, length, take, Result, Ok, Err}
use Rattle.pool.specs.Layout.{cell_limit, register_count, pool_length}
use Rattle.interpreter.specs.Execute.{printed}
use Rattle.runner.specs.Work.{remaining, handed, initial}
use Rattle.runner.specs.declared.Progress.{Progress}

-- A text stands at the start of the bytes.
abbrev pub StandsIn : List ℕ → List ℕ → Type 0
StandsIn bytes text = take (length text) bytes ≡ text

-- What the rest of the script prints, where its parts so far are read to their ends and `more` is what follows.
abbrev pub rest : List ℕ → Progress → List ℕ → List ℕ
rest w p more = remaining w [] (handed p) more

-- Lines of a part are run. `text` is what is written for them; it stands at the start of `out`. Then nothing waits, and whatever follows the part, what
-- the rest of the script prints follows the text. Where there is more of the part, some of it is read.
pub record LinesRun (bytes w : List ℕ) (p : Progress) (w' out' : List ℕ) (q : Progress) : Type 0 where
  pub text : List ℕ
  pub stands : StandsIn out' text
  pub follows : (more : List ℕ) → text ++ remaining w' bytes q more ≡ remaining w bytes p more
  pub none_waits : q.put ≡ 0
  pub forward : p.at < length bytes → p.at < q.at

-- A part is run. `text` is what is written for it, all together; whatever follows the part, what the rest of the script prints follows the text. The
-- part is run to its end if all is written; where writing fails, what is left of it is still to be run.
pub record PartRun (bytes w : List ℕ) (p : Progress) (w' : List ℕ) (q : Progress) (is_written : Bool) : Type 0 where
  pub text : List ℕ
  pub follows : (more : List ℕ) → text ++ remaining w' bytes q more ≡ rest w p (bytes ++ more)
  pub whole : is_written ≡ true → length bytes ≤ q.at

-- The input has ended ("the last line needs no line end"): all that the script still prints stands at the start of `out`, to be written.
abbrev pub Finished : List ℕ → Progress → List ℕ → Type 0
Finished w p out' = StandsIn out' (rest w p [])

-- What is read is run: a part, or, where nothing is read, the end of the input, behind which the script does not go on.
pub record ReadRun (bytes w : List ℕ) (p : Progress) (w' out' : List ℕ) (q : Progress) (goes_on : Bool) : Type 0 where
  pub part : 0 < length bytes → PartRun bytes w p w' q goes_on
  pub finished : length bytes ≡ 0 → Finished w p out' × (goes_on ≡ false)

-- Does the script go on? Not behind the end of the input, nor where reading or writing fails.
abbrev pub goes_on : {F : Type 0} → Result Bool F → Bool
goes_on (Ok more) = more
goes_on (Err failure) = false

-- A part of the script is read and run. It stands at the start of the buffer and is not empty; `text` is what is written for it.
pub record Continued (w : List ℕ) (p : Progress) (w' buffer' : List ℕ) (q : Progress) : Type 0 where
  pub part : List ℕ
  pub read : StandsIn buffer' part
  pub some : 0 < length part
  pub text : List ℕ
  pub follows : (more : List ℕ) → text ++ rest w' q more ≡ rest w p (part ++ more)

-- A script is run so far (what main's loop keeps): `script` is read, and `text` is written for it. Whatever follows, the text and then what the rest
-- prints is what the whole script prints.
pub record RunSoFar (w : List ℕ) (p : Progress) : Type 0 where
  pub script : List ℕ
  pub text : List ℕ
  pub follows : (more : List ℕ) → text ++ rest w p more ≡ printed (script ++ more)

-- It is so at the start, with words for the largest pool.
abbrev pub StartsRun : Type 0
StartsRun = (w : List ℕ) → length w ≡ pool_length register_count cell_limit → RunSoFar w initial

-- It stays so with each part that is read and run.
abbrev pub ContinuesRun : Type 0
ContinuesRun = (w : List ℕ) (p : Progress) (w' buffer : List ℕ) (q : Progress) → RunSoFar w p → Continued w p w' buffer q → RunSoFar w' q

-- At the end of the input: the text so far, and then what stands at the start of `out`, is what the script prints.
abbrev pub EndsRun : Type 0
EndsRun =
    (w : List ℕ) (p : Progress) (out : List ℕ) (run : RunSoFar w p) → Finished w p out
    → run.text ++ take (length (rest w p [])) out ≡ printed run.script
