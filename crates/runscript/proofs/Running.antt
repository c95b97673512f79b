-- What is printed in turns and in parts, put together.
use Prim.Native.Nat.{ℕ, ◌<◌, ◌≤◌}
use Prim.Native.Char.{code}
use mathlib.Core.Path.{◌≡◌, refl, sym, ◌∙◌, ap}
use mathlib.Core.List.{List, [], ◌∷◌, ◌++◌, append_assoc, append-nil}
use mathlib.Core.Bool.{Bool, true, false, false≢true}
use native.Mathlib.Omega.{arith}
use lib.ListN.{length, take, length-append}
use lib.Seq.{length-take-le}
use Rattle.script.specs.Reader.{end_of, begun_of}
use Rattle.script.specs.Scripts.{read_script}
use Rattle.replies.specs.Replies.{reply_room}
use Rattle.interpreter.specs.Execute.{transcript, printed}
use Rattle.runner.specs.Work.{remaining, handed, Worked}
use Rattle.runner.specs.declared.Progress.{Progress}
use Rattle.runner.proofs.Whole.{starts_whole, parts_join, last-line_ends}
use Rattle.runscript.specs.Parts.{StandsIn, rest, LinesRun, PartRun, Finished, ReadRun, Continued, StartsRun, ContinuesRun, EndsRun}

-- the first bytes stand at the start
front_stands : (n : ℕ) (bytes : List ℕ) → n ≤ length bytes → StandsIn bytes (take n bytes)
front_stands n bytes inside = rw (length-take-le n bytes inside)

-- what waits is written
module _ (bytes w out : List ℕ) (p : Progress) (w' out' : List ℕ) (q : Progress) where
  pub lines-run :
      Worked bytes w out p w' out' q → p.put ≡ 0 → reply_room ≤ length out → length out' ≡ length out
      → LinesRun bytes w p w' out' (record { used = q.used; reader = q.reader; at = q.at; put = 0 })
  unfolding remaining
  lines-run worked none room same =
      record {
        text = take q.put out';
        stands = front_stands q.put out' (omega (arith, worked.inside (omega arith)));
        follows = λ more. worked.same more ∙ rw none;
        none_waits = refl;
        forward = λ unread. worked.forward unread (omega arith);
      }

-- a part that is being run, from p₀ on
pub record Running (bytes w₀ : List ℕ) (p₀ : Progress) (w : List ℕ) (p : Progress) : Type 0 where
  pub none_waits : p.put ≡ 0
  pub text : List ℕ
  pub follows : (more : List ℕ) → text ++ remaining w bytes p more ≡ remaining w₀ bytes p₀ more

module _ (bytes w₀ : List ℕ) (p₀ : Progress) where
  pub running_on :
      (w : List ℕ) (p : Progress) (w' out' : List ℕ) (q : Progress) → Running bytes w₀ p₀ w p → LinesRun bytes w p w' out' q
      → Running bytes w₀ p₀ w' q
  running_on w p w' out' q before lines =
      record {
        none_waits = lines.none_waits;
        text = before.text ++ lines.text;
        follows = λ more. rw append_assoc (ap (λ (t : List ℕ). before.text ++ t) (lines.follows more) ∙ before.follows more);
      }

-- a part is what follows the parts before it
part_start : (bytes w : List ℕ) (p : Progress) (more : List ℕ) → remaining w bytes (handed p) more ≡ rest w p (bytes ++ more)
part_start bytes w p more = sym (parts_join w [] bytes more (handed p) (omega arith))

-- behind a part's end the rest of the script follows
part_end : (bytes w : List ℕ) (p : Progress) (more : List ℕ) → length bytes ≤ p.at → remaining w bytes p more ≡ rest w p more
part_end bytes w p more past = parts_join w bytes [] more p past

pub part-run :
    (bytes w₀ : List ℕ) (start : Progress) (w : List ℕ) (p : Progress) (is_written : Bool) → Running bytes w₀ (handed start) w p
    → (is_written ≡ true → length bytes ≤ p.at) → PartRun bytes w₀ start w p is_written
part-run bytes w₀ start w p is_written running whole =
    record {
      text = running.text;
      follows = λ more. running.follows more ∙ part_start bytes w₀ start more;
      whole = whole;
    }

-- a line feed more prints a reply more
feed_prints :
    (w : List ℕ) (p : Progress)
    → remaining w (code "\n" ∷ []) (handed p) [] ≡ remaining w (code "\n" ∷ []) (handed p) (code "\n" ∷ []) → ⊥
unfolding remaining read_script transcript begun_of end_of
feed_prints w p e = omega (arith, simp length-append at (ap length e))

-- the last line: a line feed ends it, and then nothing is left to print
module _ (w : List ℕ) (p : Progress) (w' out' : List ℕ) (q : Progress) (lines : LinesRun (code "\n" ∷ []) w (handed p) w' out' q) where
  read_whole : length (code "\n" ∷ []) ≤ q.at
  read_whole = lines.forward (omega arith)

  nothing_left : rest w' q [] ≡ []
  nothing_left = go (begun_of q.reader) refl
    where
      go : (t : Bool) → begun_of q.reader ≡ t → rest w' q [] ≡ []
      go false over = (last-line_ends w' q).over over
      go true begun =
          absurd
          (feed_prints w p
          (sym (lines.follows [])
          ∙ ap (λ (t : List ℕ). lines.text ++ t) (part_end (code "\n" ∷ []) w' q [] read_whole ∙ (last-line_ends w' q).begun begun ∙ sym (parts_join w' (code "\n" ∷ []) (code "\n" ∷ []) [] q read_whole))
          ∙ lines.follows (code "\n" ∷ [])))

  pub last_line : begun_of p.reader ≡ true → Finished w p out'
  last_line begun =
      let all : rest w p [] ≡ lines.text =
      (last-line_ends w p).begun begun
      ∙ sym (lines.follows [])
      ∙ ap (λ (t : List ℕ). lines.text ++ t) (part_end (code "\n" ∷ []) w' q [] read_whole ∙ nothing_left)
      ∙ append-nil lines.text
      in
      rw all lines.stands

pub no_line : (w : List ℕ) (p : Progress) (out : List ℕ) → begun_of p.reader ≡ false → Finished w p out
no_line w p out over = rw ((last-line_ends w p).over over)

-- a part that is read and run
pub continued :
    (n : ℕ) (buffer w : List ℕ) (p : Progress) (w' out' : List ℕ) (q : Progress) (goes_on : Bool) → n ≤ length buffer
    → ReadRun (take n buffer) w p w' out' q goes_on → goes_on ≡ true → Continued w p w' buffer q
continued n buffer w p w' out' q goes_on inside read-run more = go (take n buffer) refl
  where
    go : (bytes : List ℕ) → take n buffer ≡ bytes → Continued w p w' buffer q
    go [] none = absurd (false≢true (sym (read-run.finished (rw none)).1 ∙ more))
    go (b ∷ bytes) some =
        let long : 0 < length (take n buffer) = rw some (omega arith) in
        let part = read-run.part long in
        record {
          part = take n buffer;
          read = front_stands n buffer inside;
          some = long;
          text = part.text;
          follows = λ rest_of. ap (λ (t : List ℕ). part.text ++ t) (sym (part_end (take n buffer) w' q rest_of (part.whole more))) ∙ part.follows rest_of;
        }

-- the script so far
pub so_far_start : StartsRun
so_far_start w long = record { script = []; text = []; follows = λ more. starts_whole w [] more long }

pub so_far_on : ContinuesRun
so_far_on w p w' buffer q before on =
    record {
      script = before.script ++ on.part;
      text = before.text ++ on.text;
      follows = λ more. simp append_assoc (ap (λ (t : List ℕ). before.text ++ t) (on.follows more) ∙ before.follows (on.part ++ more));
    }

pub so_far_ends : EndsRun
so_far_ends w p out run finished = ap (λ (t : List ℕ). run.text ++ t) finished ∙ run.follows [] ∙ ap printed (append-nil run.script)
