-- A script goes on at a line and at the end of a part.
use Prim.Native.Nat.{ℕ, ◌+◌, ◌<◌, ◌≤◌}
use Prim.Native.Char.{code}
use mathlib.Core.Path.{◌≡◌, refl, sym, ◌∙◌, ap}
use mathlib.Core.List.{List, [], ◌∷◌, ◌++◌, append_assoc}
use mathlib.Core.Bool.{Bool, true, false}
use mathlib.Core.Logic.{◌⊎◌}
use native.Mathlib.Omega.{arith}
use lib.ListN.{length, take, drop, length-append}
use lib.Seq.{length-take-le, take-append_seam, take_at, drop-length}
use lib.Dec.{eqb}
use borrow.Author.Tests.{le-leb}
use Rattle.lines.specs.declared.Line.{Line}
use Rattle.script.specs.declared.LineReader.{LineReader}
use Rattle.script.specs.declared.Found.{Found}
use Rattle.script.specs.declared.Found.TheVariants as found
use Rattle.std.specs.Prelude.{Option, Some, is_some}
use Rattle.script.specs.Reader.{new_reader, feed_of, end_of}
use Rattle.script.specs.Scripts.{next_line}
use Rattle.replies.specs.Replies.{reply_room, reply_at}
use Rattle.script.proofs.Scanning.{parts_read}
use Rattle.interpreter.specs.Execute.{turn_of, pool_of, with_pool, execute_of, transcript}
use Rattle.runner.specs.Work.{waiting, remaining, GoesOn, HasRoom, LineRun, Advanced}
use Rattle.runner.specs.declared.Progress.{Progress}

-- the pool's words at the front
pool_front : (pool w : List ℕ) → pool_of (length pool) (with_pool pool w) ≡ pool
pool_front pool w =
    let inside : length pool ≤ length (with_pool pool w) = simp length-append (omega arith) in
    rw (le-leb (length pool) (length (with_pool pool w)) inside) (take-append_seam pool (drop (length pool) w))

-- a line that is run prints its turn's text, and leaves its turn's pool
pub record Ran (line : Option Line) (used : ℕ) (w text : List ℕ) (used' : ℕ) (w' : List ℕ) : Type 0 where
  pub text_is : text ≡ (turn_of (length w) line (pool_of used w)).0
  pub pool_is : pool_of used' w' ≡ (turn_of (length w) line (pool_of used w)).1

ran : (line : Option Line) (used : ℕ) (w text : List ℕ) (used' : ℕ) (w' : List ℕ) → (text, used', w') ≡ execute_of line used w → Ran line used w text used' w'
unfolding execute_of
ran line used w text used' w' e =
    let pool = (turn_of (length w) line (pool_of used w)).1 in
    let words : w' ≡ with_pool pool w = ap (λ (t : List ℕ × ℕ × List ℕ). t.2) e in
    let long : used' ≡ length pool = ap (λ (t : List ℕ × ℕ × List ℕ). t.1) e in
    record { text_is = ap (λ (t : List ℕ × ℕ × List ℕ). t.0) e; pool_is = rw (words, long) (pool_front pool w) }

-- a text that is written stands behind those that wait
pub record Stands (out : List ℕ) (put : ℕ) (text : List ℕ) (put' : ℕ) (out' : List ℕ) : Type 0 where
  pub stands : take put' out' ≡ take put out ++ text
  pub inside : put' ≤ length out

module _ (out : List ℕ) (put : ℕ) (text : List ℕ) (room : put + reply_room ≤ length out) where
  has_room : reply_at out put text ≡ (Some (put + length text), take put out ++ text ++ drop (put + length text) out)
  unfolding reply_at
  has_room = simp (le-leb (put + reply_room) (length out) room)

  stood : (put' : ℕ) (out' : List ℕ) → (Some put', out') ≡ reply_at out put text → length out' ≡ length out → Stands out put text put' out'
  stood put' out' e same =
      let both-are : ◌≡◌ {A = Option ℕ × List ℕ} (Some put', out') (Some (put + length text), take put out ++ text ++ drop (put + length text) out) = e ∙ has_room in
      let place : Some put' ≡ Some (put + length text) = ap (λ (t : Option ℕ × List ℕ). t.0) both-are in
      let behind : put' ≡ put + length text = cc in
      let bytes : out' ≡ take put out ++ text ++ drop (put + length text) out = ap (λ (t : Option ℕ × List ℕ). t.1) both-are in
      let front : length (take put out ++ text) ≡ put' = simp (length-append, length-take-le put out (omega arith)) (sym behind) in
      record {
        stands = rw bytes (take_at (take put out ++ text) (drop (put + length text) out) put' front);
        inside = omega (arith, front, same, ap length bytes ∙ length-append (take put out ++ text) (drop (put + length text) out));
      }

  pub replied : (r : Option ℕ) (out' : List ℕ) → (r, out') ≡ reply_at out put text → is_some r ≡ true
  replied r out' e = ap (λ (t : Option ℕ × List ℕ). is_some t.0) (e ∙ has_room)

-- the line that is run, and its reply
module _
    (line : Option Line)
    (next : ℕ)
    (w out : List ℕ)
    (p : Progress)
    (text : List ℕ)
    (used' : ℕ)
    (w' out' : List ℕ)
    (room : HasRoom out p)
    (turn : (text, used', w') ≡ execute_of line p.used w)
  where
    pub line-run :
        (s : LineReader) (put' : ℕ) → s ≡ new_reader → (Some put', out') ≡ reply_at out p.put text → length out' ≡ length out
        → LineRun line next w out p w' out' (record { used = used'; reader = s; at = next; put = put' })
    line-run s put' fresh e same =
        let is = ran line p.used w text used' w' turn in
        let there = stood out p.put text room put' out' e same in
        record {
          text = there.stands ∙ ap (λ (t : List ℕ). take p.put out ++ t) is.text_is;
          pool = is.pool_is;
          reader = fresh;
          behind = refl;
          inside = there.inside;
        }

-- a line feed stands behind where the reader stood
next-behind : (s : LineReader) (bytes : List ℕ) (at : ℕ) (line : Option Line) (next : ℕ) → next_line s bytes at ≡ found.Line line next → at < next
unfolding next_line
next-behind s [] at line next e = absurd (let z : ◌≡◌ {A = ℕ} 0 1 = cc in omega arith)
next-behind s (b ∷ bytes) at line next e = go (eqb b (code "\n")) (next-behind (feed_of s b) bytes (at + 1) line next) e
  where
    go : (t : Bool) → (next_line (feed_of s b) bytes (at + 1) ≡ found.Line line next → at + 1 < next)
        → elim t as (λ _. Found) [ true ↦ found.Line (end_of s) (at + 1) | false ↦ next_line (feed_of s b) bytes (at + 1) ] ≡ found.Line line next
        → at < next
    go true ih e = let behind : at + 1 ≡ next = cc in omega arith
    go false ih e = omega (arith, ih e)

-- a step in a part
module _ (bytes w out : List ℕ) (p : Progress) where
  pub advanced_line :
      (line : Option Line) (next : ℕ) (w' out' : List ℕ) (q : Progress) → next_line p.reader (drop p.at bytes) p.at ≡ found.Line line next
      → length w' ≡ length w → LineRun line next w out p w' out' q → Advanced bytes w out p w' out' q
  unfolding remaining transcript
  advanced_line line next w' out' q found long run =
      record {
        same = λ more. rw ((parts_read p.reader bytes more p.at).line line next found, run.text, run.pool, run.reader, run.behind, long) (append_assoc (waiting out p) (turn_of (length w) line (pool_of p.used w)).0 _);
        inside = run.inside;
        forward = λ _. rw run.behind (next-behind p.reader (drop p.at bytes) p.at line next found);
      }

  pub advanced_more :
      (t : LineReader) → next_line p.reader (drop p.at bytes) p.at ≡ found.More t → HasRoom out p
      → Advanced bytes w out p w out (record { used = p.used; reader = t; at = length bytes; put = p.put })
  unfolding remaining
  advanced_more t found room =
      record {
        same = λ more. simp ((parts_read p.reader bytes more p.at).more t found, drop-length bytes);
        inside = omega arith;
        forward = λ less. less;
      }

-- a part that is being worked on
pub record Going (bytes w₀ out₀ : List ℕ) (p₀ : Progress) (w out : List ℕ) (p : Progress) : Type 0 where
  pub words : length w ≡ length w₀
  pub room : length out ≡ length out₀
  pub same : GoesOn bytes w₀ out₀ p₀ w out p
  pub inside : p₀.put ≤ length out₀ → p.put ≤ length out₀
  pub further : (p ≡ p₀) ⊎ (p₀.at < p.at)
