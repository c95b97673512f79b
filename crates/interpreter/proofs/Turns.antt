-- What a line does to the words lent, from what the calls on the pool's part of them say.
use Prim.Native.Nat.{ℕ, ◌≤◌}
use mathlib.Core.Path.{◌≡◌, refl, sym, ◌∙◌, ap}
use mathlib.Core.List.{List, [], ◌++◌}
use mathlib.Core.Bool.{Bool, true, false, cond, ◌&&◌}
use native.Mathlib.Omega.{arith}
use lib.ListN.{length, take, drop, take-append-drop}
use lib.Seq.{length-take-le}
use lib.Dec.{leb, ltb}
use borrow.Author.Tests.{lt-ltb, le-leb, ltb-true, leb-true}
use Rattle.pool.specs.Layout.{cell_limit, register_count, pool_length, cell_count_of_length}
use Rattle.answers.specs.Outcome.{Outcome, answered, refused}
use Rattle.pool.specs.Fresh.{fresh_of}
use Rattle.pool.specs.Retain.{fresh_words}
use Rattle.pool.proofs.Sizes.{both, of_length}
use Rattle.pool.proofs.FreshPool.{fresh-exact}
use Rattle.calls.specs.declared.Call.{Call}
use Rattle.calls.specs.Calls.{call_of}
use Rattle.std.specs.Prelude.{Option, Some, None}
use Rattle.lines.specs.declared.Line.{Line}
use Rattle.lines.specs.declared.Line.TheVariants as line
use Rattle.replies.specs.declared.Reply.TheVariants as reply
use Rattle.replies.specs.Replies.{outcome_text, reply_text}
use Rattle.interpreter.specs.Execute.{fits, size_of, used_of, execute_of}

-- a pool that fits: its bounds
pub record Fitting (room n : ℕ) : Type 0 where
  pub least : 1 ≤ n
  pub most : n ≤ cell_limit
  pub inside : pool_length register_count n ≤ room

fitting : (room n : ℕ) → fits room n ≡ true → Fitting room n
fitting room n e =
    let outer = both (ltb 0 n && leb n cell_limit) (leb (pool_length register_count n) room) e in
    let inner = both (ltb 0 n) (leb n cell_limit) outer.0 in
    record {
      least = ltb-true 0 n inner.0;
      most = leb-true n cell_limit inner.1;
      inside = leb-true (pool_length register_count n) room outer.1;
    }

fitting_fits : (room n : ℕ) → Fitting room n → fits room n ≡ true
fitting_fits room n f = simp (lt-ltb 0 n f.least, le-leb n cell_limit f.most, le-leb (pool_length register_count n) room f.inside)

-- a size that is given is that of a pool that fits
pub record Sized (room n size : ℕ) : Type 0 where
  pub fitting : Fitting room n
  pub exact : size ≡ pool_length register_count n

pub sized : (room n : ℕ) {size : ℕ} → Some size ≡ size_of room n → Sized room n size
sized room n {size} is = go (fits room n) refl is
  where
    go : (t : Bool) → fits room n ≡ t → Some size ≡ cond t (Some (pool_length register_count n)) None → Sized room n size
    go true e is = record { fitting = fitting room n e; exact = cc }
    go false e is = cc

pub used-inside : (len used : ℕ) {pool : ℕ} → pool ≡ used_of len used → pool ≤ len
used-inside len used is = rw is (go (leb used len) refl)
  where
    go : (t : Bool) → leb used len ≡ t → cond t used 0 ≤ len
    go true e = leb-true used len e
    go false e = omega arith

module _ (w : List ℕ) (used : ℕ) (inside : used ≤ length w) where
  used-same : used_of (length w) used ≡ used
  used-same = simp (le-leb _ _ inside)

  pub bad_line : (reply_text reply.Bad, used, w) ≡ execute_of None used w
  unfolding execute_of
  bad_line = simp (used-same, length-take-le used w inside, take-append-drop used w)

  pub fresh-refused : (n : ℕ) → None ≡ size_of (length w) n → (outcome_text (refused 1), used, w) ≡ execute_of (Some (line.Fresh n)) used w
  unfolding execute_of
  fresh-refused n none = go (fits (length w) n) refl none
    where
      go : (t : Bool) → fits (length w) n ≡ t → None ≡ cond t (Some (pool_length register_count n)) None
          → (outcome_text (refused 1), used, w) ≡ execute_of (Some (line.Fresh n)) used w
      go true e none = cc
      go false e none = simp (e, used-same, length-take-le used w inside, take-append-drop used w)

  -- a call: what it says and leaves of the pool's part
  pub call-run :
      (k : Call) (o : Outcome) (text part : List ℕ) → text ≡ outcome_text o → (o, part) ≡ call_of k (take used w)
      → length part ≡ length (take used w) → (text, used, part ++ drop used w) ≡ execute_of (Some (line.Run k)) used w
  unfolding execute_of
  call-run k o text part printed after same =
      let long : length part ≡ used = same ∙ length-take-le used w inside in
      simp (used-same, printed, ← after, long)

-- a new pool in the place of the old
module _ (w : List ℕ) (used n size : ℕ) (is : Some size ≡ size_of (length w) n) where
  size_fitting : Fitting (length w) n
  size_fitting = (sized (length w) n is).fitting

  size_exact : size ≡ pool_length register_count n
  size_exact = (sized (length w) n is).exact

  part_long : length (take size w) ≡ pool_length register_count n
  part_long = length-take-le size w (omega (arith, size_exact, size_fitting)) ∙ size_exact

  fresh-part : (fresh_of (take size w)).1 ≡ fresh_words register_count n []
  fresh-part =
      let cells : cell_count_of_length register_count (length (take size w)) ≡ n =
      of_length {R = register_count} {e = 0} (record { least = size_fitting.least; most = size_fitting.most; few = omega arith; sum = omega (arith, part_long) }) in
      simp (cells, lt-ltb 0 n size_fitting.least, fresh-exact register_count n (take size w) part_long)

  pub fresh_made :
      (f : Outcome) (part : List ℕ) → (f, part) ≡ fresh_of (take size w)
      → length part ≡ length (take size w) → (outcome_text (answered []), size, part ++ drop size w) ≡ execute_of (Some (line.Fresh n)) used w
  unfolding execute_of
  fresh_made f part after same =
      let words : part ≡ fresh_words register_count n [] = ap (λ (o : Outcome × List ℕ). o.1) after ∙ fresh-part in
      let long : length part ≡ size = same ∙ part_long ∙ sym size_exact in
      simp (fitting_fits (length w) n size_fitting, ← words, long)

-- asked twice, the pool's words are the same
pub settled : (l : Option Line) (used pool : ℕ) (w : List ℕ) → pool ≡ used_of (length w) used → execute_of l pool w ≡ execute_of l used w
unfolding execute_of
settled l used pool w is = rw (used-same w pool (used-inside (length w) used is), is)
