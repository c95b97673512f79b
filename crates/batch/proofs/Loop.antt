-- The loop of a run: what the words of the list say at each place, and what remains to be run.
use Rattle.std.proofs.Common.{Ok, Err, Option, Some, None}
use Prim.Native.Nat.{ℕ, suc, ◌+◌, ◌*◌, ◌<◌, ◌≤◌}
use native.Mathlib.Omega.{arith}
use native.Mathlib.Nat.{add-zero}
use native.Mathlib.Numerals.{add-one}
use mathlib.Core.Path.{◌≡◌, refl, sym, ap, ◌∙◌}
use mathlib.Core.List.{List, [], ◌∷◌}
use mathlib.Core.Bool.{Bool, true, false, cond}
use lib.ListN.{length, get_or, drop, length-drop, drop_of_length-le}
use lib.Seq.{get_or-drop, drop-drop}
use lib.Dec.{leb}
use borrow.Author.Tests.{le-leb, lt-leb, leb-true, leb-false}
use Rattle.answers.specs.Outcome.{Outcome}
use Rattle.calls.specs.declared.Call.{Call}
use Rattle.calls.specs.Calls.{call_of}
use Rattle.batch.specs.declared.Stopped.TheVariants as stopped
use Rattle.batch.specs.Program.{Program, ended, malformed, then, call_numbered, then_decoded, program_of}
use Rattle.batch.specs.Run.{written, run_from, run_of}
use Rattle.batch.specs.Steps.{entry_at}

-- a list of five words or more begins with an entry, and a shorter one is malformed unless it is empty
five : (l : List ℕ) → 5 ≤ length l
    → program_of l ≡ then_decoded (call_numbered (get_or l 0 0) (get_or l 1 0) (get_or l 2 0) (get_or l 3 0) (get_or l 4 0)) (program_of (drop 5 l))
unfolding program_of
five [] h = absurd (omega arith)
five (c ∷ []) h = absurd (omega arith)
five (c ∷ x ∷ []) h = absurd (omega arith)
five (c ∷ x ∷ y ∷ []) h = absurd (omega arith)
five (c ∷ x ∷ y ∷ z ∷ []) h = absurd (omega arith)
five (c ∷ x ∷ y ∷ z ∷ u ∷ rest) h = refl

fewer : (l : List ℕ) → 0 < length l → length l < 5 → program_of l ≡ malformed
unfolding program_of
fewer [] some few = absurd (omega arith)
fewer (c ∷ []) some few = refl
fewer (c ∷ x ∷ []) some few = refl
fewer (c ∷ x ∷ y ∷ []) some few = refl
fewer (c ∷ x ∷ y ∷ z ∷ []) some few = refl
fewer (c ∷ x ∷ y ∷ z ∷ u ∷ rest) some few = absurd (omega arith)

-- what stands at a place of the list
entry-program : (list : List ℕ) (at : ℕ) → at < length list → program_of (drop at list) ≡ then_decoded (entry_at list at) (program_of (drop (at + 5) list))
entry-program list at inside = go (leb (at + 5) (length list)) refl
  where
    go : (t : Bool) → leb (at + 5) (length list) ≡ t → program_of (drop at list) ≡ then_decoded (entry_at list at) (program_of (drop (at + 5) list))
    go true e =
        let fits = leb-true (at + 5) (length list) e in
        rw (e) (five (drop at list) (simp length-drop (omega arith)) ∙ simp (get_or-drop, drop-drop, add-zero))
    go false e = let cut = leb-false (at + 5) (length list) e in rw (e) (fewer (drop at list) (simp length-drop (omega arith)) (simp length-drop (omega arith)))

-- what remains to be run after k calls gives what the whole run gives
pub record Running (list w₀ out₀ w out : List ℕ) (k : ℕ) : Type 0 where
  pub bound : 5 * k ≤ length list
  pub words : length w ≡ length w₀
  pub answers : length out ≡ length out₀
  pub same : run_from k (program_of (drop (5 * k) list)) w out ≡ run_of list w₀ out₀

pub running_first : (list w out : List ℕ) → Running list w out w out 0
running_first list w out = record { bound = omega arith; words = refl; answers = refl; same = refl }

-- one step of `run_from`, for each program that may remain
module _ (k : ℕ) {p : Program} (w out : List ℕ) where
  at_end : p ≡ ended → run_from k p w out ≡ (Ok k, w, out)
  unfolding run_from
  at_end e = rw e

  at_malformed : p ≡ malformed → run_from k p w out ≡ (Err (stopped.Malformed k), w, out)
  unfolding run_from
  at_malformed e = rw e

  module _ {c : Call} {rest : Program} (e : p ≡ then c rest) where
    at_full : length out < 3 * k + 3 → run_from k p w out ≡ (Err (stopped.NoRoom k), w, out)
    unfolding run_from
    at_full full = rw (e, run_from, lt-leb _ _ full)

    at_call : 3 * k + 3 ≤ length out → {o : Outcome} {w' : List ℕ} → (o, w') ≡ call_of c w → run_from k p w out ≡ run_from (suc k) rest w' (written out k o)
    unfolding run_from
    at_call room did = rw (e, run_from, le-leb _ _ room, ← did)

module _ (list : List ℕ) {w₀ out₀ w out : List ℕ} {k : ℕ} (r : Running list w₀ out₀ w out k) where
  pub running_last : length list ≤ 5 * k → (Ok k, w, out) ≡ run_of list w₀ out₀
  unfolding program_of
  running_last past = sym (at_end k w out (ap program_of (drop_of_length-le list past))) ∙ r.same

  module _ (inside : 5 * k < length list) {q : Option Call} (read : q ≡ entry_at list (5 * k)) where
    remains : {d : Option Call} → q ≡ d → program_of (drop (5 * k) list) ≡ then_decoded d (program_of (drop (5 * k + 5) list))
    remains told = entry-program list (5 * k) inside ∙ ap (λ (d : Option Call). then_decoded d (program_of (drop (5 * k + 5) list))) (sym read ∙ told)

    pub running_malformed : q ≡ None → (Err (stopped.Malformed k), w, out) ≡ run_of list w₀ out₀
    running_malformed told = sym (at_malformed k w out (remains told)) ∙ r.same

    -- an entry that is a call has five words
    pub running_inside : {c : Call} → q ≡ Some c → 5 * k + 5 ≤ length list
    running_inside {c} told = go (leb (5 * k + 5) (length list)) refl _ (sym read ∙ told)
      where
        go : (t : Bool) → leb (5 * k + 5) (length list) ≡ t → (d : Option Call) → cond t d None ≡ Some c → 5 * k + 5 ≤ length list
        go true e d same = leb-true (5 * k + 5) (length list) e
        go false e d same = let z : ◌≡◌ {A = ℕ} 0 1 = cc in absurd (omega arith)

    pub running_no_room : {c : Call} → q ≡ Some c → length out < 3 * k + 3 → (Err (stopped.NoRoom k), w, out) ≡ run_of list w₀ out₀
    running_no_room told full = sym (at_full k w out (remains told) full) ∙ r.same

    pub running_more : {c : Call} {o : Outcome} {w' out' : List ℕ} → q ≡ Some c → 3 * k + 3 ≤ length out → (o, w') ≡ call_of c w → length w' ≡ length w
        → out' ≡ written out k o → length out' ≡ length out → Running list w₀ out₀ w' out' (k + 1)
    running_more {w' = w'} told room did e wrote e' =
        let step : 5 * (k + 1) ≡ 5 * k + 5 = omega arith in
        record {
          bound = omega (arith, running_inside told);
          words = e ∙ r.words;
          answers = e' ∙ r.answers;
          same = rw (step, add-one, wrote) (sym (at_call k w out (remains told) room did) ∙ r.same);
        }
