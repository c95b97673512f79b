-- One call, and lists of calls, on a pool and on the reference model that it represents.
use Prim.Native.Nat.{ℕ, ◌<◌, min, max}
use native.Mathlib.Omega.{arith}
use native.Mathlib.Decide.{dec_lt}
use mathlib.Core.Path.{◌≡◌, refl, sym, ap, ◌∙◌}
use mathlib.Core.List.{List, [], ◌∷◌, ◌++◌}
use mathlib.Core.Bool.{Bool, true, false, false≢true, cond, ◌&&◌}
use lib.Dec.{leb, ltb}
use borrow.Author.Tests.{le-leb, lt-leb, lt-ltb, le-ltb, leb-true, ltb-true}
use Rattle.answers.specs.Outcome.{Outcome, answered, allocated, refused, status, given}
use Rattle.pool.proofs.Sizes.{both}
use Rattle.calls.specs.declared.Call.{Call}
use Rattle.calls.specs.declared.Call.TheVariants as call
use Rattle.questions.specs.Questions.{are_registers}
use Rattle.questions.proofs.Admission.{Registers, registers_there}
use Rattle.calls.specs.Calls.{registers_of, body_of, allocates, call_of}
use Rattle.reference.specs.Model.{Entry, Model, live, append_below, model_body, model_of}
use Rattle.batch.specs.Run.{answers_of, answer_words}
use Rattle.reference.specs.RunEquivalence.{observed_words}
use Rattle.reference.specs.Equivalence.{observed, pool_answers, model_answers, distinguishes, none_distinguishes}
use Rattle.invariant.proofs.Invariant.{Invariant}
use Rattle.invariant.proofs.Standing.{called}
use Rattle.invariant.proofs.Preservation.{call_inv}
use Rattle.reference.proofs.Fields.{Field}
use Rattle.reference.proofs.Represents.{Represents}
use Rattle.reference.proofs.Steps.{Step, unchanged, copy_step, clear_step, follow_step, link-step, set-value_step, value-step, coordinate_step, same_step}
use Rattle.reference.proofs.Collecting.{collect_step}
use Rattle.reference.proofs.New.{AllocateStep, new_step, point-step}
use Rattle.reference.proofs.Plain.{plain_observed, plain_model}

-- The first number of an answer is observed, unless it is the visits of an allocation.
abbrev pub FirstNumber : Call → List ℕ → Type 0
FirstNumber c w = cond (allocates c) 0 (given (call_of c w).0 0 0) ≡ given (observed (call_of c w).0) 0 0

-- A call that does not distinguish the pool from the limit is answered alike, and one that does is accepted by one of them alone.
pub data Verdict (N L : ℕ) (c : Call) (w : List ℕ) (m : Model) : Type 0 where
  alike : distinguishes N L c m ≡ false → Step (observed (call_of c w).0, (call_of c w).1) (model_of L c m) → FirstNumber c w → Verdict N L c w m
  apart : distinguishes N L c m ≡ true → (status (observed (call_of c w).0) ≡ status (model_of L c m).0 → ⊥) → Verdict N L c w m

module _ {N : ℕ} (L : ℕ) {w : List ℕ} {m : Model} (inv : Invariant N w) (rep : Represents w m) where
  -- A call that allocates, where the model appends the cell e.
  allocate_verdict : (c : Call) (r : ℕ) (e : Entry) → allocates c ≡ true → model_body L c m ≡ append_below L m r e
      → (Registers (registers_of c) → AllocateStep N w m r e (body_of c N w)) → Verdict N L c w m
  allocate_verdict c r e allocating model-does step = go (are_registers (registers_of c)) refl
    where
      asked : call_of c w ≡ cond (are_registers (registers_of c)) (body_of c N w) (refused 2, w)
      asked = called inv.pool c

      tests : (s t u : Bool) → are_registers (registers_of c) ≡ s → leb (min N L) (live m) ≡ t → ltb (live m) (max N L) ≡ u → distinguishes N L c m ≡ (s && t && u)
      tests s t u p q k = rw (allocating, p, q, k)

      ask : are_registers (registers_of c) ≡ true → AllocateStep N w m r e (body_of c N w) → Dec (live m < L) → Verdict N L c w m
      ask there (AllocateStep.accepted few next) (yes below) =
          alike (tests true false _ there (lt-leb (min N L) (live m) (omega arith)) refl) (rw (asked, there, model-does, lt-leb L (live m) below) next)
          (rw (allocating, asked, there, next.answer))
      ask there (AllocateStep.accepted few next) (no above) =
          apart (tests true true true there (le-leb (min N L) (live m) (omega arith)) (lt-ltb (live m) (max N L) (omega arith)))
          (rw (asked, there, model-does, le-leb L (live m) (omega arith), next.answer) (λ k. omega arith))
      ask there (AllocateStep.full many out) (yes below) =
          apart (tests true true true there (le-leb (min N L) (live m) (omega arith)) (lt-ltb (live m) (max N L) (omega arith)))
          (rw (asked, there, model-does, lt-leb L (live m) below, out) (λ k. omega arith))
      ask there (AllocateStep.full many out) (no above) =
          alike (tests true true false there (le-leb (min N L) (live m) (omega arith)) (le-ltb (live m) (max N L) (omega arith)))
          (rw (asked, there, model-does, le-leb L (live m) (omega arith), out) (unchanged inv.pool rep _)) (rw (allocating, asked, there, out))

      go : (t : Bool) → are_registers (registers_of c) ≡ t → Verdict N L c w m
      go true there = ask there (step (registers_there (registers_of c) there)) (dec_lt (live m) L)
      go false there = alike (tests false _ _ there refl refl) (rw (asked, there) (unchanged inv.pool rep _)) (rw (allocating, asked, there))

  -- A call that does not allocate: both refuse it with 2, or both run it, and all of what the model answers is observed.
  plain_verdict : (c : Call) → allocates c ≡ false → (Registers (registers_of c) → Step (body_of c N w) (model_body L c m)) → Verdict N L c w m
  plain_verdict c quiet next =
      alike (rw quiet) (record { answer = all-observed ∙ step.answer; rep = step.rep })
      (rw quiet (ap (λ (o : Outcome). given o 0 0) (sym all-observed)))
    where
      go : (t : Bool) → are_registers (registers_of c) ≡ t → Step (cond t (body_of c N w) (refused 2, w)) (cond t (model_body L c m) (refused 2, m))
      go true e = next (registers_there (registers_of c) e)
      go false e = unchanged inv.pool rep (refused 2)

      step : Step (call_of c w) (model_of L c m)
      step = rw (called inv.pool c) (go (are_registers (registers_of c)) refl)

      all-observed : observed (call_of c w).0 ≡ (call_of c w).0
      all-observed = ap observed step.answer ∙ (plain_observed (plain_model m L c) ∙ sym step.answer)

  pub verdict : (c : Call) → Verdict N L c w m
  verdict (call.Copy r a) = plain_verdict (call.Copy r a) refl λ h. copy_step inv.pool rep r a h.0 h.1.0
  verdict (call.Clear r) = plain_verdict (call.Clear r) refl λ h. clear_step inv.pool rep r h.0
  verdict (call.New r a b v) =
      allocate_verdict (call.New r a b v) r _ refl refl λ h. new_step inv rep r a b v h.0 h.1.0 h.1.1.0
  verdict (call.Left r a) = plain_verdict (call.Left r a) refl λ h. follow_step inv.pool rep Field.left (omega arith) r a h.0 h.1.0
  verdict (call.Right r a) = plain_verdict (call.Right r a) refl λ h. follow_step inv.pool rep Field.right (omega arith) r a h.0 h.1.0
  verdict (call.SetLeft a b) = plain_verdict (call.SetLeft a b) refl λ h. link-step inv.pool rep Field.left (omega arith) a b h.0 h.1.0
  verdict (call.SetRight a b) = plain_verdict (call.SetRight a b) refl λ h. link-step inv.pool rep Field.right (omega arith) a b h.0 h.1.0
  verdict (call.SetValue a v) = plain_verdict (call.SetValue a v) refl λ h. set-value_step inv.pool rep a v h.0
  verdict (call.Value a) = plain_verdict (call.Value a) refl λ h. value-step inv.pool rep a h.0
  verdict (call.Same a b) = plain_verdict (call.Same a b) refl λ h. same_step inv.pool rep a b h.0 h.1.0
  verdict call.Collect = plain_verdict call.Collect refl λ h. collect_step inv.pool rep
  verdict (call.Point r v x y) = allocate_verdict (call.Point r v x y) r _ refl refl λ h. point-step inv rep r v x y h.0
  verdict (call.East a) = plain_verdict (call.East a) refl λ h. coordinate_step inv.pool rep Field.left a h.0
  verdict (call.North a) = plain_verdict (call.North a) refl λ h. coordinate_step inv.pool rep Field.right a h.0

-- Where no call distinguishes the two, the answers to a list of calls are equal; where one does, not even their words are.
pub record Compared (N L : ℕ) (calls : List Call) (w : List ℕ) (m : Model) : Type 0 where
  pub equal : none_distinguishes N L calls m ≡ true → pool_answers calls w ≡ model_answers L calls m
  pub none : answer_words (pool_answers calls w) ≡ answer_words (model_answers L calls m) → none_distinguishes N L calls m ≡ true

pub compared : (N L : ℕ) (calls : List Call) {w : List ℕ} {m : Model} → Invariant N w → Represents w m → Compared N L calls w m
unfolding pool_answers model_answers none_distinguishes answer_words
compared N L [] inv rep = record { equal = λ h. refl; none = λ h. refl }
compared N L (c ∷ cs) {w} {m} inv rep = go (verdict L inv rep c) (λ rep'. compared N L cs (call_inv inv c) rep')
  where
    go : Verdict N L c w m → (Represents (call_of c w).1 (model_of L c m).1 → Compared N L cs (call_of c w).1 (model_of L c m).1)
        → Compared N L (c ∷ cs) w m
    go (alike e next first) rest =
        let behind = rest next.rep in
        record {
          equal = λ h. let others = behind.equal (rw e at h) in cc next.answer;
          none = λ h.
              let others : answer_words (pool_answers cs (call_of c w).1) ≡ answer_words (model_answers L cs (model_of L c m).1) = cc in
              rw e (behind.none others);
        }
    go (apart e differ) rest =
        record {
          equal = λ h. absurd (false≢true (rw e at h));
          none = λ h. absurd (differ (cc));
        }

-- With L = N no call does.
never_distinguishes : (N : ℕ) (c : Call) (m : Model) → distinguishes N N c m ≡ false
never_distinguishes N c m = go (distinguishes N N c m) refl
  where
    go : (t : Bool) → distinguishes N N c m ≡ t → distinguishes N N c m ≡ false
    go false e = e
    go true e =
        let outer = both (allocates c && are_registers (registers_of c) && leb (min N N) (live m)) (ltb (live m) (max N N)) e in
        let inner = both (allocates c && are_registers (registers_of c)) (leb (min N N) (live m)) outer.0 in
        absurd (omega (arith, leb-true (min N N) (live m) inner.1, ltb-true (live m) (max N N) outer.1))

pub none_at_limit : (N : ℕ) (calls : List Call) (m : Model) → none_distinguishes N N calls m ≡ true
unfolding none_distinguishes
none_at_limit N [] m = refl
none_at_limit N (c ∷ cs) m = rw (never_distinguishes N c m) (none_at_limit N cs (model_of N c m).1)

-- What is observed of the words of a run's answers is the words of what is observed of the answers, whatever stands behind them.
pub observed-words : (N : ℕ) (cs : List Call) {w : List ℕ} {m : Model} → Invariant N w → Represents w m → (back : List ℕ)
    → observed_words cs (answer_words (answers_of cs w) ++ back) ≡ answer_words (pool_answers cs w)
unfolding observed_words answers_of answer_words pool_answers
observed-words N [] inv rep back = refl
observed-words N (c ∷ cs) {w} {m} inv rep back = go (verdict N inv rep c) (λ rep'. observed-words N cs (call_inv inv c) rep' back)
  where
    o : Outcome
    o = (call_of c w).0

    same-status : (o : Outcome) → status o ≡ status (observed o)
    same-status (answered xs) = refl
    same-status (allocated visits) = refl
    same-status (refused k) = refl

    same_second : (o : Outcome) → given o 1 0 ≡ given (observed o) 1 0
    same_second (answered xs) = refl
    same_second (allocated visits) = refl
    same_second (refused k) = refl

    go : Verdict N N c w m
        → (Represents (call_of c w).1 (model_of N c m).1
        → observed_words cs (answer_words (answers_of cs (call_of c w).1) ++ back) ≡ answer_words (pool_answers cs (call_of c w).1))
        → observed_words (c ∷ cs) (answer_words (answers_of (c ∷ cs) w) ++ back) ≡ answer_words (pool_answers (c ∷ cs) w)
    go (alike e next first) rest = rw (same-status o, first, same_second o, rest next.rep)
    go (apart e differ) rest = absurd (false≢true (sym (never_distinguishes N c m) ∙ e))
