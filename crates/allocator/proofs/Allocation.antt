-- The calls `new` and `point`: what their steps leave, where they went as the equations say, is what the definitions leave.
use Prim.Native.Nat.{ℕ, zero, suc, ◌+◌, ◌-◌, ◌<◌, ◌≤◌}
use native.Mathlib.Omega.{arith}
use mathlib.Core.Path.{◌≡◌, refl, sym, ap, ◌∙◌}
use mathlib.Core.List.{List, [], ◌∷◌}
use mathlib.Core.Bool.{Bool, true, false, cond, ◌&&◌}
use lib.ListN.{length}
use Rattle.std.proofs.Common.{Result, Ok, Err}
use lib.Dec.{leb}
use borrow.Author.Tests.{eq-eqb, ne_eqb, leb-true}
use Rattle.pool.specs.Layout.{register_count, pool_length, head, set_head, set_register, put_cell, state, left}
use Rattle.questions.specs.Validity.{well_formed}
use Rattle.pool.specs.States.{pair_state, is_free}
use Rattle.pool.specs.Retain.{lowest_free}
use Rattle.questions.specs.Questions.{holds_link}
use Rattle.answers.specs.Outcome.{Outcome, answered, allocated, refused, status, given, refusal_number, answer_outcome}
use Rattle.answers.specs.declared.Refusal.{Refusal}
use Rattle.answers.specs.declared.Answer.{Answer}
use Rattle.answers.specs.declared.Answer.TheVariants as answer
use Rattle.pool.proofs.Sizes.{both}
use Rattle.questions.proofs.WellFormed.{well_formed_read}
use Rattle.pool.proofs.Retained.{retain-head}
use Rattle.reversal.specs.Reached.{is_reached, reached_count, reached_visits}
use Rattle.collector.specs.Collect.{collected, collect_in}
use Rattle.collector.proofs.Collected.{collected-full, head-nil_full}
use Rattle.allocator.specs.Allocation.{take, take_collected, take_free, good_head, allocate_in, new_in}
use Rattle.questions.proofs.RegisterLinks.{Holds}

-- the head cell is taken by one write after the other
pub taken : (w : List ℕ) (r s x y v : ℕ) {i next : ℕ} {w₁ w₂ w₃ : List ℕ} → i ≡ head w → next ≡ left register_count w i
    → w₁ ≡ put_cell register_count w i s x y v → w₂ ≡ set_head w₁ next → w₃ ≡ set_register w₂ r i → w₃ ≡ take w r s x y v
taken w r s x y v at after e₁ e₂ e₃ = rw (e₃, e₂, e₁, after, at)

-- the lowest free cell is one of the cells
lowest_below : (keep : ℕ → Bool) (k i : ℕ) → 0 < i → lowest_free keep k i < k + i
unfolding lowest_free
lowest_below keep zero i low = omega arith
lowest_below keep (suc k) i low = go (keep i) (lowest_below keep k (suc i) (omega arith))
  where
    go : (b : Bool) → lowest_free keep k (suc i) < k + suc i → elim b [ true ↦ lowest_free keep k (suc i) | false ↦ i ] < suc k + i
    go true h = omega arith
    go false h = omega arith

-- a collection that was not refused: its words and its visits
pub record Swept (n : ℕ) (w w' : List ℕ) (v : ℕ) : Type 0 where
  pub well : well_formed register_count n w ≡ true
  pub words : w' ≡ collected register_count n w
  pub visits : v ≡ reached_visits register_count n w

-- the status of an answer that is no refusal
accepted : (a : Answer) → status (answer_outcome (Ok a)) ≡ 0
accepted answer.Done = refl
accepted (answer.Allocated visits) = refl
accepted (answer.Number x) = refl
accepted (answer.Pair x y) = refl

-- what a collection says and leaves, by the test of the pool
module _ (n : ℕ) (w w' : List ℕ) {q : Result Answer Refusal} (did : (answer_outcome q, w') ≡ collect_in n w) where
  said : {r : Result Answer Refusal} → q ≡ r → (t : Bool) → well_formed register_count n w ≡ t
      → answer_outcome r ≡ cond t (answered (reached_count register_count n w ∷ reached_visits register_count n w ∷ [])) (refused 3)
  said told true e = sym (ap answer_outcome told) ∙ simp e at (ap (λ (p : Outcome × List ℕ). p.0) did)
  said told false e = sym (ap answer_outcome told) ∙ simp e at (ap (λ (p : Outcome × List ℕ). p.0) did)

  left-words : {r : Result Answer Refusal} → q ≡ r → (t : Bool) → well_formed register_count n w ≡ t → w' ≡ cond t (collected register_count n w) w
  left-words told true e = simp e at (ap (λ (p : Outcome × List ℕ). p.1) did)
  left-words told false e = simp e at (ap (λ (p : Outcome × List ℕ). p.1) did)

  pub swept : {a : Answer} → q ≡ Ok a → Swept n w w' (given (answer_outcome (Ok a)) 1 0)
  swept {a} told = go (well_formed register_count n w) refl
    where
      go : (t : Bool) → well_formed register_count n w ≡ t → Swept n w w' (given (answer_outcome (Ok a)) 1 0)
      go true e = record { well = e; words = left-words told true e; visits = ap (λ (p : Outcome). given p 1 0) (said told true e) }
      go false e = absurd (omega (arith, accepted a, ap status (said told false e)))

  pub take-refused : (r c x y v : ℕ) {k : Refusal} → q ≡ Err k → (refused (refusal_number k), w') ≡ take_collected n w r c x y v
  take-refused r c x y v {k} told = go (well_formed register_count n w) refl
    where
      go : (t : Bool) → well_formed register_count n w ≡ t → (refused (refusal_number k), w') ≡ take_collected n w r c x y v
      go true e = let other = said told true e in let z : ◌≡◌ {A = ℕ} 0 1 = cc in absurd (omega arith)
      go false e = simp (e, said told false e, left-words told false e)

module _ (n : ℕ) (w : List ℕ) {w' : List ℕ} {visits : ℕ} (s : Swept n w w' visits) where
  -- the head after it is one of the cells, or nil where every cell is kept; and then nothing has changed
  pub swept-head : 0 < n → pool_length register_count n ≤ length w → head w' ≤ n
  swept-head some room =
      rw (s.words, retain-head register_count n (is_reached register_count n w) w room some)
      (omega (arith, lowest_below (is_reached register_count n w) (n - 0) 1 (omega arith)))

  pub take-full : (r c x y v : ℕ) → 0 < n → pool_length register_count n ≤ length w → head w ≡ 0 → {i : ℕ} → i ≡ head w' → i ≡ 0
      → (refused 5, w') ≡ take_collected n w r c x y v
  take-full r c x y v some room nil read none =
      let well = well_formed_read register_count n w s.well in
      let h : head (collected register_count n w) ≡ 0 = cc in
      simp (s.well, h, s.words) (simp (collected-full register_count n w well room (head-nil_full register_count n w well room some h) nil))

  pub take_done : (r c x y v : ℕ) {i : ℕ} {w'' : List ℕ} → i ≡ head w' → (i ≡ 0 → ⊥) → w'' ≡ take w' r c x y v
      → {u : ℕ} → u ≡ visits → (allocated u, w'') ≡ take_collected n w r c x y v
  take_done r c x y v read free e is =
      simp (is, s.well, ne_eqb (head (collected register_count n w)) 0 λ z. free (read ∙ ap head s.words ∙ z), e, s.words, s.visits)

-- a head that may be taken is one of the cells
pub good_bound : (n : ℕ) (w : List ℕ) → good_head n w ≡ true → head w ≤ n
good_bound n w h =
    leb-true (head w) n
    (both (leb (head w) n) (is_free (state register_count w (head w)))
    (both (leb (head w) n && is_free (state register_count w (head w))) (leb (left register_count w (head w)) n) h).0).0

-- the head that is read decides
module _ (n : ℕ) (w : List ℕ) (r c x y v : ℕ) {i : ℕ} (read : i ≡ head w) where
  pub allocate_collected : i ≡ 0 → {p : Outcome × List ℕ} → p ≡ take_collected n w r c x y v → p ≡ allocate_in n w r c x y v
  allocate_collected nil e = simp (← read, eq-eqb i 0 nil) e

  pub allocate_free : (i ≡ 0 → ⊥) → {p : Outcome × List ℕ} → p ≡ take_free n w r c x y v → p ≡ allocate_in n w r c x y v
  allocate_free some e = simp (ne_eqb (head w) 0 λ z. some (read ∙ z)) e

module _ (n : ℕ) (w : List ℕ) {a x : ℕ} (h : Holds n w a x) (r v : ℕ) where
  pub new_malformed : (b : ℕ) → holds_link n w b ≡ false → (refused 3, w) ≡ new_in n w r a b v
  new_malformed b not = simp (not, h.link, h.valid)

  pub new_made : {b y : ℕ} → Holds n w b y → {p : Outcome × List ℕ} → p ≡ allocate_in n w r pair_state x y v → p ≡ new_in n w r a b v
  new_made k e = simp (h.link, h.valid, k.link, k.valid) e
