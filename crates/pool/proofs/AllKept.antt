-- Pools in which every cell is kept, or in which nothing is left to free.
use Prim.Native.Nat.{ℕ, zero, suc, ◌+◌, ◌-◌, ◌<◌, ◌≤◌}
use native.Mathlib.Omega.{arith}
use native.Mathlib.Decide.{ℕ_discrete}
use mathlib.Core.Path.{◌≡◌, refl, sym, ap, ◌∙◌}
use mathlib.Core.List.{List}
use mathlib.Core.Bool.{Bool, true, false, cond}
use lib.ListN.{length, get_or}
use Rattle.pool.specs.Layout.{pool_length, cell, head, state}
use Rattle.pool.specs.States.{is_used, is_point}
use Rattle.pool.specs.Retain.{lowest_free, free_above, kept_field, retained_field, retained_word, retain, kept_count}
use Rattle.pool.proofs.Every.{tabulate-list}
use Rattle.pool.proofs.States.{used-same, used-alike, point-used}
use Rattle.pool.proofs.Retained.{Place, place, word_stays, word_field, retain-cell, retain_elsewhere, length-retain, retain_cong, kept-most}

-- every cell from 1 to n is kept
abbrev pub AllKept : (ℕ → Bool) → ℕ → Type 0
AllKept keep n = (j : ℕ) → 0 < j → j ≤ n → keep j ≡ true

module _ (keep : ℕ → Bool) where
  pub counted-all : (n : ℕ) → kept_count keep n ≡ n → AllKept keep n
  unfolding kept_count
  counted-all zero e j low high = absurd (omega arith)
  counted-all (suc n) e j low high = go (keep (suc n)) refl (kept-most keep n) (λ h. counted-all n h j low) (ℕ_discrete j (suc n)) e
    where
      go : (t : Bool) → keep (suc n) ≡ t → kept_count keep n ≤ n → (kept_count keep n ≡ n → j ≤ n → keep j ≡ true) → Dec (j ≡ suc n)
          → cond (keep (suc n)) 1 0 + kept_count keep n ≡ suc n → keep j ≡ true
      go true top most rest (yes last) h = rw last top
      go true top most rest (no other) h = rest (omega (arith, rw top at h)) (omega arith)
      go false top most rest last h = absurd (omega (arith, rw top at h))

  pub all-counted : (n : ℕ) → AllKept keep n → kept_count keep n ≡ n
  unfolding kept_count
  all-counted zero all = refl
  all-counted (suc n) all = rw (all (suc n) (omega arith) (omega arith), all-counted n λ j low high. all j low (omega arith)) (omega arith)

  -- then there is no lowest free cell, and the other way round
  all_lowest : (k i : ℕ) → ((j : ℕ) → i ≤ j → j < i + k → keep j ≡ true) → lowest_free keep k i ≡ 0
  unfolding lowest_free
  all_lowest zero i all = refl
  all_lowest (suc k) i all = rw (all i (omega arith) (omega arith), lowest_free) (all_lowest k (suc i) λ j low high. all j (omega arith) (omega arith))

  lowest_all : (k i : ℕ) → 0 < i → lowest_free keep k i ≡ 0 → (j : ℕ) → i ≤ j → j < i + k → keep j ≡ true
  unfolding lowest_free
  lowest_all zero i some e j low high = absurd (omega arith)
  lowest_all (suc k) i some e j low high = go (keep i) refl e (λ h. lowest_all k (suc i) (omega arith) h j) (ℕ_discrete j i)
    where
      go : (t : Bool) → keep i ≡ t → ◌≡◌ {A = ℕ} (elim t [ true ↦ lowest_free keep k (suc i) | false ↦ i ]) 0
          → (lowest_free keep k (suc i) ≡ 0 → suc i ≤ j → j < suc i + k → keep j ≡ true) → Dec (j ≡ i) → keep j ≡ true
      go true top h rest (yes first) = rw first top
      go true top h rest (no other) = rest h (omega arith) (omega arith)
      go false top h rest first = absurd (omega arith)

  pub all-none_free : (n : ℕ) → AllKept keep n → free_above keep n 0 ≡ 0
  all-none_free n all = all_lowest (n - 0) 1 λ j low high. all j low (omega arith)

  pub none-free_all : (n : ℕ) → free_above keep n 0 ≡ 0 → AllKept keep n
  none-free_all n e j low high = lowest_all (n - 0) 1 (omega arith) e j low (omega arith)

module _ (R n : ℕ) (keep : ℕ → Bool) (w : List ℕ) where
  -- where every cell is kept, used, and the head is nil, nothing changes
  pub retain-all : AllKept keep n → ((j : ℕ) → 0 < j → j ≤ n → is_used (state R w j) ≡ true) → head w ≡ 0 → retain R n keep w ≡ w
  unfolding retain head cell
  retain-all all used nil = sym (tabulate-list (length w) (retained_word R n keep w) w refl λ k below. at k (place R n k))
    where
      fields : (i f : ℕ) → 0 < i → i ≤ n → cell R w i f ≡ retained_field R n keep w i f
      fields i zero low high = rw (all i low high) (used-same (state R w i) (used i low high))
      fields i (suc f) low high = rw (all i low high)

      at : (k : ℕ) → Place R n k → get_or w k 0 ≡ retained_word R n keep w k
      at k (Place.first e) = rw e (nil ∙ sym (all-none_free keep n all))
      at k (Place.stays other away test) = sym (word_stays R n keep w k other test)
      at k (Place.field i f low high hf e) = rw e (fields i f low high ∙ sym (word_field R n keep w i f low high hf))

  -- retaining the same cells again changes nothing
  pub retain-again : pool_length R n ≤ length w → retain R n keep (retain R n keep w) ≡ retain R n keep w
  retain-again room =
      retain_cong R n keep keep (retain R n keep w) w (length-retain R n keep w) (λ j low high. refl) (retain_elsewhere R n keep w room)
      same
    where
      same : (j f : ℕ) → 0 < j → j ≤ n → f < 4 → keep j ≡ true → kept_field R (retain R n keep w) j f ≡ kept_field R w j f
      same j zero low high hf e = used-alike _ _ (ap is_point (retain-cell R n keep w room j 0 low high hf ∙ rw e) ∙ point-used (state R w j))
      same j (suc f) low high hf e = retain-cell R n keep w room j (suc f) low high hf ∙ rw e
