-- What holds of every retained pool: its free list, the states of its cells, and what a kept cell keeps.
use Prim.Native.Nat.{ℕ, zero, suc, ◌+◌, ◌-◌, ◌<◌, ◌≤◌}
use native.Mathlib.Omega.{arith}
use mathlib.Core.Path.{◌≡◌, refl, ap, ◌∙◌}
use mathlib.Core.List.{List, [], ◌∷◌}
use mathlib.Core.Bool.{Bool, true, false}
use lib.ListN.{length}
use lib.Dec.{eqb-suc-zero}
use Rattle.pool.specs.Layout.{pool_length, cell, state, left}
use Rattle.pool.specs.States.{free_state, is_used, as_used}
use Rattle.pool.specs.Retain.{lowest_free, chain_from, free_cells, retain}
use Rattle.pool.specs.Fresh.{RetainedFreeList}
use Rattle.pool.proofs.Retained.{retain-head, retain-cell}
use Rattle.pool.proofs.States.{used-used}

-- the free list of a retained pool, from any cell on
module _ (R n : ℕ) (keep : ℕ → Bool) (w : List ℕ) (room : pool_length R n ≤ length w) where
  follow_nil : (fuel : ℕ) → chain_from R fuel (retain R n keep w) 0 ≡ []
  unfolding chain_from
  follow_nil zero = refl
  follow_nil (suc fuel) = refl

  -- a free cell, and behind it what its left link leads to
  follow_cell : (k i fuel : ℕ) → i + suc k ≡ n → keep (suc i) ≡ false
      → chain_from R (suc fuel) (retain R n keep w) (suc i) ≡ suc i ∷ chain_from R fuel (retain R n keep w) (lowest_free keep k (suc (suc i)))
  unfolding chain_from
  follow_cell k i fuel last e =
      let rest : n - suc i ≡ k = omega arith in
      let link : left R (retain R n keep w) (suc i) ≡ lowest_free keep k (suc (suc i)) =
      retain-cell R n keep w room (suc i) 1 (omega arith) (omega arith) (omega arith) ∙ rw (e, rest) in
      rw (eqb-suc-zero i, chain_from) (ap (λ (x : ℕ). suc i ∷ chain_from R fuel (retain R n keep w) x) link)

  follow_from : (k i fuel : ℕ) → i + k ≡ n → k ≤ fuel
      → chain_from R fuel (retain R n keep w) (lowest_free keep k (suc i)) ≡ free_cells keep k (suc i)
  unfolding lowest_free free_cells
  follow_from zero i fuel last enough = follow_nil fuel
  follow_from (suc k) i zero last enough = absurd (omega arith)
  follow_from (suc k) i (suc fuel) last enough = go (keep (suc i)) refl (λ f e. follow_from k (suc i) f (omega arith) e)
    where
      go : (t : Bool) → keep (suc i) ≡ t
          → ((f : ℕ) → k ≤ f → chain_from R f (retain R n keep w) (lowest_free keep k (suc (suc i))) ≡ free_cells keep k (suc (suc i)))
          → chain_from R (suc fuel) (retain R n keep w) (lowest_free keep (suc k) (suc i)) ≡ free_cells keep (suc k) (suc i)
      go true e rest = rw (e, lowest_free, free_cells) (rest (suc fuel) (omega arith))
      go false e rest = rw (e, lowest_free, free_cells) (follow_cell k i fuel last e ∙ ap (λ (l : List ℕ). suc i ∷ l) (rest fuel (omega arith)))

pub retained_free_list : RetainedFreeList
retained_free_list R n keep w some room =
    let all : n - 0 ≡ n = omega arith in
    rw (retain-head R n keep w room some, all) (follow_from R n keep w room n 0 n (omega arith) (omega arith))

module _ (R n : ℕ) (keep : ℕ → Bool) (w : List ℕ) (room : pool_length R n ≤ length w) where
  pub retained_state : (i : ℕ) → 0 < i → i ≤ n → keep i ≡ true → state R (retain R n keep w) i ≡ as_used (state R w i)
  retained_state i low high e = retain-cell R n keep w room i 0 low high (omega arith) ∙ rw e

  pub retained_used : (i : ℕ) → 0 < i → i ≤ n → keep i ≡ true → is_used (state R (retain R n keep w) i) ≡ true
  retained_used i low high e = ap is_used (retained_state i low high e) ∙ used-used (state R w i)

  pub retained_free : (i : ℕ) → 0 < i → i ≤ n → keep i ≡ false → state R (retain R n keep w) i ≡ free_state
  retained_free i low high e = retain-cell R n keep w room i 0 low high (omega arith) ∙ rw e

  -- a kept cell keeps its links and its value
  pub retained_same : (i f : ℕ) → 0 < i → i ≤ n → suc f < 4 → keep i ≡ true → cell R (retain R n keep w) i (suc f) ≡ cell R w i (suc f)
  retained_same i f low high hf e = retain-cell R n keep w room i (suc f) low high hf ∙ rw e
