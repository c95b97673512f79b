-- Fresh words: what `Pool::fresh` leaves, and that every cell is on the free list.
use Prim.Native.Nat.{ℕ, zero, suc, ◌+◌, ◌*◌, ◌-◌, ◌<◌, ◌≤◌}
use native.Mathlib.Omega.{arith}
use mathlib.Core.Path.{◌≡◌, refl, sym, ap, ◌∙◌}
use mathlib.Core.List.{List, [], ◌∷◌, ◌++◌}
use mathlib.Core.Bool.{false}
use lib.ListN.{length, get_or, set, take, drop, replicate, length-replicate, length-append, length-take, length-drop, length-set, drop_of_length-le, get_or-append}
use lib.Seq.{get_or-set_other, get_or-drop, drop_at}
use lib.Dec.{leb}
use borrow.Author.Tests.{lt-ltb, lt-leb}
use Rattle.pool.specs.Words.{tabulate}
use Rattle.pool.specs.Layout.{register_count, first_register, pool_length, cell_count_of_length, leftover_of_length, register, count, set_count}
use Rattle.pool.specs.Retain.{retain, free_cells, blank_words, fresh_words}
use Rattle.answers.specs.Outcome.{Outcome, answered}
use Rattle.pool.specs.Fresh.{fresh_of, FreshIsFree}
use Rattle.pool.proofs.Every.{tabulate-list, tabulate_cong}
use Rattle.pool.proofs.Retained.{length-retain, retain_cong}
use Rattle.pool.proofs.RetainedPool.{retained_free_list}

zeros : (m k : ℕ) → get_or {A = ℕ} (replicate m 0) k 0 ≡ 0
zeros zero k = refl
zeros (suc m) zero = refl
zeros (suc m) (suc k) = zeros m k

-- what fresh words are made of, where the lent words are as long as n cells need: n, and 0 everywhere else
module _ (R n : ℕ) (w : List ℕ) (room : pool_length R n ≤ length w) where
  pub blank_length : length (blank_words R n w) ≡ length w
  unfolding set_count
  blank_length = simp (length-set, length-append, length-replicate, length-drop) (omega arith)

  pub fresh-length : length (fresh_words R n w) ≡ length w
  fresh-length = length-retain R n (λ i. false) (blank_words R n w) ∙ blank_length

  pub blank_count : count (blank_words R n w) ≡ n
  unfolding count set_count
  blank_count = let place : pool_length R n ≡ suc (1 + R + 4 * n) = omega arith in rw place refl

  pub blank_zero : (k : ℕ) → 0 < k → k < pool_length R n → get_or (blank_words R n w) k 0 ≡ 0
  unfolding set_count
  blank_zero k low high = before _
    where
      before : (behind : List ℕ) → get_or (set (replicate (pool_length R n) 0 ++ behind) 0 n) k 0 ≡ 0
      before behind =
          get_or-set_other (replicate (pool_length R n) 0 ++ behind) 0 k n 0 (λ e. omega arith)
          ∙ (get_or-append (replicate (pool_length R n) 0) behind 0 k (simp length-replicate (omega arith)) ∙ zeros (pool_length R n) k)

  pub blank_register : (k : ℕ) → k < R → register (blank_words R n w) k ≡ 0
  unfolding register
  blank_register k low = blank_zero (first_register + k) (omega arith) (omega arith)

  -- and what stands behind the cells
  pub blank_behind : (k : ℕ) → pool_length R n ≤ k → get_or (blank_words R n w) k 0 ≡ get_or w k 0
  unfolding set_count
  blank_behind k past = get_or-set_other cleared 0 k n 0 (λ e. omega arith) ∙ rw place at at_tail
    where
      end : ℕ
      end = pool_length R n

      cleared : List ℕ
      cleared = replicate end 0 ++ drop end w

      place : end + (k - end) ≡ k
      place = omega arith

      at_tail : get_or cleared (end + (k - end)) 0 ≡ get_or w (end + (k - end)) 0
      at_tail =
          sym (get_or-drop end cleared (k - end) 0)
          ∙ (ap (λ (v : List ℕ). get_or v (k - end) 0) (drop_at (replicate end 0) (drop end w) end (length-replicate end 0)) ∙ get_or-drop end w (k - end) 0)

-- where the first 0 cells are kept, none is
none_kept : (R n : ℕ) (w : List ℕ) → retain R n (λ j. leb j 0) w ≡ retain R n (λ i. false) w
none_kept R n w = retain_cong R n (λ j. leb j 0) (λ i. false) w w refl (λ j low high. lt-leb j 0 low) (λ k h e. refl) (λ j f low high hf e. refl)

-- what is lent does not matter where nothing of it stands behind the cells
pub fresh-exact : (R n : ℕ) (w : List ℕ) → length w ≡ pool_length R n → fresh_words R n w ≡ fresh_words R n []
fresh-exact R n w exact =
    let none : drop (pool_length R n) w ≡ [] = drop_of_length-le w {i = pool_length R n} (omega arith) in
    let empty : drop {A = ℕ} (pool_length R n) [] ≡ [] = drop_of_length-le [] {i = pool_length R n} (omega arith) in
    rw (none, empty) refl

-- what `blank` leaves: the part that is cleared, what stands behind it, and n in word 0
pub blank_made : (n : ℕ) (w part : List ℕ) → pool_length register_count n ≤ length w → part ≡ replicate (length (take (pool_length register_count n) w)) 0
    → set (part ++ drop (pool_length register_count n) w) 0 n ≡ blank_words register_count n w
unfolding set_count
blank_made n w part room clear =
    let all : length (take (pool_length register_count n) w) ≡ pool_length register_count n = simp length-take (omega arith) in
    rw (clear, all) refl

-- what `Pool::fresh` leaves where the length is that of n cells: n goes to word 0, all else up to the end of the cells is cleared, and all cells are freed
module _ (w : List ℕ) (n : ℕ) (cells : n ≡ cell_count_of_length register_count (length w)) (some : n ≡ 0 → ⊥) where
  pub fresh_made : (blank freed : List ℕ) → blank ≡ blank_words register_count n w → freed ≡ retain register_count n (λ j. leb j 0) blank
      → ◌≡◌ {A = Outcome × List ℕ} (answered (n ∷ leftover_of_length register_count (length w) ∷ []), freed) (fresh_of w)
  fresh_made blank freed start made =
      let words : freed ≡ fresh_words register_count n w = made ∙ (none_kept register_count n blank ∙ ap (retain register_count n (λ i. false)) start) in
      simp (← cells, lt-ltb 0 n (omega (arith, some)), words)

-- with no cell kept, the free cells are all cells, in order
all-free : (k i : ℕ) → free_cells (λ j. false) k i ≡ tabulate k (λ j. i + j)
unfolding free_cells
all-free k i = tabulate-list k (λ j. i + j) (free_cells (λ j. false) k i) (size k i) (place k i)
  where
    size : (k i : ℕ) → length (free_cells (λ j. false) k i) ≡ k
    size zero i = refl
    size (suc k) i = ap suc (size k (suc i))

    place : (k i j : ℕ) → j < k → get_or (free_cells (λ l. false) k i) j 0 ≡ i + j
    place zero i j below = absurd (omega arith)
    place (suc k) i zero below = omega arith
    place (suc k) i (suc j) below = place k (suc i) j (omega arith) ∙ omega arith

pub fresh_is_free : FreshIsFree
fresh_is_free n w some room =
    retained_free_list register_count n (λ i. false) (blank_words register_count n w) some (omega (arith, blank_length register_count n w room))
    ∙ (all-free n 1 ∙ tabulate_cong n (λ j. 1 + j) suc (λ k below. omega arith))
