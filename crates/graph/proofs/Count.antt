-- How many cells are marked: one more for each cell that is newly marked.
use Prim.Native.Nat.{ℕ, zero, suc, ◌+◌, ◌<◌, ◌≤◌}
use native.Mathlib.Omega.{arith}
use native.Mathlib.Decide.{ℕ_discrete}
use mathlib.Core.Path.{◌≡◌, refl, sym, ap, ◌∙◌}
use mathlib.Core.Logic.{⊎_elim, ◌↔◌}
use mathlib.Core.List.{List}
use lib.ListN.{length, length-append}
use borrow.Author.Tests.{lt-ltb, le-ltb}
use Rattle.graph.specs.Graph.{Graph}
use Rattle.graph.specs.Marking.{marked_count, outside}
use Rattle.graph.specs.Dfs.{Dfs, DfsAll, mark, marks}
use Rattle.graph.proofs.Marks.{Cells, cells-mark, cells-marks, zero_or_above, before, mark_self, mark-keeps, mark_cases, marks-append, outside-cell}

marked-cell : (n : ℕ) (m : ℕ → ℕ) → 0 < m (suc n) → marked_count (suc n) m ≡ suc (marked_count n m)
unfolding marked_count
marked-cell n m h = simp (lt-ltb 0 (m (suc n)) h) (omega arith)

unmarked-cell : (n : ℕ) (m : ℕ → ℕ) → m (suc n) ≡ 0 → marked_count (suc n) m ≡ marked_count n m
unfolding marked_count
unmarked-cell n m e = simp (le-ltb 0 (m (suc n)) (omega arith)) (omega arith)

pub marked-le : (n : ℕ) (m : ℕ → ℕ) → marked_count n m ≤ n
unfolding marked_count
marked-le zero m = omega arith
marked-le (suc n) m =
    ⊎_elim (λ e. omega (arith, unmarked-cell n m e, marked-le n m)) (λ h. omega (arith, marked-cell n m h, marked-le n m))
    (zero_or_above (m (suc n)))

-- Equally many cells are marked where the same cells are marked.
pub marked-same : (n : ℕ) (m f : ℕ → ℕ) → ((x : ℕ) → 0 < x → x ≤ n → (0 < m x) ↔ (0 < f x)) → marked_count n m ≡ marked_count n f
unfolding marked_count
marked-same zero m f same = refl
marked-same (suc n) m f same =
    let here : (0 < m (suc n)) ↔ (0 < f (suc n)) = same (suc n) (omega arith) (omega arith) in
    let rest : marked_count n m ≡ marked_count n f = marked-same n m f (λ x h k. same x h (omega arith)) in
    ⊎_elim (λ e. unmarked-cell n m e ∙ rest ∙ sym (unmarked-cell n f (before here.1 e)))
    (λ h. marked-cell n m h ∙ ap suc rest ∙ sym (marked-cell n f (here.0 h))) (zero_or_above (m (suc n)))

-- One more cell is marked where a cell is newly marked.
pub marked-mark : (n : ℕ) (m : ℕ → ℕ) (p : ℕ) → 0 < p → p ≤ n → m p ≡ 0 → marked_count n (mark m p) ≡ suc (marked_count n m)
marked-mark zero m p h k e = absurd (omega arith)
marked-mark (suc n) m p h k e = go (marked-mark n m p h) (ℕ_discrete p (suc n))
  where
    others : (x : ℕ) → (x ≡ p → ⊥) → (0 < m x) ↔ (0 < mark m p x)
    others x ne = (mark-keeps m p x, λ d. ⊎_elim (λ q. absurd (ne q)) (λ c. c) (mark_cases m p x d))

    go : (p ≤ n → m p ≡ 0 → marked_count n (mark m p) ≡ suc (marked_count n m)) → Dec (p ≡ suc n)
        → marked_count (suc n) (mark m p) ≡ suc (marked_count (suc n) m)
    go ih (yes q) =
        marked-cell n (mark m p) (mark_self m p (suc n) (sym q))
        ∙ ap suc (sym (marked-same n m (mark m p) (λ x a b. others x (omega arith))) ∙ sym (unmarked-cell n m (ap m (sym q) ∙ e)))
    go ih (no q) =
        let last : (0 < m (suc n)) ↔ (0 < mark m p (suc n)) = others (suc n) (λ c. q (sym c)) in
        let rest : marked_count n (mark m p) ≡ suc (marked_count n m) = ih (omega arith) e in
        ⊎_elim (λ z. unmarked-cell n (mark m p) (before last.1 z) ∙ rest ∙ ap suc (sym (unmarked-cell n m z)))
        (λ c. marked-cell n (mark m p) (last.0 c) ∙ ap suc (rest ∙ sym (marked-cell n m c))) (zero_or_above (m (suc n)))

-- Where no cell is marked, none is counted.
pub marked-none : (n : ℕ) (m : ℕ → ℕ) → ((x : ℕ) → 0 < x → x ≤ n → m x ≡ 0) → marked_count n m ≡ 0
unfolding marked_count
marked-none zero m h = refl
marked-none (suc n) m h =
    unmarked-cell n m (h (suc n) (omega arith) (omega arith)) ∙ marked-none n m (λ x a b. h x a (omega arith))

pub marked-outside : (n : ℕ) → marked_count n (outside n) ≡ 0
marked-outside n = marked-none n (outside n) (outside-cell n)

module _ {g : Graph} {n : ℕ} where
  -- A visit marks as many cells more as it lists.
  pub counts : {m : ℕ → ℕ} {p : ℕ} {t : List ℕ} → Dfs g m p t → Cells n m → marked_count n (marks m t) ≡ length t + marked_count n m
  unfolding marks
  counts (Dfs.stop h) c = omega arith
  counts (Dfs.step {m = m} {p = p} {t = t} {u = u} e a b) c =
      rw (marks-append (mark m p) t u, length-append t u)
      (omega (
        arith,
        counts b (cells-marks t (cells-mark p c)),
        counts a (cells-mark p c),
        marked-mark n m p (c.above p e) (c.below p e) e,
      ))

  pub all_counts : {m : ℕ → ℕ} {ps t : List ℕ} → DfsAll g m ps t → Cells n m → marked_count n (marks m t) ≡ length t + marked_count n m
  unfolding marks
  all_counts DfsAll.none c = omega arith
  all_counts (DfsAll.next {m = m} {t = t} {u = u} a b) c =
      rw (marks-append m t u, length-append t u) (omega (arith, all_counts b (cells-marks t c), counts a c))
