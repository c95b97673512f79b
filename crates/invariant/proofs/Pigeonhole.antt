-- A list of numbers from 1 to n with none twice is at most n long.
use Prim.Native.Nat.{ℕ, ◌+◌, ◌<◌, ◌≤◌}
use native.Mathlib.Omega.{arith}
use mathlib.Core.Path.{◌≡◌, refl, subst}
use mathlib.Core.Logic.{⊎_elim}
use mathlib.Core.List.{List, Memᴰ}
use lib.ListN.{length}
use Rattle.graph.specs.Marking.{marked_count}
use Rattle.graph.specs.Theorems.{Distinct}
use Rattle.graph.specs.Dfs.{mark, marks}
use Rattle.graph.proofs.Lists.{Each}
use Rattle.graph.proofs.Marks.{zero_or_above, mark_cases}
use Rattle.graph.proofs.Count.{marked-le, marked-mark}

-- Marking the members of such a list one after the other marks one cell more each time.
marks-count : (n : ℕ) {t : List ℕ} → Distinct t → (m : ℕ → ℕ) → Each (λ x. (0 < x) × (x ≤ n) × (m x ≡ 0)) t
    → marked_count n (marks m t) ≡ length t + marked_count n m
unfolding marks
marks-count n Distinct.none m cells = omega arith
marks-count n (Distinct.more {x = x} {xs = t} new rest) m cells =
    let here = cells x (Memᴰ.head refl) in
    omega (
      arith,
      marks-count n rest (mark m x) (λ y k. ((cells y (Memᴰ.tail k)).0, (cells y (Memᴰ.tail k)).1, unmarked y k)),
      marked-mark n m x here.0 here.1 here.2,
    )
  where
    unmarked : (y : ℕ) → Memᴰ y t → mark m x y ≡ 0
    unmarked y k =
        ⊎_elim (λ e. e)
        (λ above.
        absurd (⊎_elim (λ e. new (subst (λ (z : ℕ). Memᴰ z t) e k)) (λ old. omega (arith, (cells y (Memᴰ.tail k)).2)) (mark_cases m x y above)))
        (zero_or_above (mark m x y))

pub distinct-length : (n : ℕ) {t : List ℕ} → Distinct t → Each (λ x. (0 < x) × (x ≤ n)) t → length t ≤ n
distinct-length n {t} once cells =
    omega (arith, marks-count n once (λ x. 0) (λ x k. ((cells x k).0, (cells x k).1, refl)), marked-le n (marks (λ x. 0) t))
