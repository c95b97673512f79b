-- What is marked after one cell, or each cell of a list, is marked too.
use Prim.Native.Nat.{ℕ, ◌<◌, ◌≤◌}
use native.Mathlib.Omega.{arith}
use native.Mathlib.Decide.{ℕ_discrete, dec_le}
use mathlib.Core.Path.{◌≡◌, refl}
use mathlib.Core.Logic.{◌⊎◌, inl, inr, ⊎_elim}
use mathlib.Core.List.{List, [], ◌∷◌, ◌++◌, Memᴰ}
use borrow.Author.Tests.{eq-eqb, ne_eqb, le-ltb, lt-ltb}
use Rattle.graph.specs.Marking.{outside}
use Rattle.graph.specs.Dfs.{mark, marks}

-- A number is 0 or above 0.
pub zero_or_above : (k : ℕ) → (k ≡ 0) ⊎ (0 < k)
zero_or_above ℕ.zero = inl refl
zero_or_above (ℕ.suc k) = inr (omega arith)

-- Where what marks a marks b, and b is unmarked, a is.
pub before : {a b : ℕ} → (0 < a → 0 < b) → b ≡ 0 → a ≡ 0
before {a} f e = ⊎_elim (λ z. z) (λ h. absurd (omega (arith, f h))) (zero_or_above a)

-- Where nil is marked, what is unmarked is not nil.
pub above_nil : (m : ℕ → ℕ) (x : ℕ) → 0 < m 0 → m x ≡ 0 → 0 < x
above_nil m ℕ.zero h e = absurd (omega arith)
above_nil m (ℕ.suc x) h e = omega arith

pub mark_self : (m : ℕ → ℕ) (x y : ℕ) → y ≡ x → 0 < mark m x y
unfolding mark
mark_self m x y e = rw (eq-eqb y x e) (omega arith)

pub mark_other : (m : ℕ → ℕ) (p x : ℕ) → (x ≡ p → ⊥) → mark m p x ≡ m x
unfolding mark
mark_other m p x apart = simp (ne_eqb x p apart)

pub mark-keeps : (m : ℕ → ℕ) (x y : ℕ) → 0 < m y → 0 < mark m x y
unfolding mark
mark-keeps m x y h = go (ℕ_discrete y x)
  where
    go : Dec (y ≡ x) → 0 < mark m x y
    go (yes e) = mark_self m x y e
    go (no e) = rw (ne_eqb y x e) h

pub mark_cases : (m : ℕ → ℕ) (x y : ℕ) → 0 < mark m x y → (y ≡ x) ⊎ (0 < m y)
unfolding mark
mark_cases m x y h = go (ℕ_discrete y x)
  where
    go : Dec (y ≡ x) → (y ≡ x) ⊎ (0 < m y)
    go (yes e) = inl e
    go (no e) = inr (rw (ne_eqb y x e) at h)

-- Where b marks y if a marks x, it still does when p and q are marked too, if y is q where x is p.
pub mark_along : (a b : ℕ → ℕ) (p q x y : ℕ) → (x ≡ p → y ≡ q) → (0 < a x → 0 < b y) → 0 < mark a p x → 0 < mark b q y
mark_along a b p q x y here others h = ⊎_elim (λ e. mark_self b q y (here e)) (λ k. mark-keeps b q y (others k)) (mark_cases a p x h)

pub marks-keeps : (m : ℕ → ℕ) (t : List ℕ) (y : ℕ) → 0 < m y → 0 < marks m t y
unfolding marks
marks-keeps m [] y h = h
marks-keeps m (x ∷ t) y h = marks-keeps (mark m x) t y (mark-keeps m x y h)

marks_of : {y : ℕ} {t : List ℕ} (m : ℕ → ℕ) → Memᴰ y t → 0 < marks m t y
unfolding marks
marks_of {y = y} m (Memᴰ.head {x = x} {xs = t} e) = marks-keeps (mark m x) t y (mark_self m x y e)
marks_of m (Memᴰ.tail {x = x} h) = marks_of (mark m x) h

pub marks-member : (m : ℕ → ℕ) {t : List ℕ} (y : ℕ) → Memᴰ y t → 0 < marks m t y
marks-member m y h = marks_of m h

pub marks_cases : (m : ℕ → ℕ) (t : List ℕ) (y : ℕ) → 0 < marks m t y → Memᴰ y t ⊎ (0 < m y)
unfolding marks
marks_cases m [] y h = inr h
marks_cases m (x ∷ t) y h =
    ⊎_elim (λ k. inl (Memᴰ.tail k)) (λ k. ⊎_elim (λ e. inl (Memᴰ.head e)) inr (mark_cases m x y k))
    (marks_cases (mark m x) t y h)

pub marks-append : (m : ℕ → ℕ) (t u : List ℕ) → marks m (t ++ u) ≡ marks (marks m t) u
unfolding marks
marks-append m [] u = refl
marks-append m (x ∷ t) u = marks-append (mark m x) t u

-- Marks under which every number is marked but some of the cells 1 to n.
pub record Cells (n : ℕ) (m : ℕ → ℕ) : Type 0 where
  pub above : (x : ℕ) → m x ≡ 0 → 0 < x
  pub below : (x : ℕ) → m x ≡ 0 → x ≤ n

pub cells-more : {n : ℕ} {m f : ℕ → ℕ} → Cells n m → ((x : ℕ) → 0 < m x → 0 < f x) → Cells n f
cells-more c more = record { above = λ x e. c.above x (before (more x) e); below = λ x e. c.below x (before (more x) e) }

pub cells-mark : {n : ℕ} {m : ℕ → ℕ} (p : ℕ) → Cells n m → Cells n (mark m p)
cells-mark {m = m} p c = cells-more c (mark-keeps m p)

pub cells-marks : {n : ℕ} {m : ℕ → ℕ} (t : List ℕ) → Cells n m → Cells n (marks m t)
cells-marks {m = m} t c = cells-more c (marks-keeps m t)

pub outside-cell : (n x : ℕ) → 0 < x → x ≤ n → outside n x ≡ 0
unfolding outside
outside-cell n x h k = rw (ne_eqb x 0 (omega arith), le-ltb)

pub outside-past : (n x : ℕ) → n < x → 0 < outside n x
unfolding outside
outside-past n x h = rw (ne_eqb x 0 (omega arith), lt-ltb) (omega arith)

pub outside-nil : (n : ℕ) → 0 < outside n 0
unfolding outside
outside-nil n = omega arith

pub cells-outside : (n : ℕ) → Cells n (outside n)
cells-outside n = record { above = λ x. above_nil (outside n) x (outside-nil n); below = below }
  where
    below : (x : ℕ) → outside n x ≡ 0 → x ≤ n
    below x e = elim (dec_le x n) [ yes h ↦ h | no h ↦ absurd (omega (arith, outside-past n x (omega arith))) ]
