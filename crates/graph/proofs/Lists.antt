-- Facts about every member of a list, lists with no member twice, and lists related place by place.
use Prim.Native.Nat.{ℕ, zero, suc, ◌<◌}
use native.Mathlib.Omega.{arith}
use mathlib.Core.Path.{◌≡◌, refl, sym, ap, subst}
use mathlib.Core.Logic.{⊎_elim}
use mathlib.Core.List.Memᴰ
use mathlib.Core.List.{List, [], ◌∷◌, ◌++◌, Memᴰ, Forall₂}
use mathlib.Core.Bool.{Bool, true, false, false≢true, ◌||◌, or-true}
use lib.ListN.{length, get_or}
use lib.Dec.{eqb}
use borrow.Author.Tests.{eq-eqb, ne_eqb, eqb-true}
use Rattle.graph.specs.Preorder.{elem}
use Rattle.graph.specs.Theorems.{Distinct}

-- P holds of each member of a list.
abbrev pub Each : (ℕ → Type 0) → List ℕ → Type 0
Each P t = (x : ℕ) → Memᴰ x t → P x

module _ (P : ℕ → Type 0) where
  pub each_nil : Each P []
  each_nil x h = absurd (Memᴰ.not-nil h)

  pub each_cons : {p : ℕ} {t : List ℕ} → P p → Each P t → Each P (p ∷ t)
  each_cons hp f x h = ⊎_elim (λ e. subst P (sym e) hp) (f x) (Memᴰ.cases_cons h)

  pub each_append : (t : List ℕ) {u : List ℕ} → Each P t → Each P u → Each P (t ++ u)
  each_append t f g x h = ⊎_elim (f x) (g x) (Memᴰ.append_cases t h)

-- The test of membership.
pub has_member : (x : ℕ) {xs : List ℕ} → Memᴰ x xs → elem x xs ≡ true
unfolding elem
has_member x (Memᴰ.head {x = y} e) = rw (eq-eqb x y e)
has_member x (Memᴰ.tail {x = y} {xs = ys} h) = rw (has_member x {xs = ys} h) (or-true (eqb x y))

pub has_none : (x : ℕ) (xs : List ℕ) → (Memᴰ x xs → ⊥) → elem x xs ≡ false
unfolding elem
has_none x [] h = refl
has_none x (y ∷ xs) h = rw (ne_eqb x y (λ e. h (Memᴰ.head e)), has_none x xs (λ k. h (Memᴰ.tail k)))

pub member_has : (x : ℕ) (xs : List ℕ) → elem x xs ≡ true → Memᴰ x xs
unfolding elem
member_has x [] h = absurd (false≢true h)
member_has x (y ∷ xs) h = go (eqb x y) refl h (member_has x xs)
  where
    go : (t : Bool) → eqb x y ≡ t → (t || elem x xs) ≡ true → (elem x xs ≡ true → Memᴰ x xs) → Memᴰ x (y ∷ xs)
    go true e k rest = Memᴰ.head (eqb-true x y e)
    go false e k rest = Memᴰ.tail (rest k)

-- Two lists with no member twice and none in common join to one.
pub distinct_append : {t u : List ℕ} → Distinct t → Distinct u → Each (λ x. Memᴰ x u → ⊥) t → Distinct (t ++ u)
distinct_append Distinct.none b apart = b
distinct_append (Distinct.more {x = x} {xs = xs} n a) b apart =
    Distinct.more (λ h. ⊎_elim n (apart x (Memᴰ.head refl)) (Memᴰ.append_cases xs h))
    (distinct_append a b (λ y h. apart y (Memᴰ.tail h)))

-- And where two lists join to one with no member twice, none is in common.
pub distinct_parts : (t : List ℕ) {u : List ℕ} → Distinct (t ++ u) → Each (λ x. Memᴰ x u → ⊥) t × Distinct u
distinct_parts [] {u} d = (each_nil (λ x. Memᴰ x u → ⊥), d)
distinct_parts (y ∷ t) {u} (Distinct.more n d) =
    let (apart, later) = distinct_parts t d in
    (each_cons (λ x. Memᴰ x u → ⊥) (λ h. n (Memᴰ.append_right t h)) apart, later)

-- What stands at a place of a list is a member.
pub get_or-member : (t : List ℕ) (i : ℕ) → i < length t → Memᴰ (get_or t i 0) t
get_or-member [] i h = absurd (omega arith)
get_or-member (x ∷ t) zero h = Memᴰ.head refl
get_or-member (x ∷ t) (suc i) h = Memᴰ.tail (get_or-member t i (omega arith))

module _ {R : ℕ → ℕ → Type 0} where
  -- Two lists of one length are related place by place where their members are.
  pub forall₂_places : (t u : List ℕ) → length t ≡ length u → ((i : ℕ) → i < length t → R (get_or t i 0) (get_or u i 0)) → Forall₂ R t u
  forall₂_places [] [] e f = Forall₂.nil
  forall₂_places [] (y ∷ u) e f = absurd (omega arith)
  forall₂_places (x ∷ t) [] e f = absurd (omega arith)
  forall₂_places (x ∷ t) (y ∷ u) e f =
      Forall₂.cons (f 0 (omega arith)) (forall₂_places t u (omega arith) (λ i h. f (suc i) (omega arith)))

  pub forall₂_get_or : {t u : List ℕ} → Forall₂ R t u → (i : ℕ) → i < length t → R (get_or t i 0) (get_or u i 0)
  forall₂_get_or Forall₂.nil i h = absurd (omega arith)
  forall₂_get_or (Forall₂.cons r rs) zero h = r
  forall₂_get_or (Forall₂.cons r rs) (suc i) h = forall₂_get_or rs i (omega arith)

  pub forall₂_length : {t u : List ℕ} → Forall₂ R t u → length t ≡ length u
  forall₂_length Forall₂.nil = refl
  forall₂_length (Forall₂.cons r rs) = ap suc (forall₂_length rs)

  pub forall₂_append : {t u s v : List ℕ} → Forall₂ R t u → Forall₂ R s v → Forall₂ R (t ++ s) (u ++ v)
  forall₂_append Forall₂.nil b = b
  forall₂_append (Forall₂.cons r rs) b = Forall₂.cons r (forall₂_append rs b)
