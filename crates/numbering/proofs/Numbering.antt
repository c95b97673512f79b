-- The numbers of cells by their places in a list: who has one, which one, and what one more cell at the end changes.
use Prim.Native.Nat.{ℕ, zero, suc, ◌+◌, ◌-◌, ◌<◌, ◌≤◌}
use native.Mathlib.Omega.{arith}
use native.Mathlib.Decide.{ℕ_discrete}
use mathlib.Core.Path.{◌≡◌, refl, sym, ◌∙◌}
use mathlib.Core.List.{List, [], ◌∷◌, ◌++◌, Memᴰ}
use lib.ListN.{length, get_or}
use borrow.Author.Tests.{eq-eqb, ne_eqb}
use Rattle.graph.specs.Theorems.{Distinct}
use Rattle.graph.proofs.Lists.{get_or-member}
use Rattle.image.specs.Image.{place_from, number_in}

place_here : (from y : ℕ) (ys : List ℕ) (x : ℕ) → x ≡ y → place_from from (y ∷ ys) x ≡ from
unfolding place_from
place_here from y ys x e = rw (eq-eqb x y e, place_from)

place_there : (from y : ℕ) (ys : List ℕ) (x : ℕ) → (x ≡ y → ⊥) → place_from from (y ∷ ys) x ≡ place_from (suc from) ys x
unfolding place_from
place_there from y ys x apart = rw (ne_eqb x y apart, place_from)

-- What is not in the list has no number, and what is has one from `from` on.
pub place_none : (from : ℕ) (l : List ℕ) (x : ℕ) → (Memᴰ x l → ⊥) → place_from from l x ≡ 0
unfolding place_from
place_none from [] x out = refl
place_none from (y ∷ ys) x out =
    place_there from y ys x (λ e. out (Memᴰ.head e)) ∙ place_none (suc from) ys x (λ m. out (Memᴰ.tail m))

place-least : (x from : ℕ) (l : List ℕ) → Memᴰ x l → from ≤ place_from from l x
place-least x from l (Memᴰ.head {x = y} {xs = ys} e) = omega (arith, place_here from y ys x e)
place-least x from l (Memᴰ.tail {x = y} {xs = ys} m) = go (place-least x (suc from) ys m) (ℕ_discrete x y)
  where
    go : suc from ≤ place_from (suc from) ys x → Dec (x ≡ y) → from ≤ place_from from (y ∷ ys) x
    go rest (yes e) = omega (arith, place_here from y ys x e)
    go rest (no apart) = omega (arith, place_there from y ys x apart)

pub number-member : (l : List ℕ) (x : ℕ) → Memᴰ x l → 0 < number_in l x
number-member l x m = place-least x 1 l m

-- A number is at most as high as the list is long, and names the place.
pub record Placed (from : ℕ) (l : List ℕ) (x : ℕ) : Type 0 where
  pub low : from ≤ place_from from l x
  pub high : place_from from l x < from + length l
  pub named : get_or l (place_from from l x - from) 0 ≡ x
  pub member : Memᴰ x l

place_placed : (from : ℕ) (l : List ℕ) (x : ℕ) → 0 < place_from from l x → Placed from l x
unfolding place_from
place_placed from [] x some = absurd (omega arith)
place_placed from (y ∷ ys) x some = go (place_placed (suc from) ys x) (ℕ_discrete x y)
  where
    go : (0 < place_from (suc from) ys x → Placed (suc from) ys x) → Dec (x ≡ y) → Placed from (y ∷ ys) x
    go rest (yes e) =
        let here = place_here from y ys x e in
        let none : place_from from (y ∷ ys) x - from ≡ 0 = omega arith in
        record { low = omega arith; high = omega arith; named = rw none (sym e); member = Memᴰ.head e }
    go rest (no apart) =
        let there = place_there from y ys x apart in
        let p = rest (omega arith) in
        let more : place_from from (y ∷ ys) x - from ≡ suc (place_from (suc from) ys x - suc from) = omega (arith, p.low) in
        record { low = omega (arith, p.low); high = omega (arith, p.high); named = rw more p.named; member = Memᴰ.tail p.member }

pub number_placed : (l : List ℕ) (x : ℕ) → 0 < number_in l x → Placed 1 l x
number_placed l x some = place_placed 1 l x some

pub number-most : (l : List ℕ) (x : ℕ) → number_in l x ≤ length l
number-most l x = go (number_in l x) refl
  where
    go : (k : ℕ) → number_in l x ≡ k → number_in l x ≤ length l
    go zero e = omega arith
    go (suc k) e = omega (arith, (number_placed l x (omega arith)).high)

-- The cell at a place has the number of that place, where no cell stands twice.
place_at : (from : ℕ) {l : List ℕ} → Distinct l → (i : ℕ) → i < length l → place_from from l (get_or l i 0) ≡ from + i
place_at from Distinct.none i below = absurd (omega arith)
place_at from (Distinct.more {x = y} {xs = ys} out d) zero below = place_here from y ys y refl ∙ omega arith
place_at from (Distinct.more {x = y} {xs = ys} out d) (suc i) below =
    place_there from y ys (get_or ys i 0) (λ e. out (rw e at (get_or-member ys i (omega arith))))
    ∙ (place_at (suc from) d i (omega arith) ∙ omega arith)

pub number_at : {l : List ℕ} → Distinct l → (i : ℕ) → i < length l → number_in l (get_or l i 0) ≡ suc i
number_at d i below = place_at 1 d i below ∙ omega arith

-- One more cell at the end has the next number, and no other cell's changes.
place-last : (from : ℕ) (l : List ℕ) (x : ℕ) → (Memᴰ x l → ⊥) → place_from from (l ++ (x ∷ [])) x ≡ from + length l
place-last from [] x out = place_here from x [] x refl ∙ omega arith
place-last from (y ∷ ys) x out =
    place_there from y (ys ++ (x ∷ [])) x (λ e. out (Memᴰ.head e))
    ∙ (place-last (suc from) ys x (λ m. out (Memᴰ.tail m)) ∙ omega arith)

place_other : (from : ℕ) (l : List ℕ) (y x : ℕ) → (x ≡ y → ⊥) → place_from from (l ++ (y ∷ [])) x ≡ place_from from l x
unfolding place_from
place_other from [] y x apart = place_there from y [] x apart
place_other from (z ∷ zs) y x apart = go (place_other (suc from) zs y x apart) (ℕ_discrete x z)
  where
    go : place_from (suc from) (zs ++ (y ∷ [])) x ≡ place_from (suc from) zs x → Dec (x ≡ z)
        → place_from from (z ∷ (zs ++ (y ∷ []))) x ≡ place_from from (z ∷ zs) x
    go rest (yes e) = place_here from z (zs ++ (y ∷ [])) x e ∙ sym (place_here from z zs x e)
    go rest (no n) = place_there from z (zs ++ (y ∷ [])) x n ∙ (rest ∙ sym (place_there from z zs x n))

pub number-last : (l : List ℕ) (x : ℕ) → (Memᴰ x l → ⊥) → number_in (l ++ (x ∷ [])) x ≡ length l + 1
number-last l x out = place-last 1 l x out ∙ omega arith

pub number_other : (l : List ℕ) (y x : ℕ) → (x ≡ y → ⊥) → number_in (l ++ (y ∷ [])) x ≡ number_in l x
number_other l y x apart = place_other 1 l y x apart
