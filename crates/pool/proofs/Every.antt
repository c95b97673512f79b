-- The laws of `every` and `tabulate`.
use Prim.Native.Nat.{ℕ, zero, suc, ◌+◌, ◌-◌, ◌<◌, ◌≤◌}
use Rattle.std.specs.List.{list_all, range_with_len}
use mathlib.Core.Path.{◌≡◌, refl, sym, ap, ap₂, ◌∙◌}
use mathlib.Core.Logic.{⊎_elim}
use mathlib.Core.List.Memᴰ
use mathlib.Core.List.{List, [], ◌∷◌, ◌++◌, Memᴰ}
use mathlib.Core.Bool.{Bool, true, false, ◌&&◌}
use native.Mathlib.Omega.{arith}
use native.Mathlib.Decide.{dec_lt}
use lib.ListN.{length, get_or, length-append, get_or-append}
use lib.Seq.{get_or_at, ext_get_or}
use Rattle.pool.specs.Words.{tabulate, every}
use Rattle.pool.proofs.Sizes.{both}

-- nothing to test
module _ (p : ℕ → Bool) where
  pub every-none : (k : ℕ) → k ≤ 0 → every k p ≡ true
  unfolding every
  every-none zero h = refl
  every-none (suc k) h = absurd (omega arith)

  -- where every number passes, each does; and the other way round
  pub every_each : (n : ℕ) → every n p ≡ true → (k : ℕ) → k < n → p k ≡ true
  unfolding every
  every_each zero h k below = absurd (omega arith)
  every_each (suc n) h k below = go (both (p n) (every n p) h) (λ rest. every_each n rest k) (dec_lt k n)
    where
      go : (p n ≡ true) × (every n p ≡ true) → (every n p ≡ true → k < n → p k ≡ true) → Dec (k < n) → p k ≡ true
      go parts rest (yes less) = rest parts.1 less
      go parts rest (no same) = let last : k ≡ n = omega arith in rw last parts.0

  pub each_every : (n : ℕ) → ((k : ℕ) → k < n → p k ≡ true) → every n p ≡ true
  unfolding every
  each_every zero h = refl
  each_every (suc n) h = simp (h n (omega arith)) (each_every n λ k below. h k (omega arith))

-- the lowest number, and those above it
every_first : (n : ℕ) (q : ℕ → Bool) → every (suc n) q ≡ (q 0 && every n (λ k. q (suc k)))
unfolding every
every_first zero q = refl
every_first (suc n) q = ap (λ (b : Bool). q (suc n) && b) (every_first n q) ∙ swap (q (suc n)) (q 0) (every n (λ k. q (suc k)))
  where
    swap : (a b c : Bool) → (a && (b && c)) ≡ (b && (a && c))
    swap true b c = refl
    swap false true c = refl
    swap false false c = refl

-- two tests that agree wherever they are asked
pub every_cong : (n : ℕ) (p q : ℕ → Bool) → ((k : ℕ) → k < n → p k ≡ q k) → every n p ≡ every n q
unfolding every
every_cong zero p q same = refl
every_cong (suc n) p q same = ap₂ (λ (a b : Bool). a && b) (same n (omega arith)) (every_cong n p q λ k below. same k (omega arith))

-- the test of every number of a range
range-from : (n a : ℕ) (p : ℕ → Bool) → list_all p (range_with_len a n) ≡ every n (λ k. p (a + k))
range-from zero a p = sym (every-none (λ k. p (a + k)) zero (omega arith))
range-from (suc n) a p =
    ap₂ (λ (b c : Bool). b && c) (ap p (omega arith))
    (range-from n (a + 1) p ∙ every_cong n (λ k. p (a + 1 + k)) (λ k. p (a + suc k)) λ k below. ap p (omega arith))
    ∙ sym (every_first n (λ k. p (a + k)))

pub every_range : (n : ℕ) (p : ℕ → Bool) → list_all p (range_with_len 0 n) ≡ every n p
every_range n p = range-from n 0 p ∙ every_cong n (λ k. p (0 + k)) p λ k below. ap p (omega arith)

-- from the highest number down
pub every_down : (n : ℕ) (p : ℕ → Bool) → every n (λ k. p (n - 1 - k)) ≡ every n p
every_down n p = go (every n λ k. p (n - 1 - k)) (every n p) refl refl
  where
    go : (a b : Bool) → every n (λ k. p (n - 1 - k)) ≡ a → every n p ≡ b → a ≡ b
    go true true e f = refl
    go false false e f = refl
    go true false e f =
        sym
        (each_every p n λ k below.
        let this : n - 1 - (n - 1 - k) ≡ k = omega arith in rw this at (every_each (λ k. p (n - 1 - k)) n e (n - 1 - k) (omega arith)))
        ∙ f
    go false true e f = sym e ∙ each_every (λ k. p (n - 1 - k)) n λ k below. every_each p n f (n - 1 - k) (omega arith)

pub length-tabulate : (n : ℕ) (f : ℕ → ℕ) → length (tabulate n f) ≡ n
unfolding tabulate
length-tabulate zero f = refl
length-tabulate (suc n) f = simp (length-append, length-tabulate n f) (omega arith)

pub get_or-tabulate : (n : ℕ) (f : ℕ → ℕ) (k d : ℕ) → k < n → get_or (tabulate n f) k d ≡ f k
unfolding tabulate
get_or-tabulate zero f k d below = absurd (omega arith)
get_or-tabulate (suc n) f k d below = go (λ less. get_or-tabulate n f k d less) (dec_lt k n)
  where
    go : (k < n → get_or (tabulate n f) k d ≡ f k) → Dec (k < n) → get_or (tabulate n f ++ (f n ∷ [])) k d ≡ f k
    go rest (yes less) = get_or-append (tabulate n f) (f n ∷ []) d k (rw (length-tabulate n f) less) ∙ rest less
    go rest (no same) =
        let last : n ≡ k = omega arith in
        rw (← last) (get_or_at (tabulate n f) (f n) [] d n (length-tabulate n f))

-- by its front: the first, and then the others
pub tabulate_first : (n : ℕ) (f : ℕ → ℕ) → 0 < n → tabulate n f ≡ f 0 ∷ tabulate (n - 1) (λ k. f (suc k))
unfolding tabulate
tabulate_first zero f some = absurd (omega arith)
tabulate_first (suc zero) f some = refl
tabulate_first (suc (suc n)) f some =
    let less : suc n - 1 ≡ n = omega arith in
    let next : suc (suc n) - 1 ≡ suc n = omega arith in
    rw next (ap (λ (l : List ℕ). l ++ (f (suc n) ∷ [])) (rw less at (tabulate_first (suc n) f (omega arith))))

-- two lists by a rule are equal where the rules agree
pub tabulate_cong : (n : ℕ) (f g : ℕ → ℕ) → ((k : ℕ) → k < n → f k ≡ g k) → tabulate n f ≡ tabulate n g
unfolding tabulate
tabulate_cong zero f g same = refl
tabulate_cong (suc n) f g same = ap₂ (λ (l : List ℕ) (x : ℕ). l ++ (x ∷ [])) (tabulate_cong n f g λ k below. same k (omega arith)) (same n (omega arith))

-- a list is given by the rule of its words
pub tabulate-list : (n : ℕ) (f : ℕ → ℕ) (l : List ℕ) → length l ≡ n → ((k : ℕ) → k < n → get_or l k 0 ≡ f k) → l ≡ tabulate n f
tabulate-list n f l len same =
    ext_get_or 0 l (tabulate n f) (len ∙ sym (length-tabulate n f)) λ k below.
    same k (rw len at below) ∙ sym (get_or-tabulate n f k 0 (rw len at below))

-- what stands in a list by a rule
pub tabulate-member : (n : ℕ) (f : ℕ → ℕ) (x : ℕ) → Memᴰ x (tabulate n f) → (k : ℕ) × (k < n) × (x ≡ f k)
unfolding tabulate
tabulate-member zero f x mem = absurd (Memᴰ.not-nil mem)
tabulate-member (suc n) f x mem =
    ⊎_elim (λ m. let (k, h, e) = tabulate-member n f x m in (k, omega arith, e)) (λ m. (n, omega arith, Memᴰ.eq_of_singleton m))
    (Memᴰ.append_cases (tabulate n f) mem)

pub member-tabulate : (n : ℕ) (f : ℕ → ℕ) (k : ℕ) → k < n → Memᴰ (f k) (tabulate n f)
unfolding tabulate
member-tabulate zero f k low = absurd (omega arith)
member-tabulate (suc n) f k low = go (λ less. member-tabulate n f k less) (dec_lt k n)
  where
    go : (k < n → Memᴰ (f k) (tabulate n f)) → Dec (k < n) → Memᴰ (f k) (tabulate n f ++ (f n ∷ []))
    go rest (yes less) = Memᴰ.append_left (f n ∷ []) (rest less)
    go rest (no same) = let last : k ≡ n = omega arith in Memᴰ.append_right (tabulate n f) (Memᴰ.head (ap f last))
