-- The left comb: all of its cells are reached, and its chain is gone down with an entry for each two cells.
use Prim.Native.Nat.{ℕ, zero, suc, ◌+◌, ◌*◌, ◌-◌, ◌/◌, ◌%◌, ◌<◌, ◌≤◌}
use native.Mathlib.Omega.{arith}
use mathlib.Core.Path.{◌≡◌, refl, ap, subst, ◌∙◌}
use mathlib.Core.List.Memᴰ
use mathlib.Core.List.{List, [], ◌∷◌, ◌++◌}
use mathlib.Core.Bool.{Bool, true, false, cond}
use lib.ListN.{length}
use lib.Dec.{eqb, leb}
use borrow.Author.Tests.{eq-eqb, ne_eqb, le-leb, leb-true}
use Rattle.graph.specs.Preorder.{elem}
use Rattle.graph.specs.Graph.{Graph, Reach, Within}
use Rattle.graph.specs.Compare.{Agree}
use Rattle.graph.proofs.Lists.{Each, each_nil, each_cons, each_append}
use Rattle.stack_algorithm.specs.Stack.{onward, run, runs, max_entries}
use Rattle.stack_algorithm.specs.Comb.{or_nil, comb_link, comb, CombReached, CombHolds}
use Rattle.stack_algorithm.proofs.Fresh.{other_fresh}
use Rattle.stack_algorithm.proofs.Going.{stack_bound}

-- the links of an odd and of an even cell
pub link_odd : (n i step : ℕ) → i % 2 ≡ 1 → comb_link n i step ≡ or_nil n (i + step)
link_odd n i step odd = simp (eq-eqb (i % 2) 1 odd)

pub link-even : (n i step : ℕ) → i % 2 ≡ 0 → comb_link n i step ≡ 0
link-even n i step even = simp (ne_eqb (i % 2) 1 (λ e. omega arith))

odd_link : (n k step : ℕ) → 2 * k + 1 + step ≤ n → comb_link n (2 * k + 1) step ≡ 2 * k + 1 + step
odd_link n k step h =
    link_odd n (2 * k + 1) step (omega arith) ∙ ap (λ (t : Bool). cond t (2 * k + 1 + step) 0) (le-leb (2 * k + 1 + step) n h)

-- no link leads past n
pub link_bound : (n i step : ℕ) → comb_link n i step ≤ n
link_bound n i step = go (eqb (i % 2) 1) (leb (i + step) n) refl
  where
    go : (odd t : Bool) → leb (i + step) n ≡ t → cond odd (cond t (i + step) 0) 0 ≤ n
    go true true e = leb-true (i + step) n e
    go true false e = omega arith
    go false t e = omega arith

-- A graph with the comb's links at its n cells. What it has elsewhere is not asked, and further roots do not matter.
module _ (n : ℕ) (g : Graph) (same : (i : ℕ) → 0 < i → i ≤ n → Agree g (comb n) i) (roots : List ℕ) where
  left-link : (k : ℕ) → 2 * k + 3 ≤ n → g.left (2 * k + 1) ≡ 2 * suc k + 1
  left-link k h = (same (2 * k + 1) (omega arith) (omega arith)).left ∙ (odd_link n k 2 (omega arith) ∙ omega arith)

  right-link : (k : ℕ) → 2 * k + 2 ≤ n → g.right (2 * k + 1) ≡ 2 * k + 2
  right-link k h = (same (2 * k + 1) (omega arith) (omega arith)).right ∙ (odd_link n k 1 (omega arith) ∙ omega arith)

  -- the odd cells are reached over left links, and the even ones each from the one before it
  odd_reached : (k : ℕ) → 2 * k + 1 ≤ n → Reach g (1 ∷ roots) (2 * k + 1)
  odd_reached zero h = Reach.root (Memᴰ.head refl) (omega arith)
  odd_reached (suc k) h =
      let link = left-link k (omega arith) in
      subst (Reach g (1 ∷ roots)) link (Reach.left (odd_reached k (omega arith)) (omega arith))

  pub comb-reached_in : (x : ℕ) → 0 < x → x ≤ n → Reach g (1 ∷ roots) x
  comb-reached_in x low high = go ((x - 1) / 2) ((x - 1) % 2) (omega arith) (omega arith)
    where
      go : (k even : ℕ) → even < 2 → x ≡ 2 * k + 1 + even → Reach g (1 ∷ roots) x
      go k zero less e =
          let here : 2 * k + 1 ≡ x = omega arith in
          subst (Reach g (1 ∷ roots)) here (odd_reached k (omega arith))
      go k (suc m) less e =
          let link : g.right (2 * k + 1) ≡ x = right-link k (omega arith) ∙ omega arith in
          subst (Reach g (1 ∷ roots)) link (Reach.right (odd_reached k (omega arith)) (omega arith))

  -- the odd cell 2 k + 1 in hand, where no higher cell is marked: both of its links are unmarked, and not equal
  pub both-links : (k : ℕ) (seen : List ℕ) → 2 * k + 3 ≤ n → Each (λ x. x ≤ 2 * k + 1) seen → onward g seen (2 * k + 1) ≡ (2 * suc k + 1) ∷ (2 * k + 2) ∷ []
  both-links k seen h low =
      simp (
        left-link k h,
        right-link k (omega arith),
        other_fresh seen (2 * suc k + 1) (omega arith) (λ mem. omega (arith, low (2 * suc k + 1) mem)),
        other_fresh seen (2 * k + 2) (omega arith) (λ mem. omega (arith, low (2 * k + 2) mem)),
        ne_eqb (2 * suc k + 1) (2 * k + 2) (λ e. omega arith),
      )

  -- so down the chain an entry is pushed at each of its cells but the last
  down : (j k turns : ℕ) (seen stack : List ℕ) → k + j ≡ (n - 1) / 2 → j < turns → length stack ≡ k → Each (λ x. x ≤ 2 * k + 1) seen
      → (n - 1) / 2 ≤ (run turns g seen ((2 * k + 1) ∷ stack)).1
  unfolding run
  down j k zero seen stack e more held low = absurd (omega arith)
  down zero k (suc turns) seen stack e more held low = omega arith
  down (suc j) k (suc turns) seen stack e more held low =
      let new = both-links k seen (omega arith) low in
      rw new
      (omega (
        arith,
        down j (suc k) turns (seen ++ (2 * suc k + 1) ∷ (2 * k + 2) ∷ []) ((2 * k + 2) ∷ stack) (omega arith) (omega arith) (omega arith)
            (each_append (λ x. x ≤ 2 * suc k + 1) seen (λ x mem. omega (arith, low x mem))
            (each_cons (λ x. x ≤ 2 * suc k + 1) (omega arith) (each_cons (λ x. x ≤ 2 * suc k + 1) (omega arith) (each_nil (λ x. x ≤ 2 * suc k + 1))))),
      ))

  pub comb_holds_in : 0 < n → Within n g (1 ∷ roots) → max_entries n g (1 ∷ roots) ≡ (n - 1) / 2
  unfolding runs elem
  comb_holds_in some within =
      omega (
        arith,
        stack_bound n g (1 ∷ roots) within,
        down ((n - 1) / 2) 0 n (1 ∷ []) [] (omega arith) (omega arith) refl (each_cons (λ x. x ≤ 1) (omega arith) (each_nil (λ x. x ≤ 1))),
      )

pub comb-reached : CombReached
comb-reached n = comb-reached_in n (comb n) (λ i low high. record { left = refl; right = refl }) []

pub comb_holds : CombHolds
unfolding runs run elem
comb_holds zero = refl
comb_holds (suc m) =
    comb_holds_in (suc m) (comb (suc m)) (λ i low high. record { left = refl; right = refl }) [] (omega arith)
    (record {
      root = each_cons (λ x. x ≤ suc m) (omega arith) (each_nil (λ x. x ≤ suc m));
      left = λ x reach. link_bound (suc m) x 2;
      right = λ x reach. link_bound (suc m) x 1;
    })
