-- The marker with few words ends: more turns and longer walks change nothing.
use Prim.Native.Nat.{ℕ, zero, suc, ◌+◌, ◌-◌, ◌<◌, ◌≤◌}
use native.Mathlib.Omega.{arith}
use mathlib.Core.Path.{◌≡◌, refl, ap}
use mathlib.Core.List.Memᴰ
use mathlib.Core.List.{List, [], ◌∷◌, ◌++◌, append-nil}
use mathlib.Core.Bool.{Bool, true, false, cond}
use lib.ListN.{length, length-append}
use lib.Dec.{ltb}
use Rattle.graph.specs.Graph.{Graph, Reach, Within}
use Rattle.graph.proofs.Lists.{Each}
use Rattle.stack_algorithm.specs.Stack.{onward, taken}
use Rattle.stack_algorithm.specs.Steps.{Going}
use Rattle.stack_algorithm.specs.Check.{by_links, walk, check, behind, check_and_push, turn_by, limited, is_enough, limited_runs}
use Rattle.stack_algorithm.specs.CheckTheorem.{LimitedEnds}
use Rattle.stack_algorithm.proofs.Fresh.{member-some}
use Rattle.stack_algorithm.proofs.Going.{Lasting, going_first, turn, turn_lasting, begin, seen_most}
use Rattle.stack_algorithm.proofs.Checking.{swap, walk-next, after_check, onward-short, limited-ended}

module _ {n : ℕ} {g : Graph} {roots : List ℕ} (within : Within n g roots) where
  walk-longer : (steps longer : ℕ) (seen others : List ℕ) (p : ℕ) → Going g roots seen (p ∷ others) → n < steps + length seen → steps ≤ longer
      → walk longer g seen p ≡ walk steps g seen p
  unfolding walk
  walk-longer zero longer seen others p s enough more = absurd (omega (arith, seen_most within s))
  walk-longer (suc k) zero seen others p s enough more = absurd (omega arith)
  walk-longer (suc k) (suc j) seen others p s enough more =
      go (onward g seen p) (turn s) λ x s₁. walk-longer k j (seen ++ x ∷ []) others x s₁ (omega (arith, length-append seen (x ∷ []))) (omega arith)
    where
      go : (new : List ℕ) → Going g roots (seen ++ new) (new ++ others)
          → ((x : ℕ) → Going g roots (seen ++ x ∷ []) (x ∷ others) → walk j g (seen ++ x ∷ []) x ≡ walk k g (seen ++ x ∷ []) x)
          → by_links {A = List ℕ × List ℕ} new (seen, []) (λ x. walk j g (seen ++ x ∷ []) x) (λ l r. (seen, p ∷ []))
          ≡ by_links new (seen, []) (λ x. walk k g (seen ++ x ∷ []) x) (λ l r. (seen, p ∷ []))
      go [] next rest = refl
      go (x ∷ []) next rest = rest x next
      go (l ∷ r ∷ more) next rest = refl

  -- a cell that is pending is marked, so one is
  some-seen : {p : ℕ} {seen others : List ℕ} → Going g roots seen (p ∷ others) → 0 < length seen
  some-seen {p} {seen} s = member-some (s.held p (Memᴰ.head refl))

  check-longer : (steps longer : ℕ) → n ≤ steps → steps ≤ longer → (seen others entries : List ℕ) → Going g roots seen (others ++ entries)
      → check longer g seen entries ≡ check steps g seen entries
  unfolding check
  check-longer steps longer many more seen others [] s = refl
  check-longer steps longer many more seen others (p ∷ entries) s =
      let first = walk steps g seen p in
      let s₁ = swap others (p ∷ []) entries s in
      rw (walk-longer steps longer seen (others ++ entries) p s₁ (omega (arith, some-seen s₁)) more)
      (ap (λ (left : List ℕ × List ℕ). (left.0, first.1 ++ left.1))
      (check-longer steps longer many more first.0 (others ++ first.1) entries (walk-next steps seen others entries p s)))

  module _ (room steps longer : ℕ) (many : n ≤ steps) (more : steps ≤ longer) where
    limited-longer : (turns turns' : ℕ) (seen pending : List ℕ) → Going g roots seen pending → Lasting n turns seen pending → turns ≤ turns'
        → limited room longer turns' g seen pending ≡ limited room steps turns g seen pending
    unfolding limited
    limited-longer zero zero seen pending s lasting less = refl
    limited-longer zero (suc j) seen [] s lasting less = refl
    limited-longer zero (suc j) seen (p ∷ entries) s lasting less = absurd (omega (arith, seen_most within s))
    limited-longer (suc k) zero seen pending s lasting less = absurd (omega arith)
    limited-longer (suc k) (suc j) seen [] s lasting less = refl
    limited-longer (suc k) (suc j) seen (p ∷ entries) s lasting less =
        go (onward g seen p) (onward-short g seen p) (turn s) (turn_lasting s n k lasting) (λ t u a b. limited-longer k j t u a b (omega arith))
      where
        Rest : Type 0
        Rest =
            (seen pending : List ℕ) → Going g roots seen pending → Lasting n k seen pending
            → limited room longer j g seen pending ≡ limited room steps k g seen pending

        vain : (l r : ℕ) (t : Bool) (left : List ℕ × List ℕ) → Rest → Going g roots left.0 (l ∷ r ∷ left.1) × Lasting n k left.0 (l ∷ r ∷ left.1)
            → ◌≡◌ {A = List ℕ × List ℕ} (cond t (limited room longer j g left.0 (l ∷ r ∷ left.1)) (left.0, []))
            (cond t (limited room steps k g left.0 (l ∷ r ∷ left.1)) (left.0, []))
        vain l r true left rest next = rest left.0 (l ∷ r ∷ left.1) next.0 next.1
        vain l r false left rest next = refl

        full : (l r : ℕ) (t : Bool) → Rest → Going g roots (seen ++ l ∷ r ∷ []) (l ∷ r ∷ entries) → Lasting n k (seen ++ l ∷ r ∷ []) (l ∷ r ∷ entries)
            → cond t (limited room longer j g (seen ++ l ∷ r ∷ []) (l ∷ r ∷ entries)) (check_and_push longer g (limited room longer j g) (seen ++ l ∷ r ∷ []) entries l r)
            ≡ cond t (limited room steps k g (seen ++ l ∷ r ∷ []) (l ∷ r ∷ entries)) (check_and_push steps g (limited room steps k g) (seen ++ l ∷ r ∷ []) entries l r)
        full l r true rest next last = rest (seen ++ l ∷ r ∷ []) (l ∷ r ∷ entries) next last
        full l r false rest next last =
            let left = check steps g (seen ++ l ∷ r ∷ []) entries in
            let dropped = length entries - length left.1 in
            rw (check-longer steps longer many more (seen ++ l ∷ r ∷ []) (l ∷ r ∷ []) entries next)
            (ap (behind (dropped ∷ [])) (vain l r (ltb 0 dropped) left rest (after_check within room steps k l r seen entries next last)))

        go : (new : List ℕ) → length new ≤ 2 → Going g roots (seen ++ new) (new ++ entries) → Lasting n k (seen ++ new) (new ++ entries) → Rest
            → turn_by room longer g (limited room longer j g) seen entries new ≡ turn_by room steps g (limited room steps k g) seen entries new
        go [] two next last rest = rest seen entries (rw (append-nil seen) at next) (rw (append-nil seen) at last)
        go (x ∷ []) two next last rest = rest (seen ++ x ∷ []) (x ∷ entries) next last
        go (l ∷ r ∷ []) two next last rest = full l r (ltb (length entries) room) rest next last
        go (l ∷ r ∷ x ∷ more') two next last rest = absurd (omega arith)

  all-longer : (room turns : ℕ) → n ≤ turns → (ps seen : List ℕ) → Each (λ x. 0 < x → Reach g roots x) ps → Going g roots seen []
      → limited_runs room turns g seen ps ≡ limited_runs room n g seen ps
  unfolding limited_runs
  all-longer room turns many [] seen reach s = refl
  all-longer room turns many (p ∷ ps) seen reach s =
      rw (limited-longer room n turns (omega arith) many n turns (seen ++ taken seen p) (taken seen p) s₁ lasting many)
      (go (is_enough first) refl (all-longer room turns many ps first.0 (λ x mem. reach x (Memᴰ.tail mem))))
    where
      s₁ : Going g roots (seen ++ taken seen p) (taken seen p)
      s₁ = begin s p (reach p (Memᴰ.head refl))

      lasting : Lasting n n (seen ++ taken seen p) (taken seen p)
      lasting = omega (arith, s₁.few)

      first : List ℕ × List ℕ
      first = limited room n n g (seen ++ taken seen p) (taken seen p)

      go : (t : Bool) → is_enough first ≡ t
          → (Going g roots first.0 [] → limited_runs room turns g first.0 ps ≡ limited_runs room n g first.0 ps)
          → cond t (behind first.1 (limited_runs room turns g first.0 ps)) first ≡ cond t (behind first.1 (limited_runs room n g first.0 ps)) first
      go true e rest =
          ap (behind first.1) (rest ((limited-ended within room n n (seen ++ taken seen p) (taken seen p) s₁ lasting).done e))
      go false e rest = refl

pub limited-ends : LimitedEnds
limited-ends room n g roots within turns many = all-longer within room turns many roots [] (λ x mem. Reach.root mem) (going_first g roots)
