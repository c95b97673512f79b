-- A stack that holds all entries of the marker without a limit makes no check, and a shorter one makes a check.
use Prim.Native.Nat.{ℕ, zero, suc, ◌<◌, ◌≤◌}
use native.Mathlib.Omega.{arith}
use mathlib.Core.Path.{◌≡◌, refl, ap}
use mathlib.Core.List.Memᴰ
use mathlib.Core.List.{List, [], ◌∷◌, ◌++◌, append-nil}
use mathlib.Core.Bool.{Bool, true, false, cond}
use lib.ListN.{length, length-append}
use lib.Dec.{ltb, leb}
use borrow.Author.Tests.{ltb-true, ltb-false, leb-true, leb-false}
use Rattle.graph.specs.Graph.{Graph, Reach, Within}
use Rattle.graph.specs.Preorder.{elem}
use Rattle.graph.proofs.Lists.{Each}
use Rattle.stack_algorithm.specs.Stack.{onward, holding, run, taken, runs, stack_run}
use Rattle.stack_algorithm.specs.Steps.{Going}
use Rattle.stack_algorithm.specs.Check.{behind, check_and_push, turn_by, limited, is_enough, limited_runs, limited_run}
use Rattle.stack_algorithm.specs.CheckTheorem.{NoCheck}
use Rattle.stack_algorithm.proofs.Fresh.{taken-one}
use Rattle.stack_algorithm.proofs.Going.{Lasting, going_first, turn, turn_lasting, begin, seen_most, ended}
use Rattle.stack_algorithm.proofs.Checking.{onward-short}

-- The results without a limit and with one: the same where the entries fit, and else with a check.
abbrev Fits : ℕ → List ℕ × ℕ → List ℕ × List ℕ → Type 0
Fits room end few = (end.1 ≤ room → few ≡ (end.0, [])) × (room < end.1 → 0 < length few.1)

-- entries that fit do not matter
fits-holding : {room held : ℕ} {end : List ℕ × ℕ} {few : List ℕ × List ℕ} → held ≤ room → Fits room end few → Fits room (holding held end) few
fits-holding less fits = (λ h. fits.0 (omega arith), λ h. fits.1 (omega arith))

module _ {n : ℕ} {g : Graph} {roots : List ℕ} (within : Within n g roots) (room steps : ℕ) where
  -- what is pending with the cell in hand is held
  run-deep : (turns l r : ℕ) (seen entries : List ℕ) → Going g roots seen (l ∷ r ∷ entries) → Lasting n turns seen (l ∷ r ∷ entries)
      → length entries < (run turns g seen (l ∷ r ∷ entries)).1
  unfolding run
  run-deep zero l r seen entries s lasting = absurd (omega (arith, seen_most within s))
  run-deep (suc turns) l r seen entries s lasting = omega arith

  fits : (turns : ℕ) (seen pending : List ℕ) → Going g roots seen pending → Lasting n turns seen pending → length pending ≤ suc room
      → Fits room (run turns g seen pending) (limited room steps turns g seen pending)
  unfolding run limited
  fits zero seen pending s lasting short = (λ h. refl, λ h. absurd (omega arith))
  fits (suc turns) seen [] s lasting short = (λ h. refl, λ h. absurd (omega arith))
  fits (suc turns) seen (p ∷ entries) s lasting short =
      fits-holding (omega arith) (go (onward g seen p) (onward-short g seen p) (turn s) (turn_lasting s n turns lasting) (fits turns))
    where
      Rest : Type 0
      Rest =
          (seen pending : List ℕ) → Going g roots seen pending → Lasting n turns seen pending → length pending ≤ suc room
          → Fits room (run turns g seen pending) (limited room steps turns g seen pending)

      full : (l r : ℕ) (t : Bool) → ltb (length entries) room ≡ t → Rest → Going g roots (seen ++ l ∷ r ∷ []) (l ∷ r ∷ entries)
          → Lasting n turns (seen ++ l ∷ r ∷ []) (l ∷ r ∷ entries)
          → Fits room (run turns g (seen ++ l ∷ r ∷ []) (l ∷ r ∷ entries))
          (cond t (limited room steps turns g (seen ++ l ∷ r ∷ []) (l ∷ r ∷ entries)) (check_and_push steps g (limited room steps turns g) (seen ++ l ∷ r ∷ []) entries l r))
      full l r true e rest next last =
          rest (seen ++ l ∷ r ∷ []) (l ∷ r ∷ entries) next last (omega (arith, ltb-true (length entries) room e))
      full l r false e rest next last =
          (λ h. absurd (omega (arith, ltb-false (length entries) room e, run-deep turns l r (seen ++ l ∷ r ∷ []) entries next last)), λ h. omega arith)

      go : (new : List ℕ) → length new ≤ 2 → Going g roots (seen ++ new) (new ++ entries) → Lasting n turns (seen ++ new) (new ++ entries) → Rest
          → Fits room (run turns g (seen ++ new) (new ++ entries)) (turn_by room steps g (limited room steps turns g) seen entries new)
      go [] two next last rest = rw (append-nil seen) (rest seen entries (rw (append-nil seen) at next) (rw (append-nil seen) at last) (omega arith))
      go (x ∷ []) two next last rest = rest (seen ++ x ∷ []) (x ∷ entries) next last (omega arith)
      go (l ∷ r ∷ []) two next last rest = full l r (ltb (length entries) room) refl rest next last
      go (l ∷ r ∷ x ∷ more) two next last rest = absurd (omega arith)

module _ {n : ℕ} {g : Graph} {roots : List ℕ} (within : Within n g roots) (room : ℕ) where
  all_fit : (ps seen : List ℕ) → Each (λ x. 0 < x → Reach g roots x) ps → Going g roots seen [] → Fits room (runs n g seen ps) (limited_runs room n g seen ps)
  unfolding runs limited_runs elem
  all_fit [] seen reach s = (λ h. refl, λ h. absurd (omega arith))
  all_fit (p ∷ ps) seen reach s =
      go (leb (run n g (seen ++ taken seen p) (taken seen p)).1 room) refl
      (fits within room n n (seen ++ taken seen p) (taken seen p) s₁ lasting (omega (arith, taken-one seen p)))
      (all_fit ps (run n g (seen ++ taken seen p) (taken seen p)).0 (λ x mem. reach x (Memᴰ.tail mem))
      (ended within n (seen ++ taken seen p) (taken seen p) s₁ lasting).going)
    where
      s₁ : Going g roots (seen ++ taken seen p) (taken seen p)
      s₁ = begin s p (reach p (Memᴰ.head refl))

      lasting : Lasting n n (seen ++ taken seen p) (taken seen p)
      lasting = omega (arith, s₁.few)

      checks : (few rest : List ℕ × List ℕ) (t : Bool) → 0 < length few.1 → 0 < length (cond t (behind few.1 rest) few).1
      checks few rest true some = rw (length-append few.1 rest.1) (omega arith)
      checks few rest false some = some

      go : (t : Bool) → let first = run n g (seen ++ taken seen p) (taken seen p) in
          let few = limited room n n g (seen ++ taken seen p) (taken seen p) in
          leb first.1 room ≡ t → Fits room first few → Fits room (runs n g first.0 ps) (limited_runs room n g first.0 ps)
          → Fits room (holding first.1 (runs n g first.0 ps)) (cond (is_enough few) (behind few.1 (limited_runs room n g few.0 ps)) few)
      go true e here rest =
          let first = run n g (seen ++ taken seen p) (taken seen p) in
          let less = leb-true first.1 room e in rw (here.0 less) (fits-holding less rest)
      go false e here rest =
          let first = run n g (seen ++ taken seen p) (taken seen p) in
          let few = limited room n n g (seen ++ taken seen p) (taken seen p) in
          let over = leb-false first.1 room e in
          (λ h. absurd (omega arith), λ h. checks few (limited_runs room n g few.0 ps) (is_enough few) (here.1 over))

  stack-fits : Fits room (stack_run n g roots) (limited_run room n g roots)
  stack-fits = all_fit roots [] (λ x mem. Reach.root mem) (going_first g roots)

pub no_check : NoCheck
no_check room n g roots within = ((λ none. short none (leb (stack_run n g roots).1 room) refl, λ h. ap (λ (x : List ℕ × List ℕ). length x.1) (all.0 h)), all.0)
  where
    all : Fits room (stack_run n g roots) (limited_run room n g roots)
    all = stack-fits within room

    short : length (limited_run room n g roots).1 ≡ 0 → (t : Bool) → leb (stack_run n g roots).1 room ≡ t → (stack_run n g roots).1 ≤ room
    short none true e = leb-true (stack_run n g roots).1 room e
    short none false e = absurd (omega (arith, all.1 (leb-false (stack_run n g roots).1 room e)))
