-- The marker with few words looks at the links of reached cells alone: on two graphs with the same links there it does the same.
use Prim.Native.Nat.{ℕ, zero, suc, ◌-◌, ◌<◌}
use mathlib.Core.Path.{◌≡◌, refl, ap, ◌∙◌}
use mathlib.Core.List.Memᴰ
use mathlib.Core.List.{List, [], ◌∷◌, ◌++◌}
use mathlib.Core.Bool.{Bool, true, false, cond}
use lib.ListN.{length}
use lib.Dec.{ltb}
use Rattle.graph.specs.Graph.{Graph, Reach}
use Rattle.graph.specs.Compare.{Agree}
use Rattle.graph.proofs.Lists.{Each, each_nil, each_cons, each_append}
use Rattle.stack_algorithm.specs.Stack.{is_unmarked, onward, taken}
use Rattle.stack_algorithm.specs.Check.{by_links, walk, check, behind, check_and_push, turn_by, limited, is_enough, limited_runs, limited_run}
use Rattle.stack_algorithm.proofs.Fresh.{fresh-true}
use Rattle.stack_algorithm.proofs.Going.{links-reached}

module _ (g h : Graph) (roots : List ℕ) (agree : (x : ℕ) → Reach g roots x → Agree g h x) where
  abbrev Reached : List ℕ → Type 0
  Reached xs = Each (Reach g roots) xs

  onward-same : (seen : List ℕ) (p : ℕ) → Reach g roots p → onward g seen p ≡ onward h seen p
  onward-same seen p reached = let a = agree p reached in rw (a.left, a.right) refl

  -- a walk marks the same, and what takes the entry's place is reached
  walk_same : (steps : ℕ) (seen : List ℕ) (p : ℕ) → Reach g roots p
      → (walk steps g seen p ≡ walk steps h seen p) × Reached (walk steps g seen p).1
  unfolding walk
  walk_same zero seen p reached = (refl, each_cons (Reach g roots) reached (each_nil (Reach g roots)))
  walk_same (suc steps) seen p reached =
      let both = go (onward g seen p) (links-reached seen reached) (λ x. walk_same steps (seen ++ x ∷ []) x) in (
        both.0 ∙ ap (λ (new : List ℕ). by_links new (seen, []) (λ x. walk steps h (seen ++ x ∷ []) x) (λ l r. (seen, p ∷ []))) (onward-same seen p reached),
        both.1,
      )
    where
      go : (new : List ℕ) → Reached new
          → ((x : ℕ) → Reach g roots x
          → (walk steps g (seen ++ x ∷ []) x ≡ walk steps h (seen ++ x ∷ []) x) × Reached (walk steps g (seen ++ x ∷ []) x).1)
          → let first = by_links {A = List ℕ × List ℕ} new (seen, []) (λ x. walk steps g (seen ++ x ∷ []) x) (λ l r. (seen, p ∷ [])) in
          (first ≡ by_links new (seen, []) (λ x. walk steps h (seen ++ x ∷ []) x) (λ l r. (seen, p ∷ []))) × Reached first.1
      go [] all rest = (refl, each_nil (Reach g roots))
      go (x ∷ []) all rest = rest x (all x (Memᴰ.head refl))
      go (l ∷ r ∷ more) all rest = (refl, each_cons (Reach g roots) reached (each_nil (Reach g roots)))

  -- so does a check, and the entries that are left are reached
  check-same : (steps : ℕ) (seen entries : List ℕ) → Reached entries
      → (check steps g seen entries ≡ check steps h seen entries) × Reached (check steps g seen entries).1
  unfolding check
  check-same steps seen [] all = (refl, each_nil (Reach g roots))
  check-same steps seen (p ∷ entries) all =
      let below : Reached entries = λ x mem. all x (Memᴰ.tail mem) in
      let first = walk_same steps seen p (all p (Memᴰ.head refl)) in
      let others = check-same steps (walk steps g seen p).0 entries below in (
        ap (λ (c : List ℕ × List ℕ). (c.0, (walk steps g seen p).1 ++ c.1)) others.0
            ∙ ap (λ (f : List ℕ × List ℕ). ((check steps h f.0 entries).0, f.1 ++ (check steps h f.0 entries).1)) first.0,
        each_append (Reach g roots) (walk steps g seen p).1 first.1 others.1,
      )

  limited-same : (room steps turns : ℕ) (seen pending : List ℕ) → Reached pending
      → limited room steps turns g seen pending ≡ limited room steps turns h seen pending
  unfolding limited
  limited-same room steps zero seen pending all = refl
  limited-same room steps (suc turns) seen [] all = refl
  limited-same room steps (suc turns) seen (p ∷ entries) all =
      let reached = all p (Memᴰ.head refl) in
      go (onward g seen p) (links-reached seen reached) (limited-same room steps turns)
      ∙ ap (turn_by room steps h (limited room steps turns h) seen entries) (onward-same seen p reached)
    where
      below : Reached entries
      below x mem = all x (Memᴰ.tail mem)

      -- a push where the stack is full: the check, and how it goes on if it dropped an entry
      full : (marked : List ℕ) (l r : ℕ) → Reach g roots l → Reach g roots r
          → ((s q : List ℕ) → Reached q → limited room steps turns g s q ≡ limited room steps turns h s q)
          → check_and_push steps g (limited room steps turns g) marked entries l r ≡ check_and_push steps h (limited room steps turns h) marked entries l r
      full marked l r at_l at_r on =
          let checked = check-same steps marked entries below in
          on_left (check steps g marked entries) checked.1
          ∙ ap (λ (left : List ℕ × List ℕ). pushed left (limited room steps turns h left.0 (l ∷ r ∷ left.1))) checked.0
        where
          pushed : List ℕ × List ℕ → List ℕ × List ℕ → List ℕ × List ℕ
          pushed left next =
              let dropped = length entries - length left.1 in
              behind (dropped ∷ []) (cond (ltb 0 dropped) next (left.0, []))

          on_left : (left : List ℕ × List ℕ) → Reached left.1
              → pushed left (limited room steps turns g left.0 (l ∷ r ∷ left.1)) ≡ pushed left (limited room steps turns h left.0 (l ∷ r ∷ left.1))
          on_left left reached =
              ap (pushed left) (on left.0 (l ∷ r ∷ left.1) (each_cons (Reach g roots) at_l (each_cons (Reach g roots) at_r reached)))

      go : (links : List ℕ) → Reached links
          → ((s q : List ℕ) → Reached q → limited room steps turns g s q ≡ limited room steps turns h s q)
          → turn_by room steps g (limited room steps turns g) seen entries links ≡ turn_by room steps h (limited room steps turns h) seen entries links
      go [] new on = on seen entries below
      go (x ∷ []) new on = on (seen ++ x ∷ []) (x ∷ entries) (each_cons (Reach g roots) (new x (Memᴰ.head refl)) below)
      go (l ∷ r ∷ more) new on = fits (ltb (length entries) room)
        where
          at_l : Reach g roots l
          at_l = new l (Memᴰ.head refl)

          at_r : Reach g roots r
          at_r = new r (Memᴰ.tail (Memᴰ.head refl))

          marked : List ℕ
          marked = seen ++ l ∷ r ∷ []

          fits : (t : Bool)
              → ◌≡◌ {A = List ℕ × List ℕ}
              (cond t (limited room steps turns g marked (l ∷ r ∷ entries)) (check_and_push steps g (limited room steps turns g) marked entries l r))
              (cond t (limited room steps turns h marked (l ∷ r ∷ entries)) (check_and_push steps h (limited room steps turns h) marked entries l r))
          fits true = on marked (l ∷ r ∷ entries) (each_cons (Reach g roots) at_l (each_cons (Reach g roots) at_r below))
          fits false = full marked l r at_l at_r on

  runs_same : (room turns : ℕ) (seen ps : List ℕ) → Each (λ x. 0 < x → Reach g roots x) ps → limited_runs room turns g seen ps ≡ limited_runs room turns h seen ps
  unfolding limited_runs
  runs_same room turns seen [] all = refl
  runs_same room turns seen (p ∷ ps) all =
      ap (λ (rest : List ℕ × List ℕ). ended first rest) (runs_same room turns first.0 ps (λ x mem. all x (Memᴰ.tail mem)))
      ∙ ap (λ (f : List ℕ × List ℕ). ended f (limited_runs room turns h f.0 ps))
      (limited-same room turns turns (seen ++ taken seen p) (taken seen p) (hand (is_unmarked seen p) refl))
    where
      first : List ℕ × List ℕ
      first = limited room turns turns g (seen ++ taken seen p) (taken seen p)

      ended : List ℕ × List ℕ → List ℕ × List ℕ → List ℕ × List ℕ
      ended f rest = cond (is_enough f) (behind f.1 rest) f

      hand : (t : Bool) → is_unmarked seen p ≡ t → Reached (cond t (p ∷ []) [])
      hand true e = each_cons (Reach g roots) (all p (Memᴰ.head refl) (fresh-true seen p e).0) (each_nil (Reach g roots))
      hand false e = each_nil (Reach g roots)

  pub limited-run_same : (room n : ℕ) → limited_run room n g roots ≡ limited_run room n h roots
  limited-run_same room n = runs_same room n [] roots (λ x mem some. Reach.root mem some)
