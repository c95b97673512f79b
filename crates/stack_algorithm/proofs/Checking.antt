-- The marker with a stack of few words: a check loses nothing, the marker ends, and where the stack is enough it marks what is reached.
use Prim.Native.Nat.{ℕ, zero, suc, ◌+◌, ◌*◌, ◌-◌, ◌/◌, ◌<◌, ◌≤◌}
use native.Mathlib.Omega.{arith}
use mathlib.Core.Path.{◌≡◌, refl, sym, ◌∙◌}
use mathlib.Core.Logic.{inl, inr, ⊎_elim}
use mathlib.Core.List.Memᴰ
use mathlib.Core.List.{List, [], ◌∷◌, ◌++◌, append-nil, append_assoc, Memᴰ}
use mathlib.Core.Bool.{Bool, true, false, false≢true, cond, ◌||◌, or_assoc}
use lib.ListN.{length, length-append}
use lib.Dec.{eqb, ltb}
use borrow.Author.Tests.{not-true, ne_eqb, ltb-true, ltb-false}
use Rattle.graph.specs.Graph.{Graph, Reach, Within}
use Rattle.graph.specs.Preorder.{elem}
use Rattle.graph.specs.Theorems.{Distinct}
use Rattle.graph.proofs.Lists.{Each, each_nil, each_cons}
use Rattle.graph.proofs.Reached.{reach_least, reach_above, reach_within}
use Rattle.stack_algorithm.specs.Stack.{is_unmarked, onward, taken}
use Rattle.stack_algorithm.specs.Steps.{Going}
use Rattle.stack_algorithm.specs.Check.{by_links, walk, check, behind, check_and_push, turn_by, limited, is_enough, limited_runs, limited_run}
use Rattle.stack_algorithm.specs.CheckTheorem.{CheckLosesNothing, LimitedMarksTheReached, LimitedMarksOnlyReached, FewChecks}
use Rattle.stack_algorithm.proofs.Fresh.{fresh-false, distinct-length, passing}
use Rattle.stack_algorithm.proofs.Going.{Lasting, going_first, turn, turn_lasting, begin, seen_most}

-- a cell has two links
pub onward-short : (g : Graph) (seen : List ℕ) (p : ℕ) → length (onward g seen p) ≤ 2
onward-short g seen p = (passing (is_unmarked seen) (g.left p) (g.right p)).short

-- which of two lists of pending cells comes first does not matter
pub swap : {g : Graph} {roots seen : List ℕ} (xs ys zs : List ℕ) → Going g roots seen (xs ++ (ys ++ zs)) → Going g roots seen (ys ++ (xs ++ zs))
swap xs ys zs s =
    record {
      cells = s.cells;
      distinct = s.distinct;
      held = λ x mem. s.held x (other ys xs mem);
      closed = λ x mem. ⊎_elim (λ k. inl (other xs ys k)) inr (s.closed x mem);
      few = omega (arith, s.few, length-append xs (ys ++ zs), length-append ys zs, length-append ys (xs ++ zs), length-append xs zs);
    }
  where
    other : {x : ℕ} (t u : List ℕ) → Memᴰ x (t ++ (u ++ zs)) → Memᴰ x (u ++ (t ++ zs))
    other t u mem =
        ⊎_elim (λ k. Memᴰ.append_right u (Memᴰ.append_left zs k))
        (λ k. ⊎_elim (λ j. Memᴰ.append_left (t ++ zs) j) (λ j. Memᴰ.append_right u (Memᴰ.append_right t j)) (Memᴰ.append_cases u k))
        (Memᴰ.append_cases t mem)

module _ {g : Graph} {roots : List ℕ} where
  -- a walk's step is a turn: the one unmarked link takes the entry's place
  pub walk-going : (steps : ℕ) (seen others : List ℕ) (p : ℕ) → Going g roots seen (p ∷ others)
      → let end = walk steps g seen p in Going g roots end.0 (end.1 ++ others)
  unfolding walk
  walk-going zero seen others p s = s
  walk-going (suc steps) seen others p s = go (onward g seen p) (turn s) λ x. walk-going steps (seen ++ x ∷ []) others x
    where
      go : (new : List ℕ) → Going g roots (seen ++ new) (new ++ others)
          → ((x : ℕ) → Going g roots (seen ++ x ∷ []) (x ∷ others)
          → let end = walk steps g (seen ++ x ∷ []) x in Going g roots end.0 (end.1 ++ others))
          → let end = by_links {A = List ℕ × List ℕ} new (seen, []) (λ x. walk steps g (seen ++ x ∷ []) x) (λ l r. (seen, p ∷ [])) in
          Going g roots end.0 (end.1 ++ others)
      go [] next rest = rw (append-nil seen) at next
      go (x ∷ []) next rest = rest x next
      go (l ∷ r ∷ more) next rest = s

  -- what is pending after the walk from the top one of some entries
  pub walk-next : (steps : ℕ) (seen others entries : List ℕ) (p : ℕ) → Going g roots seen (others ++ p ∷ entries)
      → let first = walk steps g seen p in Going g roots first.0 ((others ++ first.1) ++ entries)
  walk-next steps seen others entries p s =
      let first = walk steps g seen p in
      rw (append_assoc others first.1 entries)
      (swap first.1 others entries (walk-going steps seen (others ++ entries) p (swap others (p ∷ []) entries s)))

  pub check-going : (steps : ℕ) (seen others entries : List ℕ) → Going g roots seen (others ++ entries)
      → let left = check steps g seen entries in Going g roots left.0 (others ++ left.1)
  unfolding check
  check-going steps seen others [] s = s
  check-going steps seen others (p ∷ entries) s =
      let first = walk steps g seen p in
      let left = check steps g first.0 entries in
      rw (append_assoc others first.1 left.1) at
      (check-going steps first.0 (others ++ first.1) entries (walk-next steps seen others entries p s))

pub check_loses_nothing : CheckLosesNothing
check_loses_nothing steps g roots seen others entries s = check-going steps seen others entries s

-- What a check leaves: no more entries than there were, and all that was marked.
pub record Left (seen entries : List ℕ) (left : List ℕ × List ℕ) : Type 0 where
  pub fewer : length left.1 ≤ length entries
  pub more : length seen ≤ length left.0
  pub keeps : Each (λ x. Memᴰ x left.0) seen

pub walk-left : (g : Graph) (steps : ℕ) (seen : List ℕ) (p : ℕ) → Left seen (p ∷ []) (walk steps g seen p)
unfolding walk
walk-left g zero seen p = record { fewer = omega arith; more = omega arith; keeps = λ x mem. mem }
walk-left g (suc steps) seen p = go (onward g seen p) λ x. walk-left g steps (seen ++ x ∷ []) x
  where
    go : (new : List ℕ) → ((x : ℕ) → Left (seen ++ x ∷ []) (x ∷ []) (walk steps g (seen ++ x ∷ []) x))
        → Left seen (p ∷ []) (by_links {A = List ℕ × List ℕ} new (seen, []) (λ x. walk steps g (seen ++ x ∷ []) x) (λ l r. (seen, p ∷ [])))
    go [] rest = record { fewer = omega arith; more = omega arith; keeps = λ x mem. mem }
    go (y ∷ []) rest =
        record {
          fewer = (rest y).fewer;
          more = omega (arith, (rest y).more, length-append seen (y ∷ []));
          keeps = λ x mem. (rest y).keeps x (Memᴰ.append_left (y ∷ []) mem);
        }
    go (l ∷ r ∷ more) rest = record { fewer = omega arith; more = omega arith; keeps = λ x mem. mem }

pub check-left : (g : Graph) (steps : ℕ) (seen entries : List ℕ) → Left seen entries (check steps g seen entries)
unfolding check
check-left g steps seen [] = record { fewer = omega arith; more = omega arith; keeps = λ x mem. mem }
check-left g steps seen (p ∷ entries) =
    let first = walk-left g steps seen p in
    let others = check-left g steps (walk steps g seen p).0 entries in
    record {
      fewer = rw (length-append (walk steps g seen p).1 (check steps g (walk steps g seen p).0 entries).1) (omega (arith, first.fewer, others.fewer));
      more = omega (arith, first.more, others.more);
      keeps = λ x mem. others.keeps x (first.keeps x mem);
    }

-- where nothing is pending the run has ended
pub limited-none : (room steps turns : ℕ) (g : Graph) (seen : List ℕ) → limited room steps turns g seen [] ≡ (seen, [])
unfolding limited
limited-none room steps zero g seen = refl
limited-none room steps (suc turns) g seen = refl

-- whether some check dropped no entry, of two lists of checks in one
pub elem-append : (x : ℕ) (t u : List ℕ) → elem x (t ++ u) ≡ (elem x t || elem x u)
unfolding elem
elem-append x [] u = refl
elem-append x (y ∷ t) u = rw (elem-append x t u) (sym (or_assoc (eqb x y) (elem x t) (elem x u)))

pub enough-behind : (t : List ℕ) (end : List ℕ × List ℕ) → elem 0 t ≡ false → is_enough (behind t end) ≡ is_enough end
enough-behind t end none = rw (elem-append 0 t end.1, none)

pub dropped-some : (d : ℕ) → 0 < d → elem 0 (d ∷ []) ≡ false
unfolding elem
dropped-some d some = rw (ne_eqb 0 d (λ e. omega arith))

dropped-none : (d : ℕ) → d ≤ 0 → elem 0 (d ∷ []) ≡ true
unfolding elem
dropped-none zero none = refl
dropped-none (suc d) none = absurd (omega arith)

-- a check that dropped none is not enough
enough-none : (seen t : List ℕ) → elem 0 t ≡ true → is_enough (seen, t) ≡ true → ⊥
enough-none seen t e h = false≢true (rw e at h)

module _ {n : ℕ} {g : Graph} {roots : List ℕ} (within : Within n g roots) where
  -- Where the marker with few words ends, begun with these cells marked.
  pub record LimitedEnd (seen : List ℕ) (end : List ℕ × List ℕ) : Type 0 where
    pub cells : Each (Reach g roots) end.0
    pub distinct : Distinct end.0
    pub done : is_enough end ≡ true → Going g roots end.0 []
    pub keeps : Each (λ x. Memᴰ x end.0) seen
    pub few : 2 * length end.1 + length seen ≤ length end.0

  still : {seen : List ℕ} → Going g roots seen [] → LimitedEnd seen (seen, [])
  still s = record { cells = s.cells; distinct = s.distinct; done = λ e. s; keeps = λ x mem. mem; few = omega arith }

  -- begun with fewer cells marked
  earlier : {seen : List ℕ} {end : List ℕ × List ℕ} (t : List ℕ) → LimitedEnd (seen ++ t) end → LimitedEnd seen end
  earlier {seen} t e =
      record {
        cells = e.cells;
        distinct = e.distinct;
        done = e.done;
        keeps = λ x mem. e.keeps x (Memᴰ.append_left t mem);
        few = omega (arith, e.few, length-append seen t);
      }

  module _ (room steps : ℕ) where
    -- the check before a push: what is pending then, and that the turns are enough for it
    pub after_check : (turns l r : ℕ) (seen entries : List ℕ) → Going g roots (seen ++ l ∷ r ∷ []) (l ∷ r ∷ entries)
        → Lasting n turns (seen ++ l ∷ r ∷ []) (l ∷ r ∷ entries)
        → let left = check steps g (seen ++ l ∷ r ∷ []) entries in
        Going g roots left.0 (l ∷ r ∷ left.1) × Lasting n turns left.0 (l ∷ r ∷ left.1)
    after_check turns l r seen entries next lasting =
        let left = check-left g steps (seen ++ l ∷ r ∷ []) entries in
        (check-going steps (seen ++ l ∷ r ∷ []) (l ∷ r ∷ []) entries next, omega (arith, left.fewer, left.more))

    pub limited-ended : (turns : ℕ) (seen pending : List ℕ) → Going g roots seen pending → Lasting n turns seen pending
        → LimitedEnd seen (limited room steps turns g seen pending)
    unfolding limited
    limited-ended zero seen [] s lasting = still s
    limited-ended zero seen (p ∷ entries) s lasting = absurd (omega (arith, seen_most within s))
    limited-ended (suc turns) seen [] s lasting = still s
    limited-ended (suc turns) seen (p ∷ entries) s lasting =
        go (onward g seen p) (onward-short g seen p) (turn s) (turn_lasting s n turns lasting) (limited-ended turns)
      where
        Rest : Type 0
        Rest =
            (seen pending : List ℕ) → Going g roots seen pending → Lasting n turns seen pending
            → LimitedEnd seen (limited room steps turns g seen pending)

        vain : (l r : ℕ) (t : Bool) → ltb 0 (length entries - length (check steps g (seen ++ l ∷ r ∷ []) entries).1) ≡ t → Rest
            → Going g roots (seen ++ l ∷ r ∷ []) (l ∷ r ∷ entries) → Lasting n turns (seen ++ l ∷ r ∷ []) (l ∷ r ∷ entries)
            → let left = check steps g (seen ++ l ∷ r ∷ []) entries in
            LimitedEnd seen (behind ((length entries - length left.1) ∷ []) (cond t (limited room steps turns g left.0 (l ∷ r ∷ left.1)) (left.0, [])))
        vain l r true e rest next last =
            let left = check steps g (seen ++ l ∷ r ∷ []) entries in
            let dropped = length entries - length left.1 in
            let facts = check-left g steps (seen ++ l ∷ r ∷ []) entries in
            let (going, lasting') = after_check turns l r seen entries next last in
            let end = rest left.0 (l ∷ r ∷ left.1) going lasting' in
            record {
              cells = end.cells;
              distinct = end.distinct;
              done = λ k. end.done
                  (sym (enough-behind (dropped ∷ []) (limited room steps turns g left.0 (l ∷ r ∷ left.1)) (dropped-some dropped (ltb-true 0 dropped e))) ∙ k);
              keeps = λ x mem. end.keeps x (facts.keeps x (Memᴰ.append_left (l ∷ r ∷ []) mem));
              few = omega (arith, end.few, facts.more, length-append seen (l ∷ r ∷ []));
            }
        vain l r false e rest next last =
            let left = check steps g (seen ++ l ∷ r ∷ []) entries in
            let facts = check-left g steps (seen ++ l ∷ r ∷ []) entries in
            let (going, lasting') = after_check turns l r seen entries next last in
            record {
              cells = going.cells;
              distinct = going.distinct;
              done = λ k. absurd (enough-none left.0 ((length entries - length left.1) ∷ []) (dropped-none (length entries - length left.1) (ltb-false 0 (length entries - length left.1) e)) k);
              keeps = λ x mem. facts.keeps x (Memᴰ.append_left (l ∷ r ∷ []) mem);
              few = omega (arith, facts.more, length-append seen (l ∷ r ∷ []));
            }

        full : (l r : ℕ) (t : Bool) → Rest → Going g roots (seen ++ l ∷ r ∷ []) (l ∷ r ∷ entries) → Lasting n turns (seen ++ l ∷ r ∷ []) (l ∷ r ∷ entries)
            → LimitedEnd seen (cond t (limited room steps turns g (seen ++ l ∷ r ∷ []) (l ∷ r ∷ entries)) (check_and_push steps g (limited room steps turns g) (seen ++ l ∷ r ∷ []) entries l r))
        full l r true rest next last = earlier (l ∷ r ∷ []) (rest (seen ++ l ∷ r ∷ []) (l ∷ r ∷ entries) next last)
        full l r false rest next last =
            vain l r (ltb 0 (length entries - length (check steps g (seen ++ l ∷ r ∷ []) entries).1)) refl rest next last

        go : (new : List ℕ) → length new ≤ 2 → Going g roots (seen ++ new) (new ++ entries) → Lasting n turns (seen ++ new) (new ++ entries)
            → Rest → LimitedEnd seen (turn_by room steps g (limited room steps turns g) seen entries new)
        go [] short next last rest = rest seen entries (rw (append-nil seen) at next) (rw (append-nil seen) at last)
        go (x ∷ []) short next last rest = earlier (x ∷ []) (rest (seen ++ x ∷ []) (x ∷ entries) next last)
        go (l ∷ r ∷ []) short next last rest = full l r (ltb (length entries) room) rest next last
        go (l ∷ r ∷ x ∷ more) short next last rest = absurd (omega arith)

  -- the same from a root, which is marked and taken in hand where it is unmarked
  module _ (room turns : ℕ) (many : n ≤ turns) where
    abbrev first_run : List ℕ → ℕ → List ℕ × List ℕ
    first_run seen p = limited room turns turns g (seen ++ taken seen p) (taken seen p)

    begun : {seen : List ℕ} (p : ℕ) → (0 < p → Reach g roots p) → Going g roots seen []
        → LimitedEnd (seen ++ taken seen p) (first_run seen p)
    begun {seen} p reach s =
        let s₁ = begin s p reach in limited-ended room turns turns (seen ++ taken seen p) (taken seen p) s₁ (omega (arith, s₁.few))

    -- where no cell is taken in hand no check is made
    begun-few : {seen : List ℕ} (p : ℕ) → (0 < p → Reach g roots p) → Going g roots seen []
        → let end = first_run seen p in length end.1 ≤ (length end.0 - suc (length seen)) / 2
    begun-few {seen} p reach s = go (is_unmarked seen p) (begun p reach s)
      where
        go : (t : Bool) → let end = limited room turns turns g (seen ++ cond t (p ∷ []) []) (cond t (p ∷ []) []) in
            LimitedEnd (seen ++ cond t (p ∷ []) []) end → length end.1 ≤ (length end.0 - suc (length seen)) / 2
        go true end = omega (arith, end.few, length-append seen (p ∷ []))
        go false end = rw (limited-none room turns turns g (seen ++ [])) (omega arith)

    -- Where the runs from all roots end.
    record AllEnd (seen ps : List ℕ) (end : List ℕ × List ℕ) : Type 0 where
      pub cells : Each (Reach g roots) end.0
      pub distinct : Distinct end.0
      pub done : is_enough end ≡ true → Going g roots end.0 [] × Each (λ x. 0 < x → Memᴰ x end.0) ps
      pub keeps : Each (λ x. Memᴰ x end.0) seen
      pub more : length seen ≤ length end.0
      pub few : length end.1 ≤ (length end.0 - suc (length seen)) / 2

    all-limited : (ps seen : List ℕ) → Each (λ x. 0 < x → Reach g roots x) ps → Going g roots seen [] → AllEnd seen ps (limited_runs room turns g seen ps)
    unfolding limited_runs
    all-limited [] seen reach s =
        record {
          cells = s.cells;
          distinct = s.distinct;
          done = λ e. (s, each_nil (λ x. 0 < x → Memᴰ x seen));
          keeps = λ x mem. mem;
          more = omega arith;
          few = omega arith;
        }
    all-limited (p ∷ ps) seen reach s = go (is_enough (first_run seen p)) refl (all-limited ps (first_run seen p).0 (λ x mem. reach x (Memᴰ.tail mem)))
      where
        end : LimitedEnd (seen ++ taken seen p) (first_run seen p)
        end = begun p (reach p (Memᴰ.head refl)) s

        few : length (first_run seen p).1 ≤ (length (first_run seen p).0 - suc (length seen)) / 2
        few = begun-few p (reach p (Memᴰ.head refl)) s

        more : length seen ≤ length (first_run seen p).0
        more = omega (arith, end.few, length-append seen (taken seen p))

        itself : 0 < p → (t : Bool) → is_unmarked seen p ≡ t → Memᴰ p (seen ++ cond t (p ∷ []) [])
        itself some true e = Memᴰ.append_right seen (Memᴰ.head refl)
        itself some false e = Memᴰ.append_left [] (fresh-false seen p e some)

        go : (t : Bool) → is_enough (first_run seen p) ≡ t → (Going g roots (first_run seen p).0 [] → AllEnd (first_run seen p).0 ps (limited_runs room turns g (first_run seen p).0 ps))
            → AllEnd seen (p ∷ ps) (cond t (behind (first_run seen p).1 (limited_runs room turns g (first_run seen p).0 ps)) (first_run seen p))
        go true e others =
            let rest = others (end.done e) in
            record {
              cells = rest.cells;
              distinct = rest.distinct;
              done = λ k.
                  let all = rest.done (sym (enough-behind (first_run seen p).1 (limited_runs room turns g (first_run seen p).0 ps) (not-true (elem 0 (first_run seen p).1) e)) ∙ k) in
                  (all.0, each_cons (λ x. 0 < x → Memᴰ x (limited_runs room turns g (first_run seen p).0 ps).0) (λ some. rest.keeps p (end.keeps p (itself some (is_unmarked seen p) refl))) all.1);
              keeps = λ x mem. rest.keeps x (end.keeps x (Memᴰ.append_left (taken seen p) mem));
              more = omega (arith, rest.more, more);
              few = rw (length-append (first_run seen p).1 (limited_runs room turns g (first_run seen p).0 ps).1) (omega (arith, rest.few, rest.more, few, more));
            }
        go false e others =
            record {
              cells = end.cells;
              distinct = end.distinct;
              done = λ k. absurd (false≢true (sym e ∙ k));
              keeps = λ x mem. end.keeps x (Memᴰ.append_left (taken seen p) mem);
              more = more;
              few = few;
            }

  all-limited_ended : (room : ℕ) → AllEnd room n (omega arith) [] roots (limited_run room n g roots)
  all-limited_ended room = all-limited room n (omega arith) roots [] (λ x mem. Reach.root mem) (going_first g roots)

pub limited-marks_the_reached : LimitedMarksTheReached
limited-marks_the_reached room n g roots within enough x =
    let end = all-limited_ended within room in
    let all = end.done enough in (
      end.cells x,
      reach_least (λ y. Memᴰ y (limited_run room n g roots).0) all.1
          λ y mem. ⊎_elim (λ k. absurd (Memᴰ.not-nil k)) (λ k. k) (all.0.closed y mem),
    )

pub limited-marks_only_reached : LimitedMarksOnlyReached
limited-marks_only_reached room n g roots within = let end = all-limited_ended within room in (end.cells, end.distinct)

pub few_checks : FewChecks
few_checks room n g roots within =
    let end = all-limited_ended within room in
    omega (arith, end.few, distinct-length n end.distinct λ x mem. let reach = end.cells x mem in (reach_above reach, reach_within within reach))
