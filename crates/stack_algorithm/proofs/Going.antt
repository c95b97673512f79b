-- The marker with a stack that has no limit: it ends, marks what is reached, none of it twice, and never holds more than (n - 1) / 2 entries.
use Prim.Native.Nat.{ℕ, zero, suc, ◌+◌, ◌*◌, ◌-◌, ◌/◌, ◌<◌, ◌≤◌}
use native.Mathlib.Omega.{arith}
use mathlib.Core.Path.{◌≡◌, refl, ap}
use mathlib.Core.Logic.{◌⊎◌, inl, inr, ⊎_elim}
use mathlib.Core.List.Memᴰ
use mathlib.Core.List.{List, [], ◌∷◌, ◌++◌, append-nil, Memᴰ}
use mathlib.Core.Bool.{Bool, true, false, cond}
use lib.ListN.{length, length-append}
use Rattle.graph.specs.Graph.{Graph, Reach, Within}
use Rattle.graph.specs.Theorems.{Distinct}
use Rattle.graph.proofs.Lists.{Each, each_nil, each_cons, each_append, distinct_append}
use Rattle.graph.proofs.Reached.{reach_least, reach_above, reach_within}
use Rattle.stack_algorithm.specs.Stack.{is_unmarked, onward, holding, run, taken, runs, stack_run}
use Rattle.stack_algorithm.specs.Steps.{LinksSeen, Going}
use Rattle.stack_algorithm.specs.StackTheorem.{StackEnds, StackMarksTheReached, StackMarksOnce, StackBound}
use Rattle.stack_algorithm.proofs.Fresh.{fresh-true, fresh-false, distinct-length, Passing, passing}

-- the unmarked links of a reached cell are reached
pub links-reached : {g : Graph} {roots : List ℕ} {p : ℕ} (seen : List ℕ) → Reach g roots p → Each (Reach g roots) (onward g seen p)
links-reached {g} {roots} {p} seen reached x mem =
    let f = passing (is_unmarked seen) (g.left p) (g.right p) in
    let some = (fresh-true seen x (f.passes x mem)).0 in
    ⊎_elim (λ e. rw e (Reach.left reached (rw e at some))) (λ e. rw e (Reach.right reached (rw e at some))) (f.links x mem)

-- links that are nil or marked stay so
links-kept : {seen : List ℕ} (g : Graph) (x : ℕ) (new : List ℕ) → LinksSeen g seen x → LinksSeen g (seen ++ new) x
links-kept g x new k = (λ h. Memᴰ.append_left new (k.0 h), λ h. Memᴰ.append_left new (k.1 h))

-- The turns are enough: one for each cell that is pending, and one for each of the n cells that is not marked.
abbrev pub Lasting : ℕ → ℕ → List ℕ → List ℕ → Type 0
Lasting n turns seen pending = n + length pending ≤ turns + length seen

pub going_first : (g : Graph) (roots : List ℕ) → Going g roots [] []
going_first g roots =
    record {
      cells = each_nil (Reach g roots);
      distinct = Distinct.none;
      held = each_nil (λ x. Memᴰ x []);
      closed = λ x mem. absurd (Memᴰ.not-nil mem);
      few = omega arith;
    }

-- reached cells that are unmarked, none of them twice, are marked and become pending: what was marked stays closed but for these
join : {g : Graph} {roots seen : List ℕ} (stack new : List ℕ) → Each (Reach g roots) seen → Distinct seen → Each (λ x. Memᴰ x seen) stack
    → ((x : ℕ) → Memᴰ x seen → Memᴰ x stack ⊎ LinksSeen g (seen ++ new) x) → 2 * (length new + length stack) ≤ suc (length seen + length new)
    → Each (Reach g roots) new → Each (λ x. is_unmarked seen x ≡ true) new → Distinct new → Going g roots (seen ++ new) (new ++ stack)
join {g} {roots} {seen} stack new cells distinct held closed few reached fresh apart =
    record {
      cells = each_append (Reach g roots) seen cells reached;
      distinct = distinct_append distinct apart λ x mem k. (fresh-true seen x (fresh x k)).1 mem;
      held =
          each_append (λ x. Memᴰ x (seen ++ new)) new (λ x mem. Memᴰ.append_right seen mem) (λ x mem. Memᴰ.append_left new (held x mem));
      closed = λ x mem.
          ⊎_elim (λ m. ⊎_elim (λ k. inl (Memᴰ.append_right new k)) inr (closed x m)) (λ m. inl (Memᴰ.append_left stack m))
          (Memᴰ.append_cases seen mem);
      few = simp length-append (omega arith);
    }

-- a turn: the cell in hand is replaced by its unmarked links
module _ {g : Graph} {roots seen stack : List ℕ} {p : ℕ} (s : Going g roots seen (p ∷ stack)) where
  pub turn : Going g roots (seen ++ onward g seen p) (onward g seen p ++ stack)
  turn =
      join stack (onward g seen p) s.cells s.distinct (λ x mem. s.held x (Memᴰ.tail mem))
      (λ x mem. ⊎_elim (λ k. ⊎_elim (λ e. inr (rw e linked)) inl (Memᴰ.cases_cons k)) (λ k. inr (links-kept g x (onward g seen p) k)) (s.closed x mem))
      (omega (arith, s.few, f.short)) (links-reached seen (s.cells p (s.held p (Memᴰ.head refl)))) f.passes f.distinct
    where
      f : Passing (is_unmarked seen) (g.left p) (g.right p) (onward g seen p)
      f = passing (is_unmarked seen) (g.left p) (g.right p)

      now : (x : ℕ) → (is_unmarked seen x ≡ true → Memᴰ x (onward g seen p)) → 0 < x → Memᴰ x (seen ++ onward g seen p)
      now x new some = go (is_unmarked seen x) refl
        where
          go : (t : Bool) → is_unmarked seen x ≡ t → Memᴰ x (seen ++ onward g seen p)
          go true e = Memᴰ.append_right seen (new e)
          go false e = Memᴰ.append_left (onward g seen p) (fresh-false seen x e some)

      linked : LinksSeen g (seen ++ onward g seen p) p
      linked = (now (g.left p) f.left, now (g.right p) f.right)

  pub turn_lasting : (n turns : ℕ) → Lasting n (suc turns) seen (p ∷ stack) → Lasting n turns (seen ++ onward g seen p) (onward g seen p ++ stack)
  turn_lasting n turns enough = simp length-append (omega arith)

-- a root that is unmarked is marked and taken in hand
pub begin : {g : Graph} {roots seen : List ℕ} → Going g roots seen [] → (p : ℕ) → (0 < p → Reach g roots p) → Going g roots (seen ++ taken seen p) (taken seen p)
begin {g} {roots} {seen} s p reach = go (is_unmarked seen p) refl
  where
    go : (t : Bool) → is_unmarked seen p ≡ t → Going g roots (seen ++ cond t (p ∷ []) []) (cond t (p ∷ []) [])
    go false e = rw (append-nil seen) s
    go true e =
        rw (append-nil (p ∷ [])) at
        (join [] (p ∷ []) s.cells s.distinct (each_nil (λ x. Memᴰ x seen))
        (λ x mem. ⊎_elim (λ k. inl k) (λ k. inr (links-kept g x (p ∷ []) k)) (s.closed x mem))
        (omega arith) (each_cons (Reach g roots) (reach (fresh-true seen p e).0) (each_nil (Reach g roots)))
        (each_cons (λ x. is_unmarked seen x ≡ true) e (each_nil (λ x. is_unmarked seen x ≡ true))) (Distinct.more Memᴰ.not-nil Distinct.none))

module _ {n : ℕ} {g : Graph} {roots : List ℕ} (within : Within n g roots) where
  -- no more cells are marked than there are
  pub seen_most : {seen pending : List ℕ} → Going g roots seen pending → length seen ≤ n
  seen_most s = distinct-length n s.distinct λ x mem. let reach = s.cells x mem in (reach_above reach, reach_within within reach)

  -- the turns lead to an end where nothing is pending, with at most (n - 1) / 2 entries on the way
  pub record Ended (seen : List ℕ) (end : List ℕ × ℕ) : Type 0 where
    pub going : Going g roots end.0 []
    pub bound : end.1 ≤ (n - 1) / 2
    pub keeps : Each (λ x. Memᴰ x end.0) seen

  pub ended : (turns : ℕ) (seen pending : List ℕ) → Going g roots seen pending → Lasting n turns seen pending → Ended seen (run turns g seen pending)
  unfolding run
  ended zero seen [] s enough = record { going = s; bound = omega arith; keeps = λ x mem. mem }
  ended zero seen (p ∷ stack) s enough = absurd (omega (arith, seen_most s))
  ended (suc turns) seen [] s enough = record { going = s; bound = omega arith; keeps = λ x mem. mem }
  ended (suc turns) seen (p ∷ stack) s enough =
      let rest = ended turns (seen ++ onward g seen p) (onward g seen p ++ stack) (turn s) (turn_lasting s n turns enough) in
      record {
        going = rest.going;
        bound = omega (arith, rest.bound, s.few, seen_most s);
        keeps = λ x mem. rest.keeps x (Memᴰ.append_left (onward g seen p) mem);
      }

  -- more turns change nothing
  longer : (turns longer : ℕ) (seen pending : List ℕ) → Going g roots seen pending → Lasting n turns seen pending → turns ≤ longer
      → run longer g seen pending ≡ run turns g seen pending
  unfolding run
  longer zero zero seen pending s enough more = refl
  longer zero (suc j) seen [] s enough more = refl
  longer zero (suc j) seen (p ∷ stack) s enough more = absurd (omega (arith, seen_most s))
  longer (suc k) zero seen pending s enough more = absurd (omega arith)
  longer (suc k) (suc j) seen [] s enough more = refl
  longer (suc k) (suc j) seen (p ∷ stack) s enough more =
      ap (holding (length stack)) (longer k j (seen ++ onward g seen p) (onward g seen p ++ stack) (turn s) (turn_lasting s n k enough) (omega arith))

  -- the same of the roots
  pub record AllEnded (seen ps : List ℕ) (end : List ℕ × ℕ) : Type 0 where
    pub ended : Ended seen end
    pub rooted : Each (λ x. 0 < x → Memᴰ x end.0) ps

  all-ended : (turns : ℕ) → n ≤ turns → (ps seen : List ℕ) → Each (λ x. 0 < x → Reach g roots x) ps → Going g roots seen []
      → AllEnded seen ps (runs turns g seen ps)
  unfolding runs
  all-ended turns many [] seen reach s =
      record { ended = record { going = s; bound = omega arith; keeps = λ x mem. mem }; rooted = each_nil (λ x. 0 < x → Memᴰ x seen) }
  all-ended turns many (p ∷ ps) seen reach s =
      let s₁ = begin s p (reach p (Memᴰ.head refl)) in
      let first = ended turns (seen ++ taken seen p) (taken seen p) s₁ (omega (arith, s₁.few)) in
      let rest = all-ended turns many ps (run turns g (seen ++ taken seen p) (taken seen p)).0 (λ x mem. reach x (Memᴰ.tail mem)) first.going in
      record {
        ended = record {
          going = rest.ended.going;
          bound = omega (arith, first.bound, rest.ended.bound);
          keeps = λ x mem. rest.ended.keeps x (first.keeps x (Memᴰ.append_left (taken seen p) mem));
        };
        rooted = each_cons _ (λ some. rest.ended.keeps p (first.keeps p (itself some (is_unmarked seen p) refl))) rest.rooted;
      }
    where
      itself : 0 < p → (t : Bool) → is_unmarked seen p ≡ t → Memᴰ p (seen ++ cond t (p ∷ []) [])
      itself some true e = Memᴰ.append_right seen (Memᴰ.head refl)
      itself some false e = Memᴰ.append_left [] (fresh-false seen p e some)

  all-longer : (turns : ℕ) → n ≤ turns → (ps seen : List ℕ) → Each (λ x. 0 < x → Reach g roots x) ps → Going g roots seen []
      → runs turns g seen ps ≡ runs n g seen ps
  unfolding runs
  all-longer turns many [] seen reach s = refl
  all-longer turns many (p ∷ ps) seen reach s =
      let s₁ = begin s p (reach p (Memᴰ.head refl)) in
      let same = longer n turns (seen ++ taken seen p) (taken seen p) s₁ (omega (arith, s₁.few)) many in
      let first = ended n (seen ++ taken seen p) (taken seen p) s₁ (omega (arith, s₁.few)) in
      rw same
      (ap (holding (run n g (seen ++ taken seen p) (taken seen p)).1)
      (all-longer turns many ps (run n g (seen ++ taken seen p) (taken seen p)).0 (λ x mem. reach x (Memᴰ.tail mem)) first.going))

  stack-ended : AllEnded [] roots (stack_run n g roots)
  stack-ended = all-ended n (omega arith) roots [] (λ x mem. Reach.root mem) (going_first g roots)

pub stack-ends : StackEnds
stack-ends n g roots within turns many = all-longer within turns many roots [] (λ x mem. Reach.root mem) (going_first g roots)

pub stack-marks_the_reached : StackMarksTheReached
stack-marks_the_reached n g roots within x =
    let end = stack-ended within in (
      end.ended.going.cells x,
      reach_least (λ y. Memᴰ y (stack_run n g roots).0) end.rooted
          λ y mem. ⊎_elim (λ k. absurd (Memᴰ.not-nil k)) (λ k. k) (end.ended.going.closed y mem),
    )

pub stack-marks_once : StackMarksOnce
stack-marks_once n g roots within = (stack-ended within).ended.going.distinct

pub stack_bound : StackBound
stack_bound n g roots within = (stack-ended within).ended.bound
