-- The loop over the registers: it makes the runs of the definition, in the order of the registers.
use Prim.Native.Nat.{ℕ, suc, ◌+◌, ◌<◌, ◌≤◌}
use native.Mathlib.Omega.{arith}
use native.Mathlib.Numerals.{add-one}
use mathlib.Core.Path.{◌≡◌, refl, sym, ap, ◌∙◌}
use mathlib.Core.List.{List, [], ◌∷◌, nil≢cons, cons≢nil, head-eq_of_cons-eq, tail-eq_of_cons-eq}
use mathlib.Core.Bool.{true, false, true≢false, false≢true}
use lib.ListN.{length, drop}
use lib.Seq.{drop-cons, drop-length}
use Rattle.graph.proofs.Theorems.{preorder-length}
use Rattle.pool.specs.Layout.{cell_limit, pool_length, register, set_cell, is_point_at, roots_of, graph_of}
use Rattle.questions.specs.Validity.{well_formed}
use Rattle.pool.proofs.Every.{length-tabulate, get_or-tabulate, member-tabulate}
use Rattle.pool.proofs.Laws.{register-set_cell, length-set_cell}
use Rattle.questions.proofs.WellFormed.{well_formed_read}
use Rattle.questions.proofs.PoolGraph.{pool-within}
use Rattle.visit.specs.declared.Marker.{Marker}
use Rattle.visit.specs.Visit.{unmarked, marker}
use Rattle.reversal.specs.Reversal.{Visits, Run, MarkRoots}
use Rattle.reversal.specs.Steps.{Ending}
use Rattle.reversal.specs.ReversalTheorem.{marked_of}
use Rattle.reversal.proofs.RunLoop.{visit-keeps, counted}
use Rattle.reversal.specs.Reached.{reached_cells}
use Rattle.reversal.proofs.VisitCount.{visits-most}
use Rattle.reversal.proofs.Roots.{run-over_pool}

module _ (R n : ℕ) where
  -- a part of the words that no write to a cell changes is as it was after the visits
  visits_keep : {A : Type 0} (part : List ℕ → A) → ((w : List ℕ) (i f v : ℕ) → part (set_cell R w i f v) ≡ part w) → {k : ℕ} {s t : Marker × List ℕ}
      → Visits R n k s t → part t.1 ≡ part s.1
  visits_keep part same Visits.done = refl
  visits_keep part same (Visits.more {s = s} v rest) = visits_keep part same rest ∙ visit-keeps R s part same

  -- the first of several roots: a run from it where it is unmarked, and nothing otherwise
  roots-next : {l : List ℕ} {s t : ℕ × List ℕ} → MarkRoots R n l s t → (p : ℕ) (ps : List ℕ) → l ≡ p ∷ ps
      → (unmarked R s.1 p ≡ true → (u : ℕ × List ℕ) × Run R n p s u × MarkRoots R n ps u t)
      × (unmarked R s.1 p ≡ false → MarkRoots R n ps s t)
  roots-next MarkRoots.none p ps e = absurd (nil≢cons e)
  roots-next (MarkRoots.skip {p = q} {s = s} {t = t} h rest) p ps e = (
    λ h'. absurd (true≢false (sym h' ∙ (ap (unmarked R s.1) (sym (head-eq_of_cons-eq e)) ∙ h))),
    λ h'. rw (← tail-eq_of_cons-eq e) rest,
  )
  roots-next (MarkRoots.run {p = q} {s = s} {u = u} {t = t} h run rest) p ps e = (
    λ h'. (u, rw (← head-eq_of_cons-eq e) run, rw (← tail-eq_of_cons-eq e) rest),
    λ h'. absurd (false≢true (sym h' ∙ (ap (unmarked R s.1) (sym (head-eq_of_cons-eq e)) ∙ h))),
  )

  roots-last : {l : List ℕ} {s t : ℕ × List ℕ} → MarkRoots R n l s t → l ≡ [] → s ≡ t
  roots-last MarkRoots.none e = refl
  roots-last (MarkRoots.skip h rest) e = absurd (cons≢nil e)
  roots-last (MarkRoots.run h run rest) e = absurd (cons≢nil e)

  -- the visits only become more
  roots-more : {l : List ℕ} {s t : ℕ × List ℕ} → MarkRoots R n l s t → s.0 ≤ t.0
  roots-more MarkRoots.none = omega arith
  roots-more (MarkRoots.skip h rest) = roots-more rest
  roots-more (MarkRoots.run h run rest) = omega (arith, roots-more rest, counted R n run.2)

  -- what the loop keeps: registers are as they were, and of the runs over them those from k on are left
  pub record Marking (w₀ w : List ℕ) (visits k : ℕ) : Type 0 where
    pub most : k ≤ R
    pub len : length w ≡ length w₀
    pub same : (j : ℕ) → j < R → register w j ≡ register w₀ j
    pub rest : MarkRoots R n (drop k (roots_of R w₀)) (visits, w) (marked_of R n w₀)

  module _ (w₀ : List ℕ) (well : well_formed R n w₀ ≡ true) (room : pool_length R n ≤ length w₀) where
    pub marking_first : Marking w₀ w₀ 0 0
    marking_first = record { most = omega arith; len = refl; same = λ j low. refl; rest = run-over_pool R n w₀ room well }

    roots-length : length (roots_of R w₀) ≡ R
    roots-length = length-tabulate R (λ k. register w₀ k)

    roots-from : (k : ℕ) → k < R → drop k (roots_of R w₀) ≡ register w₀ k ∷ drop (k + 1) (roots_of R w₀)
    roots-from k low =
        drop-cons (roots_of R w₀) k 0 (omega (arith, roots-length))
        ∙ rw (get_or-tabulate R (λ j. register w₀ j) k 0 low, ← add-one k)

    module _ (w : List ℕ) (visits k p : ℕ) (g : Marking w₀ w visits k) (here : k < R) (read : p ≡ register w k) where
      this : p ≡ register w₀ k
      this = read ∙ g.same k here

      next : (unmarked R w p ≡ true → (u : ℕ × List ℕ) × Run R n p (visits, w) u × MarkRoots R n (drop (k + 1) (roots_of R w₀)) u (marked_of R n w₀))
          × (unmarked R w p ≡ false → MarkRoots R n (drop (k + 1) (roots_of R w₀)) (visits, w) (marked_of R n w₀))
      next = rw this (roots-next g.rest (register w₀ k) (drop (k + 1) (roots_of R w₀)) (roots-from k here))

      pub marking_bound : p ≤ n
      marking_bound =
          rw this ((pool-within (well_formed_read R n w₀ well)).root (register w₀ k) (member-tabulate R (λ j. register w₀ j) k here))

      pub marking_ends : n ≤ cell_limit → unmarked R w p ≡ true → Ending R n (marker p (suc n) visits, w)
      marking_ends limit e =
          let (u, run, rest) = next.0 e in
          let most = preorder-length n (graph_of R w₀) (roots_of R w₀) (pool-within (well_formed_read R n w₀ well)) in
          record { last = (marker (suc n) run.1 u.0, u.1); count = run.0; visits = run.2; past = omega arith; fits = omega (arith, roots-more rest, visits-most (is_point_at R w₀) (reached_cells R n w₀)) }

      pub marking_run : (visits' : ℕ) (w' : List ℕ) → unmarked R w p ≡ true
          → ((u : ℕ × List ℕ) → Run R n p (visits, w) u → ◌≡◌ {A = ℕ × List ℕ} (visits', w') u) → Marking w₀ w' visits' (k + 1)
      marking_run visits' w' e made =
          let (u, run, rest) = next.0 e in
          let same : w' ≡ u.1 = ap (λ (x : ℕ × List ℕ). x.1) (made u run) in
          record {
            most = omega arith;
            len = ap length same ∙ (visits_keep length (λ v i f x. length-set_cell R v i f x) run.2 ∙ g.len);
            same = λ j low.
                ap (λ (v : List ℕ). register v j) same
                ∙ (visits_keep (λ v. register v j) (λ v i f x. register-set_cell R v i f x j low) run.2 ∙ g.same j low);
            rest = rw (made u run) rest;
          }

      pub marking_skip : unmarked R w p ≡ false → Marking w₀ w visits (k + 1)
      marking_skip e = record { most = omega arith; len = g.len; same = g.same; rest = next.1 e }

    pub marking_last : (w : List ℕ) (visits k : ℕ) → Marking w₀ w visits k → R ≤ k → ◌≡◌ {A = ℕ × List ℕ} (visits, w) (marked_of R n w₀)
    marking_last w visits k g past =
        let all : k ≡ length (roots_of R w₀) = omega (arith, g.most, roots-length) in
        roots-last g.rest (rw all (drop-length (roots_of R w₀)))
