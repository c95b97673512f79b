-- The states of a well-formed pool as marks: they agree with its graph, so marking can start.
use Prim.Native.Nat.{ℕ, ◌<◌, ◌≤◌}
use native.Mathlib.Omega.{arith}
use mathlib.Core.Path.{◌≡◌, refl}
use mathlib.Core.Bool.{Bool, true, false, cond, ◌&&◌}
use mathlib.Core.Logic.{◌⊎◌, inl, inr}
use mathlib.Core.List.{List}
use lib.ListN.{length}
use lib.Dec.{leb}
use borrow.Author.Tests.{le-leb, lt-leb, leb-true}
use Rattle.graph.specs.Marking.{outside}
use Rattle.graph.proofs.Marks.{outside-nil, outside-cell, zero_or_above}
use Rattle.graph.proofs.Congruence.{Alike}
use Rattle.pool.specs.Layout.{pool_length, state, is_point_at, graph_of, roots_of}
use Rattle.pool.specs.States.{is_used}
use Rattle.pool.proofs.Sizes.{both}
use Rattle.questions.proofs.WellFormed.{WellFormed}
use Rattle.questions.proofs.PoolGraph.{Used, link_bound, used-links, reached-used}
use Rattle.reversal.specs.ReversalTheorem.{Agreement}

-- The states of the n cells as marks: a cell that is not used is marked, and so is everything that is no cell.
abbrev pub state_marks : ℕ → ℕ → List ℕ → ℕ → ℕ
state_marks R n w x = cond (leb 1 x && leb x n && is_used (state R w x)) 0 1

module _ (R n : ℕ) (w : List ℕ) where
  -- a used cell is unmarked, and what is unmarked is a used cell
  pub state_marks_used : {x : ℕ} → Used R n w x → state_marks R n w x ≡ 0
  state_marks_used {x} u = simp (le-leb 1 x u.positive, le-leb x n u.bounded, u.state)

  state_marks_past : (x : ℕ) → n < x → state_marks R n w x ≡ 1
  state_marks_past x past = simp (le-leb 1 x (omega arith), lt-leb x n past)

  unmarked-used : (x : ℕ) → state_marks R n w x ≡ 0 → Used R n w x
  unmarked-used x e = go (leb 1 x && leb x n && is_used (state R w x)) refl e
    where
      go : (t : Bool) → (leb 1 x && leb x n && is_used (state R w x)) ≡ t → ◌≡◌ {A = ℕ} (cond t 0 1) 0 → Used R n w x
      go true e z =
          let outer = both (leb 1 x && leb x n) (is_used (state R w x)) e in
          let inner = both (leb 1 x) (leb x n) outer.0 in
          record { positive = leb-true 1 x inner.0; bounded = leb-true x n inner.1; state = outer.1 }
      go false e z = absurd (omega arith)

  -- what is no used cell is marked
  pub state_marks_other : (x : ℕ) → (Used R n w x → ⊥) → 0 < state_marks R n w x
  state_marks_other x none = go (zero_or_above (state_marks R n w x))
    where
      go : (state_marks R n w x ≡ 0) ⊎ (0 < state_marks R n w x) → 0 < state_marks R n w x
      go (inl e) = absurd (none (unmarked-used x e))
      go (inr h) = h

  marked_other : (x : ℕ) → 0 < x → x ≤ n → 0 < state_marks R n w x → is_used (state R w x) ≡ false
  marked_other x positive bounded h = go (is_used (state R w x)) refl
    where
      go : (t : Bool) → is_used (state R w x) ≡ t → is_used (state R w x) ≡ false
      go true e = absurd (omega (arith, state_marks_used (record { positive = positive; bounded = bounded; state = e })))
      go false e = e

  module _ (well : WellFormed R n w) where
    -- the words agree with their own graph, and their states as marks
    pub agreement : pool_length R n ≤ length w → Agreement R n (graph_of R w) (is_point_at R w) (state_marks R n w) w
    agreement room =
        record {
          room = room;
          nil = omega arith;
          past = λ x h. omega (arith, state_marks_past x h);
          unmarked =
              λ x e.
              let used = unmarked-used x e in
              let links = used-links well used in
              record { state = used.state; kind = refl; left = refl; right = refl; left_bound = link_bound links.0; right_bound = link_bound links.1 };
          marked = marked_other;
        }

    -- where a cell can be reached, its state says as much as marks that leave every cell unmarked
    pub alike : Alike (graph_of R w) (roots_of R w) (outside n) (state_marks R n w)
    alike =
        record {
          nil = outside-nil n;
          nil' = omega arith;
          reached =
              λ x reach.
              let used = reached-used well reach in
              (λ e. state_marks_used used, λ e. outside-cell n x used.positive used.bounded);
        }
