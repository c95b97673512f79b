-- The loop of a walk: each turn is a step of the definition's.
use Prim.Native.Nat.{ℕ, zero, suc, ◌+◌, ◌<◌, ◌≤◌}
use native.Mathlib.Omega.{arith}
use mathlib.Core.Path.{◌≡◌, refl, sym, ap, ◌∙◌}
use mathlib.Core.List.{List, [], ◌∷◌, ◌++◌, Memᴰ}
use mathlib.Core.Bool.{true}
use lib.ListN.{length, length-append}
use borrow.Author.Tests.{ne_eqb}
use Rattle.graph.proofs.Count.{marked-le}
use Rattle.pool.specs.Layout.{pool_length, state, link_of, graph_of, mark_cell}
use Rattle.pool.specs.States.{is_used, is_marked}
use Rattle.questions.proofs.PoolGraph.{pool-within}
use Rattle.reversal.specs.ReversalTheorem.{mark_all}
use Rattle.reversal.proofs.PoolMarks.{state_marks}
use Rattle.stack_algorithm.specs.Stack.{onward}
use Rattle.stack_algorithm.specs.Check.{by_links, walk}
use Rattle.stack_algorithm.proofs.Fresh.{member-some}
use Rattle.stack_algorithm.proofs.Going.{seen_most}
use Rattle.stack_check.specs.Steps.{UsedOrMarked, onward_in, entry_of, in_words, Walkable, walk_in}
use Rattle.stack_check.proofs.Marked.{Marked, marked-length, pending_well, pending_length, pending_cell, pending_links, pending_marked, looked, turned, new_cell, marked-count, unmarked_count}

-- Between two turns: what is left of the walk leads to the same end.
pub record Walking (R n : ℕ) (pool : List ℕ) (end : List ℕ × List ℕ) (w : List ℕ) (p : ℕ) : Type 0 where
  pub others : List ℕ
  pub marked : Marked R pool w (p ∷ others)
  pub steps : ℕ
  pub enough : n < steps + length marked.seen
  pub last : walk steps (graph_of R pool) marked.seen p ≡ end

abbrev walk_end : (R n entry : ℕ) (w₀ : List ℕ) → Walkable R n w₀ entry → List ℕ × List ℕ
walk_end R n entry w₀ h = walk n (graph_of R h.1.pool) h.1.seen entry

abbrev pub WalkLoop : ℕ → ℕ → ℕ → List ℕ → List ℕ → ℕ → Type 0
WalkLoop R n entry w₀ w p = (h : Walkable R n w₀ entry) → Walking R n h.1.pool (walk_end R n entry w₀ h) w p

module _ (R n entry : ℕ) (w₀ : List ℕ) (room : pool_length R n ≤ length w₀) where
  module _ (h : Walkable R n w₀ entry) where
    pool-room : pool_length R n ≤ length h.1.pool
    pool-room = omega (arith, pending_length h.1)

  pub walk_first : WalkLoop R n entry w₀ w₀ entry
  walk_first h =
      record {
        others = h.0;
        marked = record { seen = h.1.seen; words = h.1.words; going = h.1.going };
        steps = n;
        enough = omega (arith, member-some (h.1.going.held entry (Memᴰ.head refl)));
        last = refl;
      }

  module _ {w : List ℕ} {p : ℕ} (s : WalkLoop R n entry w₀ w p) where
    module _ (h : Walkable R n w₀ entry) where
      pub walk-cell : (0 < p) × (p ≤ n) × (link_of R w p 1 ≤ n) × (link_of R w p 2 ≤ n) × (pool_length R n ≤ length w)
      walk-cell = pending_cell R n h.1.pool (pending_well h.1) (pool-room h) (s h).marked

      pub walk-links : UsedOrMarked R w (link_of R w p 1) × UsedOrMarked R w (link_of R w p 2)
      walk-links = pending_links R n h.1.pool (pending_well h.1) (pool-room h) (s h).marked

      pub walk-marked : is_marked (state R w p) ≡ true
      walk-marked = pending_marked R n h.1.pool (pending_well h.1) (pool-room h) (s h).marked

      pub walk-length : length w ≡ length w₀
      walk-length = marked-length R n h.1.pool (pending_well h.1) (pool-room h) (s h).marked ∙ sym (pending_length h.1)

      module _ (new : List ℕ) (links : new ≡ onward_in R w p) where
        -- the step of the definition
        stepped : (t : ℕ) × ((s h).steps ≡ suc t)
            × (by_links new ((s h).marked.seen, []) (λ x. walk t (graph_of R h.1.pool) ((s h).marked.seen ++ x ∷ []) x) (λ l r. ((s h).marked.seen, p ∷ [])) ≡ walk_end R n entry w₀ h)
        unfolding walk
        stepped = go (s h).steps refl
          where
            same : new ≡ onward (graph_of R h.1.pool) (s h).marked.seen p
            same = links ∙ looked R n h.1.pool (pending_well h.1) (pool-room h) (s h).marked

            go : (k : ℕ) → (s h).steps ≡ k
                → (t : ℕ) × ((s h).steps ≡ suc t)
                × (by_links new ((s h).marked.seen, []) (λ x. walk t (graph_of R h.1.pool) ((s h).marked.seen ++ x ∷ []) x) (λ l r. ((s h).marked.seen, p ∷ [])) ≡ walk_end R n entry w₀ h)
            go zero e = absurd (omega (arith, (s h).enough, seen_most (pool-within (pending_well h.1)) (s h).marked.going))
            go (suc t) e = (t, e, rw same (ap (λ (k : ℕ). walk k (graph_of R h.1.pool) (s h).marked.seen p) (sym e) ∙ (s h).last))

        -- the cells that are marked next
        pub walk_new : (x : ℕ) → Memᴰ x new → (0 < x) × (x ≤ n) × (is_used (state R w x) ≡ true)
        walk_new x mem = new_cell R n h.1.pool (pending_well h.1) (pool-room h) (s h).marked new links x mem

      -- none is unmarked: the entry is dropped
      pub walk-dropped : [] ≡ onward_in R w p → ◌≡◌ {A = List ℕ × List ℕ} (w, entry_of 0) (walk_in R n w₀ entry h)
      walk-dropped links =
          ap (λ (v : List ℕ). (v, entry_of 0)) (s h).marked.words ∙ ap (in_words R h.1.pool) (stepped [] links).2

      -- two are: the cell reached is kept
      pub walk_kept : (l r : ℕ) → l ∷ r ∷ [] ≡ onward_in R w p → ◌≡◌ {A = List ℕ × List ℕ} (w, entry_of p) (walk_in R n w₀ entry h)
      walk_kept l r links =
          rw (ne_eqb p 0 (λ e. omega (arith, walk-cell.0)), (s h).marked.words) (ap (in_words R h.1.pool) (stepped (l ∷ r ∷ []) links).2)

      -- one is: it is marked, and gone to
      next : (x : ℕ) → x ∷ [] ≡ onward_in R w p → Marked R h.1.pool (mark_all R w (x ∷ [])) (x ∷ (s h).others)
      next x links = turned R n h.1.pool (pending_well h.1) (pool-room h) (s h).marked (x ∷ []) links

      pub walk_less : (x : ℕ) (w₁ : List ℕ) → x ∷ [] ≡ onward_in R w p → w₁ ≡ mark_cell R w x → unmarked_count R n w₁ < unmarked_count R n w
      unfolding mark_all turned next
      walk_less x w₁ links e₁ =
          rw e₁
          (omega (
            arith,
            marked-count R n h.1.pool (pending_well h.1) (pool-room h) (s h).marked,
            marked-count R n h.1.pool (pending_well h.1) (pool-room h) (next x links),
            length-append (s h).marked.seen (x ∷ []),
            marked-le n (state_marks R n (mark_all R w (x ∷ []))),
          ))

    pub walk_go : (x : ℕ) (w₁ : List ℕ) → x ∷ [] ≡ onward_in R w p → w₁ ≡ mark_cell R w x → WalkLoop R n entry w₀ w₁ x
    unfolding mark_all turned next
    walk_go x w₁ links e₁ h =
        let (t, e, last) = stepped h (x ∷ []) links in
        rw e₁
        (record {
          others = (s h).others;
          marked = next h x links;
          steps = t;
          enough = omega (arith, (s h).enough, length-append (s h).marked.seen (x ∷ []));
          last = last;
        })
