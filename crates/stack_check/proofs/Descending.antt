-- The loop that walks from the entries in place: what it keeps.
use Prim.Native.Nat.{ℕ, zero, suc, ◌-◌, ◌<◌, ◌≤◌}
use native.Mathlib.Omega.{arith}
use mathlib.Core.Path.{◌≡◌, refl, sym, ap, ◌∙◌}
use mathlib.Core.List.{List, [], ◌∷◌, ◌++◌}
use lib.ListN.{length, get_or, set, length-set}
use Rattle.pool.specs.Layout.{graph_of, roots_of}
use Rattle.reversal.proofs.MarkAll.{length-mark_all}
use Rattle.stack_algorithm.specs.Steps.{Going}
use Rattle.stack_algorithm.specs.Check.{walk}
use Rattle.stack_algorithm.proofs.Checking.{swap, walk-next}
use Rattle.stack_check.specs.Steps.{entries, entry_of, without_nil, Walkable, walk_in, Checkable, check_in}
use Rattle.stack_check.proofs.Marked.{Marked, pending_length}
use Rattle.stack_check.proofs.Entries.{place_of, place-entry, walk_down, down_walked, entries_pop, entries_above}

-- With the walks from the entries below i to come, which lead to `end`.
pub record Descending (R n : ℕ) (pool : List ℕ) (end : List ℕ × List ℕ) (w stack : List ℕ) (i : ℕ) : Type 0 where
  pub others : List ℕ
  pub marked : Marked R pool w (others ++ entries stack i)
  pub last : walk_down n (graph_of R pool) i marked.seen stack ≡ end

-- What the loop keeps.
pub record Down (R n : ℕ) (w₀ stack₀ w stack : List ℕ) (i : ℕ) : Type 0 where
  pub lent : length stack ≡ length stack₀
  pub fits : i ≤ length stack₀
  pub run : (h : Checkable R n w₀ stack₀)
      → Descending R n h.1.pool (walk_down n (graph_of R h.1.pool) (length stack₀) h.1.seen stack₀) w stack i

module _ (R n : ℕ) (w₀ stack₀ : List ℕ) where
  pub down_first : Down R n w₀ stack₀ w₀ stack₀ (length stack₀)
  down_first =
      record {
        lent = refl;
        fits = omega arith;
        run = λ h. record { others = h.0; marked = record { seen = h.1.seen; words = h.1.words; going = h.1.going }; last = refl };
      }

  module _ {w stack : List ℕ} {i : ℕ} (s : Down R n w₀ stack₀ w stack i) where
    pub down_length : Checkable R n w₀ stack₀ → length w ≡ length w₀
    down_length h =
        ap length (s.run h).marked.words
        ∙ (length-mark_all R h.1.pool (s.run h).marked.seen ∙ sym (pending_length h.1))

    module _ (some : 0 < i) (h : Checkable R n w₀ stack₀) where
      abbrev entry : ℕ
      entry = get_or stack (i - 1) 0

      -- the entry is pending
      pending : Going (graph_of R h.1.pool) (roots_of R h.1.pool) (s.run h).marked.seen ((s.run h).others ++ entry ∷ entries stack (i - 1))
      pending = rw (entries_pop stack i some) at (s.run h).marked.going

      pub down_walkable : Walkable R n w entry
      down_walkable = (
        (s.run h).others ++ entries stack (i - 1),
        record {
          pool = h.1.pool;
          seen = (s.run h).marked.seen;
          well = h.1.well;
          words = (s.run h).marked.words;
          going = swap (s.run h).others (entry ∷ []) (entries stack (i - 1)) pending;
        },
      )

    -- what the walk gives takes its place
    pub down_next : 0 < i → (w' : List ℕ) (r : ℕ)
        → ((hw : Walkable R n w (get_or stack (i - 1) 0)) → ◌≡◌ {A = List ℕ × List ℕ} (w', entry_of r) (walk_in R n w (get_or stack (i - 1) 0) hw))
        → Down R n w₀ stack₀ w' (set stack (i - 1) r) (i - 1)
    unfolding walk_down down_walkable
    down_next some w' r walked =
        record {
          lent = length-set stack (i - 1) r ∙ s.lent;
          fits = omega (arith, s.fits);
          run = λ h.
              let p = get_or stack (i - 1) 0 in
              let seen = (s.run h).marked.seen in
              let first = walk n (graph_of R h.1.pool) seen p in
              let made = walked (down_walkable some h) in
              let place : r ≡ place_of first.1 = sym (place-entry r) ∙ ap (λ (x : List ℕ × List ℕ). place_of x.1) made in
              record {
                others = (s.run h).others ++ first.1;
                marked = record {
                  seen = first.0;
                  words = ap (λ (x : List ℕ × List ℕ). x.0) made;
                  going = rw (entries_above stack (i - 1) r (i - 1) (omega arith)) (walk-next n seen (s.run h).others (entries stack (i - 1)) p (pending some h));
                };
                last = rw place (step i some (walk_down n (graph_of R h.1.pool) (length stack₀) h.1.seen stack₀) h (s.run h).last);
              };
        }
      where
        step : (j : ℕ) → 0 < j → (end : List ℕ × List ℕ) (h : Checkable R n w₀ stack₀) → walk_down n (graph_of R h.1.pool) j (s.run h).marked.seen stack ≡ end
            → let first = walk n (graph_of R h.1.pool) (s.run h).marked.seen (get_or stack (j - 1) 0) in
            walk_down n (graph_of R h.1.pool) (j - 1) first.0 (set stack (j - 1) (place_of first.1)) ≡ end
        step zero some end h e = absurd (omega arith)
        step (suc j) some end h e = let less : suc j - 1 ≡ j = omega arith in rw less e

    -- all walks are done
    pub down_last : i ≤ 0 → (h : Checkable R n w₀ stack₀)
        → ◌≡◌ {A = List ℕ × List ℕ} (w, without_nil (entries stack (length stack₀))) (check_in R n w₀ stack₀ h)
    unfolding walk_down
    down_last none h =
        let end = walk_down n (graph_of R h.1.pool) (length stack₀) h.1.seen stack₀ in
        let all = down_walked n (length stack₀) h.1.seen h.0 stack₀ (omega arith) h.1.going in
        let zero' : i ≡ 0 = omega arith in
        let last : ◌≡◌ {A = List ℕ × List ℕ} ((s.run h).marked.seen, stack) end = rw zero' at (s.run h).last in
        rw (
          (s.run h).marked.words,
          ap (λ (x : List ℕ × List ℕ). x.0) last ∙ all.marked,
          ap (λ (x : List ℕ × List ℕ). without_nil (entries x.1 (length stack₀))) last ∙ all.left,
        ) refl
