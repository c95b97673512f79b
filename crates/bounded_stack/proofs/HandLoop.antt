-- The loop that takes one cell after the other in hand: each turn is one of the definition's, and it ends.
use Prim.Native.Nat.{ℕ, zero, suc, ◌+◌, ◌*◌, ◌-◌, ◌<◌, ◌≤◌}
use native.Mathlib.Omega.{arith}
use mathlib.Core.Path.{◌≡◌, refl, sym, ap, ap₂, subst, ◌∙◌}
use mathlib.Core.List.{List, [], ◌∷◌, ◌++◌, append-nil, append_assoc, Memᴰ}
use mathlib.Core.Bool.{Bool, true, false}
use lib.ListN.{length, get_or, set, length-set, length-append}
use borrow.Author.Tests.{lt-ltb, le-ltb}
use Rattle.graph.specs.Preorder.{elem}
use Rattle.graph.proofs.Count.{marked-le}
use Rattle.pool.specs.Layout.{pool_length, state, graph_of, roots_of, mark_cell, link_of}
use Rattle.pool.specs.States.{is_used, is_marked}
use Rattle.questions.proofs.PoolGraph.{pool-within}
use Rattle.reversal.specs.ReversalTheorem.{mark_all}
use Rattle.reversal.proofs.PoolMarks.{state_marks}
use Rattle.stack_algorithm.specs.Stack.{onward}
use Rattle.stack_algorithm.specs.Steps.{Going}
use Rattle.stack_algorithm.specs.Check.{check, behind, check_and_push, push, turn_by, limited}
use Rattle.stack_algorithm.proofs.Going.{Lasting, seen_most, turn_lasting}
use Rattle.stack_algorithm.proofs.Checking.{Left, check-left, check-going, limited-none, enough-behind, dropped-some, elem-append}
use Rattle.stack_check.specs.Steps.{UsedOrMarked, onward_in, entries, Pending, Checkable, check_in}
use Rattle.stack_check.proofs.Marked.{Marked, marked-length, pending_well, pending_length, pending_cell, pending_links, pending_marked, looked, new_cell, marked-count, unmarked_count}
use Rattle.stack_check.proofs.Marked as marked
use Rattle.stack_check.proofs.Entries.{entries-length, entries-push, entries_pop}
use Rattle.bounded_stack.specs.Steps.{result_in, run_from_cell}

-- How many turns are left at most behind this one: one for each cell that is not marked, and one for each entry of the stack.
abbrev pub turns_left : ℕ → ℕ → List ℕ → ℕ → ℕ
turns_left R n words top = unmarked_count R n words + top

-- Between two turns of a run with `room` words that leads to `end`: some checks were made, each of which dropped an entry, and what is left of the run leads
-- to the same end.
pub record Running (R n room : ℕ) (pool : List ℕ) (end : List ℕ × List ℕ) (w pending : List ℕ) (checks : ℕ) : Type 0 where
  pub marked : Marked R pool w pending
  pub turns : ℕ
  pub lasting : Lasting n turns (marked).seen pending
  pub dropped : List ℕ
  pub each : elem 0 dropped ≡ false
  pub counted : checks ≡ length dropped
  pub few : 2 * checks ≤ length (marked).seen
  pub last : behind dropped (limited room n turns (graph_of R pool) (marked).seen pending) ≡ end

-- What the loop keeps, with the stack's entries below `top` in the lent words.
pub record Hand (R n p : ℕ) (words₀ stack₀ words stack : List ℕ) (hand top checks : ℕ) : Type 0 where
  pub lent : length stack ≡ length stack₀
  pub fits : top ≤ length stack₀
  pub run : (h : Pending R n words₀ (p ∷ []))
      → Running R n (length stack₀) h.pool (run_from_cell R n (length stack₀) p words₀ h) words (hand ∷ entries stack top) checks

-- Before a push of the right link r, with the left one l to be taken in hand: there is room, and the push leads to the next turn, which leaves fewer.
pub record Ready (R n p : ℕ) (words₀ stack₀ words : List ℕ) (top l r : ℕ) (words' stack' : List ℕ) (top' checks' : ℕ) : Type 0 where
  pub room : top' < length stack'
  pub lent : length stack' ≡ length stack₀
  pub hand : Hand R n p words₀ stack₀ words' (set stack' top' r) l (top' + 1) checks'
  pub less : turns_left R n words' (top' + 1) < turns_left R n words top

module _ (R n p : ℕ) (words₀ : List ℕ) (room : pool_length R n ≤ length words₀) where
  module _ (h : Pending R n words₀ (p ∷ [])) where
    pool-room : pool_length R n ≤ length h.pool
    pool-room = omega (arith, room, pending_length h)

  pub hand_first : (stack₀ : List ℕ) → Hand R n p words₀ stack₀ words₀ stack₀ p 0 0
  unfolding entries elem
  hand_first stack₀ =
      record {
        lent = refl;
        fits = omega arith;
        run = λ h.
            record {
              marked = record { seen = h.seen; words = h.words; going = h.going };
              turns = n;
              lasting = omega (arith, h.going.few);
              dropped = [];
              each = refl;
              counted = refl;
              few = omega arith;
              last = refl;
            };
      }

  module _ (stack₀ words stack : List ℕ) (hand top checks : ℕ) (s : Hand R n p words₀ stack₀ words stack hand top checks) where
    module _ (h : Pending R n words₀ (p ∷ [])) where
      pub hand_cell : (0 < hand) × (hand ≤ n) × (link_of R words hand 1 ≤ n) × (link_of R words hand 2 ≤ n) × (pool_length R n ≤ length words)
      hand_cell = pending_cell R n h.pool (pending_well h) (pool-room h) (s.run h).marked

      pub hand_links : UsedOrMarked R words (link_of R words hand 1) × UsedOrMarked R words (link_of R words hand 2)
      hand_links = pending_links R n h.pool (pending_well h) (pool-room h) (s.run h).marked

      pub hand_marked : is_marked (state R words hand) ≡ true
      hand_marked = pending_marked R n h.pool (pending_well h) (pool-room h) (s.run h).marked

      -- so its state may be read
      pub hand_read : (0 < hand) × (0 < 4) × (pool_length R hand ≤ length words)
      hand_read = (hand_cell.0, omega arith, omega (arith, hand_cell.1, hand_cell.4))

      pub hand_length : length words ≡ length words₀
      hand_length =
          marked-length R n h.pool (pending_well h) (pool-room h) (s.run h).marked ∙ sym (pending_length h)

      module _ (new : List ℕ) (links : new ≡ onward_in R words hand) where
        -- the links that the loop goes on to are used cells
        pub hand_new : (x : ℕ) → Memᴰ x new → (0 < x) × (x ≤ n) × (is_used (state R words x) ≡ true)
        hand_new = new_cell R n h.pool (pending_well h) (pool-room h) (s.run h).marked new links

        -- these marked
        next : Marked R h.pool (mark_all R words new) (new ++ entries stack top)
        next = marked.turned R n h.pool (pending_well h) (pool-room h) (s.run h).marked new links

        -- as many cells more are marked
        more : unmarked_count R n (mark_all R words new) + length new ≡ unmarked_count R n words
        unfolding next marked.turned
        more =
            omega (
              arith,
              marked-count R n h.pool (pending_well h) (pool-room h) (s.run h).marked,
              marked-count R n h.pool (pending_well h) (pool-room h) next,
              length-append (s.run h).marked.seen new,
              marked-le n (state_marks R n (mark_all R words new)),
            )

        -- the turn of the definition
        stepped : (t : ℕ) × Lasting n t ((s.run h).marked.seen ++ new) (new ++ entries stack top)
            × (behind (s.run h).dropped (turn_by (length stack₀) n (graph_of R h.pool) (limited (length stack₀) n t (graph_of R h.pool)) (s.run h).marked.seen (entries stack top) new)
            ≡ run_from_cell R n (length stack₀) p words₀ h)
        unfolding limited
        stepped = go (s.run h).turns refl
          where
            same : new ≡ onward (graph_of R h.pool) (s.run h).marked.seen hand
            same = links ∙ looked R n h.pool (pending_well h) (pool-room h) (s.run h).marked

            go : (k : ℕ) → (s.run h).turns ≡ k
                → (t : ℕ) × Lasting n t ((s.run h).marked.seen ++ new) (new ++ entries stack top)
                × (behind (s.run h).dropped (turn_by (length stack₀) n (graph_of R h.pool) (limited (length stack₀) n t (graph_of R h.pool)) (s.run h).marked.seen (entries stack top) new)
                ≡ run_from_cell R n (length stack₀) p words₀ h)
            go zero e = absurd (omega (arith, (s.run h).lasting, seen_most (pool-within (pending_well h)) (s.run h).marked.going))
            go (suc t) e = (
              t,
              rw same (turn_lasting (s.run h).marked.going n t (omega (arith, (s.run h).lasting))),
              rw same
                  (ap (λ (k : ℕ). behind (s.run h).dropped (limited (length stack₀) n k (graph_of R h.pool) (s.run h).marked.seen (hand ∷ entries stack top))) (sym e)
                  ∙ (s.run h).last),
            )

    -- a check comes with two newly marked cells, so that the checks are at most half as many as the cells
    pub checks_fit : (l r : ℕ) → l ∷ r ∷ [] ≡ onward_in R words hand → Pending R n words₀ (p ∷ []) → checks + 1 ≤ n
    unfolding next marked.turned
    checks_fit l r links h =
        let after = next h (l ∷ r ∷ []) links in
        omega (arith, (s.run h).few, length-append (s.run h).marked.seen (l ∷ r ∷ []), seen_most (pool-within (pending_well h)) after.going)

    -- one link is unmarked: it is marked and taken in hand
    pub hand_go : (x : ℕ) (w₁ : List ℕ) → x ∷ [] ≡ onward_in R words hand → w₁ ≡ mark_cell R words x → Hand R n p words₀ stack₀ w₁ stack x top checks
    unfolding mark_all next marked.turned
    hand_go x w₁ links e₁ =
        record {
          lent = s.lent;
          fits = s.fits;
          run = λ h.
              let (t, lasting, last) = stepped h (x ∷ []) links in
              rw e₁
              (record {
                marked = next h (x ∷ []) links;
                turns = t;
                lasting = lasting;
                dropped = (s.run h).dropped;
                each = (s.run h).each;
                counted = (s.run h).counted;
                few = omega (arith, (s.run h).few, length-append (s.run h).marked.seen (x ∷ []));
                last = last;
              });
        }

    pub less_go : Pending R n words₀ (p ∷ []) → (x : ℕ) (w₁ : List ℕ) → x ∷ [] ≡ onward_in R words hand → w₁ ≡ mark_cell R words x → turns_left R n w₁ top < turns_left R n words top
    unfolding mark_all
    less_go h x w₁ links e₁ = rw e₁ (omega (arith, more h (x ∷ []) links))

    -- none is unmarked: the next is popped
    pub hand_pop : [] ≡ onward_in R words hand → (top ≡ 0 → ⊥) → Hand R n p words₀ stack₀ words stack (get_or stack (top - 1) 0) (top - 1) checks
    unfolding mark_all next marked.turned
    hand_pop links some =
        record {
          lent = s.lent;
          fits = omega (arith, s.fits);
          run = λ h.
              let (t, lasting, last) = stepped h [] links in
              let seen = (s.run h).marked.seen in
              let after : Running R n (length stack₀) h.pool (run_from_cell R n (length stack₀) p words₀ h) words (entries stack top) checks =
              record {
                marked = next h [] links;
                turns = t;
                lasting = lasting;
                dropped = (s.run h).dropped;
                each = (s.run h).each;
                counted = (s.run h).counted;
                few = omega (arith, (s.run h).few, length-append seen []);
                last =
                    ap (λ (l : List ℕ). behind (s.run h).dropped (limited (length stack₀) n t (graph_of R h.pool) l (entries stack top))) (append-nil seen) ∙ last;
              } in
              rw (entries_pop stack top (omega (arith, some))) at after;
        }

    -- or the run ends
    pub hand_last : [] ≡ onward_in R words hand → top ≡ 0 → (h : Pending R n words₀ (p ∷ []))
        → ◌≡◌ {A = List ℕ × Bool × ℕ} (words, true, checks) (result_in R h.pool (run_from_cell R n (length stack₀) p words₀ h))
    unfolding entries elem
    hand_last links none h =
        let (t, lasting, last) = stepped h [] links in
        let seen = (s.run h).marked.seen in
        let dropped = (s.run h).dropped in
        let end : ◌≡◌ {A = List ℕ × List ℕ} (seen, dropped) (run_from_cell R n (length stack₀) p words₀ h) =
        ap (λ (l : List ℕ). (seen, l)) (sym (append-nil dropped))
        ∙ (ap (behind dropped) (sym (limited-none (length stack₀) n t (graph_of R h.pool) seen))
        ∙ (ap (λ (l : List ℕ). behind dropped (limited (length stack₀) n t (graph_of R h.pool) seen l)) (sym (ap (entries stack) none)) ∙ last)) in
        rw ((s.run h).marked.words, (s.run h).counted) (rw (s.run h).each at (ap (result_in R h.pool) end))

    module _ (l r : ℕ) (w₂ : List ℕ) (links : l ∷ r ∷ [] ≡ onward_in R words hand) (e₂ : w₂ ≡ mark_cell R (mark_cell R words l) r) where
      -- both are unmarked: both are marked
      both : w₂ ≡ mark_all R words (l ∷ r ∷ [])
      unfolding mark_all
      both = e₂

      -- with room, the right one is pushed and the left one taken in hand
      hand_push : top < length stack → Hand R n p words₀ stack₀ w₂ (set stack top r) l (top + 1) checks
      unfolding next marked.turned
      hand_push fits =
          record {
            lent = length-set stack top r ∙ s.lent;
            fits = omega (arith, s.lent);
            run = λ h.
                let (t, lasting, last) = stepped h (l ∷ r ∷ []) links in
                let room' = lt-ltb (length (entries stack top)) (length stack₀) (omega (arith, entries-length stack top, s.lent)) in
                rw (both, entries-push stack top r fits)
                (record {
                  marked = next h (l ∷ r ∷ []) links;
                  turns = t;
                  lasting = lasting;
                  dropped = (s.run h).dropped;
                  each = (s.run h).each;
                  counted = (s.run h).counted;
                  few = omega (arith, (s.run h).few, length-append (s.run h).marked.seen (l ∷ r ∷ []));
                  last = rw room' at last;
                });
          }

      less_push : Pending R n words₀ (p ∷ []) → turns_left R n w₂ (top + 1) < turns_left R n words top
      less_push h = rw both (omega (arith, more h (l ∷ r ∷ []) links))

      pub ready_push : Pending R n words₀ (p ∷ []) → (top ≡ length stack → ⊥) → {words' stack' : List ℕ} {top' checks' : ℕ}
          → words' ≡ w₂ → stack' ≡ stack → top' ≡ top → checks' ≡ checks → Ready R n p words₀ stack₀ words top l r words' stack' top' checks'
      ready_push h some ew es et ec =
          let fits : top < length stack = omega (arith, some, s.fits, s.lent) in
          rw (ew, es, et, ec) (record { room = fits; lent = s.lent; hand = hand_push fits; less = less_push h })

      -- full: what the check of the entries may rely on
      module _ (full : top ≡ length stack) where
        abbrev left_in : (h : Pending R n words₀ (p ∷ [])) → List ℕ × List ℕ
        left_in h = check n (graph_of R h.pool) ((s.run h).marked.seen ++ l ∷ r ∷ []) (entries stack (length stack))

        pub hand_checkable : Pending R n words₀ (p ∷ []) → Checkable R n w₂ stack
        unfolding next marked.turned
        hand_checkable h =
            let after = next h (l ∷ r ∷ []) links in (
              l ∷ r ∷ [],
              record {
                pool = h.pool;
                seen = after.seen;
                well = h.well;
                words = both ∙ after.words;
                going = subst (λ (k : ℕ). Going (graph_of R h.pool) (roots_of R h.pool) after.seen (l ∷ r ∷ entries stack k)) full after.going;
              },
            )

        -- the check was made
        module _ (w₃ stack' : List ℕ) (kept : ℕ)
            (made : (hc : Checkable R n w₂ stack) → ◌≡◌ {A = List ℕ × List ℕ} (w₃, entries stack' kept) (check_in R n w₂ stack hc)) where
          module _ (h : Pending R n words₀ (p ∷ [])) where
            left-words : w₃ ≡ mark_all R h.pool (left_in h).0
            unfolding hand_checkable next marked.turned
            left-words = ap (λ (x : List ℕ × List ℕ). x.0) (made (hand_checkable h))

            left-entries : entries stack' kept ≡ (left_in h).1
            unfolding hand_checkable next marked.turned
            left-entries = ap (λ (x : List ℕ × List ℕ). x.1) (made (hand_checkable h))

            facts : Left ((s.run h).marked.seen ++ l ∷ r ∷ []) (entries stack (length stack)) (left_in h)
            facts = check-left (graph_of R h.pool) n ((s.run h).marked.seen ++ l ∷ r ∷ []) (entries stack (length stack))

            kept-fewer : kept ≤ length stack
            kept-fewer = omega (arith, facts.fewer, entries-length stack (length stack), entries-length stack' kept, ap length left-entries)

            -- the turn of the definition, with the check
            checked_turn : (t : ℕ) × Lasting n t ((s.run h).marked.seen ++ l ∷ r ∷ []) (l ∷ r ∷ entries stack (length stack))
                × (behind (s.run h).dropped (check_and_push n (graph_of R h.pool) (limited (length stack₀) n t (graph_of R h.pool)) ((s.run h).marked.seen ++ l ∷ r ∷ []) (entries stack (length stack)) l r)
                ≡ run_from_cell R n (length stack₀) p words₀ h)
            checked_turn =
                let (t, lasting, last) = stepped h (l ∷ r ∷ []) links in
                let seen = (s.run h).marked.seen in
                let none = le-ltb (length (entries stack (length stack))) (length stack₀) (omega (arith, entries-length stack (length stack), s.lent)) in (
                  t,
                  subst (λ (k : ℕ). Lasting n t (seen ++ l ∷ r ∷ []) (l ∷ r ∷ entries stack k)) full lasting,
                  rw none at
                      (subst
                      (λ (k : ℕ).
                      behind (s.run h).dropped (push (length stack₀) n (graph_of R h.pool) (limited (length stack₀) n t (graph_of R h.pool)) seen (entries stack k) l r)
                      ≡ run_from_cell R n (length stack₀) p words₀ h) full last),
                )

            abbrev gone : ℕ
            gone = length (entries stack (length stack)) - length (left_in h).1

            -- what is pending after the check
            left-marked : Marked R h.pool w₃ (l ∷ r ∷ (left_in h).1)
            unfolding hand_checkable next marked.turned
            left-marked =
                record {
                  seen = (left_in h).0;
                  words = left-words;
                  going = check-going n ((s.run h).marked.seen ++ l ∷ r ∷ []) (l ∷ r ∷ []) (entries stack (length stack)) (hand_checkable h).1.going;
                }

            counts : length (left_in h).1 ≡ kept
            counts = sym (ap length left-entries) ∙ entries-length stack' kept

            -- all entries were needed: the stack is not enough
            pub hand_vain : kept ≡ top
                → ◌≡◌ {A = List ℕ × Bool × ℕ} (w₃, false, checks + 1) (result_in R h.pool (run_from_cell R n (length stack₀) p words₀ h))
            unfolding elem
            hand_vain all =
                let (t, lasting, last) = checked_turn in
                let none : gone ≡ 0 = omega (arith, full, counts, entries-length stack (length stack)) in
                let end : ◌≡◌ {A = List ℕ × List ℕ} (behind (s.run h).dropped ((left_in h).0, 0 ∷ [])) (run_from_cell R n (length stack₀) p words₀ h) = rw none at last in
                let enough = enough-behind (s.run h).dropped ((left_in h).0, 0 ∷ []) (s.run h).each in
                rw (left-words, (s.run h).counted)
                (ap₂ (λ (t : Bool) (k : ℕ). (mark_all R h.pool (left_in h).0, t, k)) (sym enough) (sym (length-append (s.run h).dropped (0 ∷ [])))
                ∙ ap (result_in R h.pool) end)

            -- the cells that it marked, and the entries that it dropped, leave fewer turns
            less_checked : (kept ≡ top → ⊥) → turns_left R n w₃ (kept + 1) < turns_left R n words top
            unfolding left-marked
            less_checked some =
                omega (
                  arith,
                  full,
                  kept-fewer,
                  some,
                  facts.more,
                  length-append (s.run h).marked.seen (l ∷ r ∷ []),
                  marked-count R n h.pool (pending_well h) (pool-room h) (s.run h).marked,
                  marked-count R n h.pool (pending_well h) (pool-room h) left-marked,
                  marked-le n (state_marks R n w₃),
                )

          -- an entry went: the right link is pushed
          hand_checked : length stack' ≡ length stack → kept < length stack → Hand R n p words₀ stack₀ w₃ (set stack' kept r) l (kept + 1) (checks + 1)
          unfolding left-marked
          hand_checked lent some =
              record {
                lent = length-set stack' kept r ∙ (lent ∙ s.lent);
                fits = omega (arith, s.lent);
                run = λ h.
                    let (t, lasting, last) = checked_turn h in
                    let dropped = gone h in
                    let went : 0 < dropped = omega (arith, counts h, entries-length stack (length stack)) in
                    rw (entries-push stack' kept r (omega arith), left-entries h)
                    (record {
                      marked = left-marked h;
                      turns = t;
                      lasting = omega (arith, lasting, (facts h).fewer, (facts h).more);
                      dropped = (s.run h).dropped ++ dropped ∷ [];
                      each = elem-append 0 (s.run h).dropped (dropped ∷ []) ∙ rw (s.run h).each (dropped-some dropped went);
                      counted = rw (length-append (s.run h).dropped (dropped ∷ [])) (ap (λ (k : ℕ). k + 1) (s.run h).counted);
                      few = omega (arith, (s.run h).few, (facts h).more, length-append (s.run h).marked.seen (l ∷ r ∷ []));
                      last =
                          ap (λ (x : List ℕ). ((limited (length stack₀) n t (graph_of R h.pool) (left_in h).0 (l ∷ r ∷ (left_in h).1)).0, x))
                          (append_assoc (s.run h).dropped (dropped ∷ []) (limited (length stack₀) n t (graph_of R h.pool) (left_in h).0 (l ∷ r ∷ (left_in h).1)).1)
                          ∙ (rw (lt-ltb 0 dropped went) at last);
                    });
              }

          pub ready_checked : Pending R n words₀ (p ∷ []) → length stack' ≡ length stack → (kept ≡ top → ⊥) → {words' stack'' : List ℕ} {top' checks' : ℕ}
              → words' ≡ w₃ → stack'' ≡ stack' → top' ≡ kept → checks' ≡ checks + 1 → Ready R n p words₀ stack₀ words top l r words' stack'' top' checks'
          ready_checked h lent some ew es et ec =
              let fits : kept < length stack = omega (arith, some, full, kept-fewer h) in
              rw (ew, es, et, ec)
              (record { room = omega arith; lent = lent ∙ s.lent; hand = hand_checked lent fits; less = less_checked h some })
