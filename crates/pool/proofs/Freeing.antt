-- The cells above the first k of n are freed, from cell n down: the turns of the loop, and what they make of the words.
use Prim.Native.Nat.{ℕ, zero, suc, ◌+◌, ◌-◌, ◌<◌, ◌≤◌}
use native.Mathlib.Numerals.{add-one}
use native.Mathlib.Omega.{arith}
use native.Mathlib.Decide.{dec_le}
use mathlib.Core.Path.{◌≡◌, refl, sym, ap, ◌∙◌}
use mathlib.Core.List.{List}
use mathlib.Core.Bool.{Bool, true, false}
use lib.ListN.{length}
use lib.Dec.{leb}
use borrow.Author.Tests.{le-leb, lt-leb}
use Rattle.pool.specs.Layout.{pool_length, cell, put_cell, set_head}
use Rattle.pool.specs.States.{free_state}
use Rattle.pool.specs.Retain.{lowest_free, free_above, kept_field, retained_field, retain}
use Rattle.pool.proofs.States.{used-same}
use Rattle.pool.proofs.Retained.{Swept, free-kept, free_here, swept_none, swept-free, swept_all}
use Rattle.pool.specs.Steps.{FirstUsed}

-- The lowest free cell is above the cells that are kept.
lowest_above : (keep : ℕ → Bool) (n i : ℕ) → i ≤ n → ((j : ℕ) → 0 < j → j ≤ i → keep j ≡ true) → free_above keep n 0 ≡ free_above keep n i
lowest_above keep n zero few kept = refl
lowest_above keep n (suc i) few kept =
    lowest_above keep n i (omega arith) (λ j low high. kept j low (omega arith)) ∙ free-kept keep n i (omega arith) (kept (suc i) (omega arith) (omega arith))

module _ (R k n : ℕ) (w₀ : List ℕ) where
  abbrev first : ℕ → Bool
  first j = leb j k

  -- The cells above i are freed, and next is the lowest of them.
  pub record Freeing (w : List ℕ) (i next : ℕ) : Type 0 where
    pub some : k ≤ i
    pub few : i ≤ n
    pub swept : Swept R n first w₀ w i
    pub chain : next ≡ free_above first n i

  module _ (few : k ≤ n) (room : pool_length R n ≤ length w₀) where
    pub freeing_first : Freeing w₀ n 0
    unfolding lowest_free
    freeing_first =
        let none : n - n ≡ 0 = omega arith in
        record { some = few; few = omega arith; swept = swept_none R n first w₀; chain = rw none refl }

    module _ (w : List ℕ) (i next : ℕ) (f : Freeing w i next) where
      pub freeing_turn : (w' : List ℕ) → k < i → w' ≡ put_cell R w (i - 1 + 1) free_state next 0 0 → Freeing w' (i - 1) (i - 1 + 1)
      freeing_turn w' above write =
          let high = f.few in
          let this : suc (i - 1) ≡ i = omega arith in
          let here : first (suc (i - 1)) ≡ false = ap first this ∙ lt-leb i k above in
          record {
            some = omega arith;
            few = omega arith;
            swept = rw (write ∙ ap (λ (j : ℕ). put_cell R w j free_state next 0 0) (add-one (i - 1)))
                (swept-free R n first w₀ w (i - 1) (omega arith) room (rw this f.swept) next here
                (f.chain ∙ ap (free_above first n) (sym this)));
            chain = add-one (i - 1) ∙ sym (free_here first n (i - 1) (omega arith) here);
          }

      pub freeing_last : (w' : List ℕ) → i ≤ k → FirstUsed R k w₀ → w' ≡ set_head w next → w' ≡ retain R n first w₀
      freeing_last w' last used write =
          let here : i ≡ k = omega (arith, f.some) in
          write
          ∙ (ap (set_head w)
          (f.chain ∙ sym (lowest_above first n i f.few (λ j low high. le-leb j k (omega arith))))
          ∙ swept_all R n first w₀ w room
          (record {
            len = f.swept.len;
            elsewhere = f.swept.elsewhere;
            below = λ j g low high hg. absurd (omega arith);
            above = λ j g low high hg. at j g low high hg (dec_le j k);
          }))
        where
          kept : (j g : ℕ) → 0 < j → j ≤ k → cell R w₀ j g ≡ kept_field R w₀ j g
          kept j zero low high = used-same _ (used j low high)
          kept j (suc g) low high = refl

          at : (j g : ℕ) → 0 < j → j ≤ n → g < 4 → Dec (j ≤ k) → cell R w j g ≡ retained_field R n first w₀ j g
          at j g low high hg (yes inside) =
              rw (le-leb j k inside) (f.swept.below j g low (omega (arith, f.some)) hg ∙ kept j g low inside)
          at j g low high hg (no outside) = f.swept.above j g (omega arith) high hg
