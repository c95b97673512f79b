-- From the numbers to the order: what is reached is a used cell, and each number names one.
use Prim.Native.Nat.{ℕ, suc, ◌+◌, ◌-◌, ◌<◌, ◌≤◌}
use native.Mathlib.Omega.{arith}
use mathlib.Core.Path.{◌≡◌, sym, ap, subst, ◌∙◌}
use mathlib.Core.List.{List, Memᴰ}
use lib.ListN.{length, get_or, replicate}
use Rattle.graph.proofs.Lists.{get_or-member}
use Rattle.graph.proofs.Theorems.{preorder-reached, preorder-distinct, preorder-length}
use Rattle.pool.specs.Layout.{graph_of, roots_of}
use Rattle.questions.proofs.WellFormed.{WellFormed, well_formed_read}
use Rattle.questions.proofs.PoolGraph.{Used, reached-used, pool-within}
use Rattle.reversal.specs.Reached.{reached_cells, reached_count}
use Rattle.image.specs.Image.{number_in}
use Rattle.numbering.specs.Steps.{Savable, Clear, Numbered, NumbersWithin, Listed, Ordered}
use Rattle.numbering.proofs.Numbering.{number_placed, number-most, number_at}

module _ (R n : ℕ) (w s : List ℕ) (savable : Savable R n w (length s)) where
  pub well : WellFormed R n w
  well = well_formed_read R n w savable.is_well_formed

  -- What is reached is a used cell, so nil is not.
  pub order-used : (x : ℕ) → Memᴰ x (reached_cells R n w) → Used R n w x
  order-used x m = reached-used well ((preorder-reached n (graph_of R w) (roots_of R w) (pool-within well) x).0 m)

  pub few-kept : reached_count R n w ≤ n
  few-kept = preorder-length n (graph_of R w) (roots_of R w) (pool-within well)

pub savable_length : {R n : ℕ} {w : List ℕ} {a b : ℕ} → a ≡ b → Savable R n w b → Savable R n w a
savable_length {R} {n} {w} e = subst (Savable R n w) (sym e)

pub cleared : (s t : List ℕ) → t ≡ replicate (length s) 0 → length t ≡ length s → Clear t
cleared s t e long = e ∙ ap (λ (k : ℕ). replicate k 0) (sym long)

module _ (R n : ℕ) (w s : List ℕ) (savable : Savable R n w (length s)) (numbered : Numbered R n w s) where
  number_of : (y : ℕ) → y < n → get_or s y 0 ≡ number_in (reached_cells R n w) (y + 1)
  number_of y below = let this : y + 1 - 1 ≡ y = omega arith in rw this at (numbered (y + 1) (omega arith) (omega arith))

  pub numbers-within : NumbersWithin n s
  numbers-within y below =
      omega (arith, number_of y below, number-most (reached_cells R n w) (y + 1), few-kept R n w s savable)

  pub listed_ordered : (t : List ℕ) → Listed n s t → Ordered R n w t
  listed_ordered t l =
      record {
        numbers = λ x low high. l.numbers (x - 1) (omega arith) ∙ numbered x low high;
        cells = λ p below. at p below (order-used R n w s savable _ (get_or-member (reached_cells R n w) p below)).positive
            (order-used R n w s savable _ (get_or-member (reached_cells R n w) p below)).bounded;
      }
    where
      at : (p : ℕ) → p < reached_count R n w → 0 < get_or (reached_cells R n w) p 0 → get_or (reached_cells R n w) p 0 ≤ n
          → get_or t (n + p) 0 ≡ get_or (reached_cells R n w) p 0
      at p below low high =
          let x = get_or (reached_cells R n w) p 0 in
          let within = pool-within (well_formed_read R n w savable.is_well_formed) in
          let number : get_or s (x - 1) 0 ≡ suc p =
          numbered x low high ∙ number_at (preorder-distinct n (graph_of R w) (roots_of R w) within) p below in
          let place : n + (get_or s (x - 1) 0 - 1) ≡ n + p = omega arith in
          let only : (y : ℕ) → y < n → get_or s y 0 ≡ get_or s (x - 1) 0 → y ≡ x - 1 = λ y less same.
          let is : number_in (reached_cells R n w) (y + 1) ≡ suc p = sym (number_of y less) ∙ (same ∙ number) in
          let back : number_in (reached_cells R n w) (y + 1) - 1 ≡ p = omega arith in
          let named : x ≡ y + 1 = rw back at (number_placed (reached_cells R n w) (y + 1) (omega arith)).named in
          omega arith in
          rw place at (l.cells (x - 1) (omega arith) (omega arith) only) ∙ omega arith
