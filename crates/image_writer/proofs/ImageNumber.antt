-- What an image holds for a register and for a cell, read from the pool and the scratch.
use Prim.Native.Nat.{ℕ, zero, suc, ◌+◌, ◌<◌, ◌≤◌}
use native.Mathlib.Omega.{arith}
use mathlib.Core.Path.{◌≡◌, refl, sym, ap, ◌∙◌}
use mathlib.Core.Bool.{Bool, true, false}
use mathlib.Core.List.{List}
use lib.ListN.{length, get_or}
use borrow.Author.Tests.{eq-eqb, ne_eqb}
use Rattle.graph.proofs.Lists.{get_or-member}
use Rattle.pool.specs.Layout.{register, cell, is_point_at, roots_of}
use Rattle.pool.proofs.Links.{link-pair}
use Rattle.pool.proofs.Every.{get_or-tabulate}
use Rattle.questions.proofs.WellFormed.{Link}
use Rattle.questions.proofs.PoolGraph.{Used, link_bound, used-links}
use Rattle.reversal.specs.Reached.{reached_cells, reached_count}
use Rattle.image.specs.declared.ImageCell.{ImageCell}
use Rattle.pool.specs.declared.Kind.{Kind}
use Rattle.image.specs.Kinds.{kind_of}
use Rattle.image.specs.Image.{number_in, saved_word, saved_cell}
use Rattle.numbering.specs.Steps.{Savable, Ordered}
use Rattle.numbering.proofs.Numbering.{place_none}
use Rattle.numbering.proofs.Ordering.{well, order-used}
use Rattle.image_writer.specs.Steps.{number_at, word_at}

module _ (R n : ℕ) (w s : List ℕ) (savable : Savable R n w (length s)) where
  pub register_bound : (j : ℕ) → j < R → register w j ≤ n
  register_bound j low = link_bound ((well R n w s savable).registers j low)

  module _ (ordered : Ordered R n w s) where
    link_numbered : (x : ℕ) → Link R n w x → number_at s x ≡ number_in (reached_cells R n w) x
    link_numbered x (Link.nil e) =
        simp (eq-eqb x 0 e) (sym (place_none 1 (reached_cells R n w) x (λ m. omega (arith, (order-used R n w s savable x m).positive))))
    link_numbered x (Link.used low high used) = simp (ne_eqb x 0 (λ e. omega arith)) (ordered.numbers x low high)

    pub register-saved : (j v : ℕ) → j < R → v ≡ number_at s (register w j) → v ≡ number_in (reached_cells R n w) (get_or (roots_of R w) j 0)
    register-saved j v low e =
        e
        ∙ (link_numbered (register w j) ((well R n w s savable).registers j low)
        ∙ ap (number_in (reached_cells R n w)) (sym (get_or-tabulate R (λ k. register w k) j 0 low)))

    module _ (p : ℕ) (below : p < reached_count R n w) where
      -- The p-th cell of the order.
      abbrev cell_here : ℕ
      cell_here = get_or s (n + p) 0

      cell-order : cell_here ≡ get_or (reached_cells R n w) p 0
      cell-order = ordered.cells p below

      pub cell-used : Used R n w cell_here
      cell-used = rw cell-order (order-used R n w s savable _ (get_or-member (reached_cells R n w) p below))

      -- the links of a pair
      link_here : is_point_at R w cell_here ≡ false → (f : ℕ) → f < 2 → Link R n w (cell R w cell_here (suc f))
      link_here pair zero hf = rw (link-pair R w cell_here 1 pair) at (used-links (well R n w s savable) cell-used).0
      link_here pair (suc zero) hf = rw (link-pair R w cell_here 2 pair) at (used-links (well R n w s savable) cell-used).1
      link_here pair (suc (suc f)) hf = absurd (omega arith)

      pub word_bound : {point : Bool} → point ≡ is_point_at R w cell_here → (f : ℕ) → f < 2 → point ≡ false → cell R w cell_here (suc f) ≤ n
      word_bound is f hf pair = link_bound (link_here (sym is ∙ pair) f hf)

      word-saved : (f : ℕ) → f < 2 → word_at (is_point_at R w cell_here) s (cell R w cell_here (suc f)) ≡ saved_word (is_point_at R w cell_here) (reached_cells R n w) (cell R w cell_here (suc f))
      word-saved f hf = go (is_point_at R w cell_here) refl
        where
          go : (t : Bool) → is_point_at R w cell_here ≡ t → word_at t s (cell R w cell_here (suc f)) ≡ saved_word t (reached_cells R n w) (cell R w cell_here (suc f))
          go true is = refl
          go false is = link_numbered _ (link_here is f hf)

      pub cell-saved : (point : Bool) (k : Kind) (l r v : ℕ) → point ≡ is_point_at R w cell_here → k ≡ kind_of point → l ≡ word_at point s (cell R w cell_here 1)
          → r ≡ word_at point s (cell R w cell_here 2) → v ≡ cell R w cell_here 3
          → ◌≡◌ {A = ImageCell} (record { kind = k; left = l; right = r; value = v }) (saved_cell R w (reached_cells R n w) (get_or (reached_cells R n w) p 0))
      cell-saved point k l r v is ek el er ev =
          let kind-number : k ≡ kind_of (is_point_at R w cell_here) = ek ∙ ap kind_of is in
          let left-number : l ≡ saved_word (is_point_at R w cell_here) (reached_cells R n w) (cell R w cell_here 1) =
          el ∙ (ap (λ (t : Bool). word_at t s (cell R w cell_here 1)) is ∙ word-saved 0 (omega arith)) in
          let right-number : r ≡ saved_word (is_point_at R w cell_here) (reached_cells R n w) (cell R w cell_here 2) =
          er ∙ (ap (λ (t : Bool). word_at t s (cell R w cell_here 2)) is ∙ word-saved 1 (omega arith)) in
          rw (kind-number, left-number, right-number, ev) (ap (saved_cell R w (reached_cells R n w)) cell-order)
