-- The words after a cell was taken from the free list, field by field, and that they are a pool as before.
use Prim.Native.Nat.{ℕ, ◌<◌, ◌≤◌}
use native.Mathlib.Omega.{arith}
use native.Mathlib.Decide.{ℕ_discrete}
use mathlib.Core.Path.{◌≡◌, refl, subst, ◌∙◌, ap}
use mathlib.Core.Logic.{⊎_elim}
use mathlib.Core.List.Memᴰ
use mathlib.Core.List.{List, Memᴰ}
use mathlib.Core.Bool.{Bool, true, false}
use lib.ListN.{length}
use Rattle.pool.specs.Layout.{register_count, count, head, register, cell, state, left, is_point_at, link_of}
use Rattle.pool.specs.States.{is_point, is_used, is_free}
use Rattle.pool.proofs.Laws.{length-set_cell, length-set_head, length-set_register, cell-set_head, cell-set_register, register-same, register_other, register-set_head, register-set_cell, head-same, head-set_register, count-set_cell, count-set_head, count-set_register}
use Rattle.pool.proofs.Links.{link-pair, link-point, link-same}
use Rattle.questions.proofs.WellFormed.{Link, Cell, WellFormed}
use Rattle.pool.proofs.Node.{written, length-put_cell, cell-put_cell, cell-put_cell_other}
use Rattle.allocator.specs.Allocation.{take}
use Rattle.invariant.proofs.FreeList.{free_or_used, Chain, Free, First, chain-free, chain_same}
use Rattle.invariant.proofs.Standing.{link-kept}
use Rattle.invariant.proofs.Invariant.{Invariant, inv_first}

-- The head cell is taken with the state c of a used cell, the words x and y and the value v, and register r gets it.
module _ {N : ℕ} {w : List ℕ} (inv : Invariant N w) (r c x y v : ℕ) (used : is_used c ≡ true) (low : r < register_count) (some : 0 < head w) where
  abbrev h : ℕ
  h = head w

  abbrev after : List ℕ
  after = take w r c x y v

  first : First N w h inv.free.list
  first = inv_first inv some

  pub taken-length : length after ≡ length w
  taken-length = simp (length-set_register, length-set_head, length-set_cell)

  taken-count : count after ≡ count w
  taken-count = simp (count-set_register register_count, count-set_head register_count, count-set_cell register_count)

  taken-head : head after ≡ left register_count w h
  taken-head =
      head-set_register register_count _ r h ∙ head-same register_count _ _ (rw (length-put_cell register_count w h some c x y v) (omega (arith, inv.pool.sized.room)))

  pub taken-cell : (f : ℕ) → f < 4 → cell register_count after h f ≡ written c x y v f
  taken-cell f hf =
      cell-set_register register_count _ r h h f low
      ∙ (cell-set_head register_count _ _ h f ∙ cell-put_cell register_count w h some c x y v f hf (omega (arith, inv.pool.sized.room, first.high)))

  pub taken_other : (j f : ℕ) → 0 < j → f < 4 → (j ≡ h → ⊥) → cell register_count after j f ≡ cell register_count w j f
  taken_other j f hj hf other =
      cell-set_register register_count _ r h j f low ∙ (cell-set_head register_count _ _ j f ∙ cell-put_cell_other register_count w h some c x y v j f hj hf other)

  pub taken-register : register after r ≡ h
  taken-register = register-same register_count _ r h (simp (length-set_head, length-set_cell) (omega (arith, inv.pool.sized.room, inv.pool.sized.least)))

  pub taken-register_other : (k : ℕ) → k < register_count → (k ≡ r → ⊥) → register after k ≡ register w k
  taken-register_other k below other =
      register_other register_count _ r h k other ∙ simp (register-set_head register_count, register-set_cell)

  used-kept : (i : ℕ) → 0 < i → is_used (state register_count w i) ≡ true → is_used (state register_count after i) ≡ true
  used-kept i hi s = go (ℕ_discrete i h)
    where
      go : Dec (i ≡ h) → is_used (state register_count after i) ≡ true
      go (yes same) = rw (same, taken-cell 0 (omega arith)) used
      go (no other) = rw (taken_other i 0 hi (omega arith) other) s

  -- the kinds of the other cells are as before, and so are their links
  pub taken-kind : (j : ℕ) → 0 < j → (j ≡ h → ⊥) → is_point_at register_count after j ≡ is_point_at register_count w j
  taken-kind j hj other = ap is_point (taken_other j 0 hj (omega arith) other)

  taken-link : (j f : ℕ) → 0 < j → f < 4 → (j ≡ h → ⊥) → link_of register_count after j f ≡ link_of register_count w j f
  taken-link j f hj hf other = link-same register_count after w j j f (taken-kind j hj other) (taken_other j f hj hf other)

  -- What the words x and y have to be, where the cell is a pair.
  abbrev Fits : Type 0
  Fits = is_point c ≡ false → Link register_count N w x × Link register_count N w y

  taken-well : Fits → WellFormed register_count N after
  taken-well fits =
      record {
        registers = λ k below. registers k below (ℕ_discrete k r);
        cells = λ i hi top. cells i hi (inv.pool.well.cells i hi top) (ℕ_discrete i h);
      }
    where
      along : {z : ℕ} → Link register_count N w z → Link register_count N after z
      along = link-kept after used-kept

      registers : (k : ℕ) → k < register_count → Dec (k ≡ r) → Link register_count N after (register after k)
      registers k below (yes same) = rw (same, taken-register) (Link.used some first.high (ap is_used (taken-cell 0 (omega arith)) ∙ used))
      registers k below (no other) = rw (taken-register_other k below other) (along (inv.pool.well.registers k below))

      kind : is_point_at register_count after h ≡ is_point c
      kind = ap is_point (taken-cell 0 (omega arith))

      new : (f : ℕ) → f < 4 → (is_point c ≡ false → Link register_count N w (written c x y v f)) → Link register_count N after (link_of register_count after h f)
      new f hf valid = go (is_point c) refl
        where
          go : (t : Bool) → is_point c ≡ t → Link register_count N after (link_of register_count after h f)
          go true e = Link.nil (link-point register_count after h f (kind ∙ e))
          go false e = rw (link-pair register_count after h f (kind ∙ e), taken-cell f hf) (along (valid e))

      cells : (i : ℕ) → 0 < i → Cell register_count N w i → Dec (i ≡ h) → Cell register_count N after i
      cells i hi old (yes same) =
          rw same (Cell.used (ap is_used (taken-cell 0 (omega arith)) ∙ used) (new 1 (omega arith) (λ pair. (fits pair).0)) (new 2 (omega arith) (λ pair. (fits pair).1)))
      cells i hi (Cell.free s) (no other) = Cell.free (ap is_free (taken_other i 0 hi (omega arith) other) ∙ s)
      cells i hi (Cell.used s l m) (no other) =
          Cell.used (ap is_used (taken_other i 0 hi (omega arith) other) ∙ s) (rw (taken-link i 1 hi (omega arith) other) (along l)) (rw (taken-link i 2 hi (omega arith) other) (along m))

  taken_free : Free N after
  taken_free =
      let chained : Chain N after (left register_count w h) first.rest =
      chain_same after first.chain (λ z m.
      let cells = chain-free first.chain z m in
      let other : z ≡ h → ⊥ = λ e. first.new (subst (λ (q : ℕ). Memᴰ q first.rest) e m) in
      (taken_other z 0 cells.0 (omega arith) other, taken_other z 1 cells.0 (omega arith) other)) in
      record {
        list = first.rest;
        chain = rw taken-head chained;
        once = first.once;
        all = λ i hi top s. all i hi top s (ℕ_discrete i h);
      }
    where
      all : (i : ℕ) → 0 < i → i ≤ N → is_free (state register_count after i) ≡ true → Dec (i ≡ h) → Memᴰ i first.rest
      all i hi top s (yes same) = absurd (free_or_used after h (rw same at s) (rw (taken-cell 0 (omega arith)) used))
      all i hi top s (no other) =
          ⊎_elim (λ e. absurd (other e)) (λ m. m)
          (Memᴰ.cases_cons (rw first.split at (inv.free.all i hi top (rw (taken_other i 0 hi (omega arith) other) at s))))

  pub taken_inv : Fits → Invariant N after
  taken_inv fits =
      record {
        pool = record { sized = rw taken-length inv.pool.sized; counted = taken-count ∙ inv.pool.counted; well = taken-well fits };
        free = taken_free;
      }
