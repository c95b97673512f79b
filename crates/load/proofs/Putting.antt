-- The laws of putting registers and cells: what stands where afterwards, and what stays.
use Prim.Native.Nat.{ℕ, zero, suc, ◌+◌, ◌<◌, ◌≤◌}
use native.Mathlib.Omega.{arith}
use mathlib.Core.Path.{◌≡◌, refl, ◌∙◌}
use mathlib.Core.List.{List, [], ◌∷◌}
use lib.ListN.{length, get_or}
use lib.Seq.{get_or-set_other}
use Rattle.pool.specs.Layout.{first_register, pool_length, register, set_register, cell}
use Rattle.pool.proofs.Laws.{length-set_register, register-same, register_other}
use Rattle.pool.proofs.Node.{written, length-put_cell, cell-put_cell, cell-put_cell_other}
use Rattle.pool.proofs.Retained.{Elsewhere, put_cell_elsewhere}
use Rattle.image.specs.declared.ImageCell.{ImageCell}
use Rattle.pool.specs.declared.Kind.TheVariants as kind
use Rattle.load.specs.Load.{state_of_kind, put_fields, put_each}

-- The fields of an image's cell, as those of a pool's cell; and a cell that stands past the end of a list.
abbrev pub image_field : ImageCell → ℕ → ℕ
image_field c f = written (state_of_kind c.kind) c.left c.right c.value f

abbrev pub no_cell : ImageCell
no_cell = record { kind = kind.Pair; left = 0; right = 0; value = 0 }

-- One cell.
module _ (R : ℕ) (w : List ℕ) (i : ℕ) (c : ImageCell) where
  put_length : 0 < i → length (put_fields R w i c) ≡ length w
  put_length low = length-put_cell R w i low (state_of_kind c.kind) c.left c.right c.value

  put_same : (f : ℕ) → 0 < i → f < 4 → pool_length R i ≤ length w → cell R (put_fields R w i c) i f ≡ image_field c f
  put_same f low hf room = cell-put_cell R w i low (state_of_kind c.kind) c.left c.right c.value f hf room

  put_other : (j f : ℕ) → 0 < i → 0 < j → f < 4 → (j ≡ i → ⊥) → cell R (put_fields R w i c) j f ≡ cell R w j f
  put_other j f low hj hf apart = cell-put_cell_other R w i low (state_of_kind c.kind) c.left c.right c.value j f hj hf apart

  put_elsewhere : (n k : ℕ) → 0 < i → i ≤ n → Elsewhere R n k → get_or (put_fields R w i c) k 0 ≡ get_or w k 0
  put_elsewhere n k low high away = put_cell_elsewhere R n w i (state_of_kind c.kind) c.left c.right c.value k low high away

-- The cells from i on.
module _ (R : ℕ) where
  pub cells-length : (i : ℕ) (cs : List ImageCell) (w : List ℕ) → 0 < i → length (put_each (put_fields R) i cs w) ≡ length w
  unfolding put_each
  cells-length i [] w low = refl
  cells-length i (c ∷ cs) w low = cells-length (suc i) cs (put_fields R w i c) (omega arith) ∙ put_length R w i c low

  cells-below : (i : ℕ) (cs : List ImageCell) (w : List ℕ) (j f : ℕ) → 0 < j → j < i → f < 4
      → cell R (put_each (put_fields R) i cs w) j f ≡ cell R w j f
  unfolding put_each
  cells-below i [] w j f low less hf = refl
  cells-below i (c ∷ cs) w j f low less hf =
      cells-below (suc i) cs (put_fields R w i c) j f low (omega arith) hf ∙ put_other R w i c j f (omega arith) low hf (λ e. omega arith)

  pub cells_at : (i : ℕ) (cs : List ImageCell) (w : List ℕ) (p f : ℕ) → 0 < i → p < length cs → f < 4 → pool_length R (i + p) ≤ length w
      → cell R (put_each (put_fields R) i cs w) (i + p) f ≡ image_field (get_or cs p no_cell) f
  unfolding put_each
  cells_at i [] w p f low below hf room = absurd (omega arith)
  cells_at i (c ∷ cs) w zero f low below hf room =
      let here : i + 0 ≡ i = omega arith in
      rw here
      (cells-below (suc i) cs (put_fields R w i c) i f low (omega arith) hf ∙ put_same R w i c f low hf (omega arith))
  cells_at i (c ∷ cs) w (suc p) f low below hf room =
      let next : i + suc p ≡ suc i + p = omega arith in
      rw next (cells_at (suc i) cs (put_fields R w i c) p f (omega arith) (omega arith) hf (omega (arith, put_length R w i c low)))

  pub cells_elsewhere : (i : ℕ) (cs : List ImageCell) (w : List ℕ) (n k : ℕ) → 0 < i → i + length cs ≤ n + 1 → Elsewhere R n k
      → get_or (put_each (put_fields R) i cs w) k 0 ≡ get_or w k 0
  unfolding put_each
  cells_elsewhere i [] w n k low high away = refl
  cells_elsewhere i (c ∷ cs) w n k low high away =
      cells_elsewhere (suc i) cs (put_fields R w i c) n k (omega arith) (omega arith) away ∙ put_elsewhere R w i c n k low (omega arith) away

-- The registers from k on.
pub registers-length : (k : ℕ) (xs w : List ℕ) → length (put_each set_register k xs w) ≡ length w
unfolding put_each
registers-length k [] w = refl
registers-length k (x ∷ xs) w = registers-length (suc k) xs (set_register w k x) ∙ length-set_register 0 w k x

registers-below : (k : ℕ) (xs w : List ℕ) (j : ℕ) → j < k → register (put_each set_register k xs w) j ≡ register w j
unfolding put_each
registers-below k [] w j less = refl
registers-below k (x ∷ xs) w j less =
    registers-below (suc k) xs (set_register w k x) j (omega arith) ∙ register_other 0 w k x j (λ e. omega arith)

pub registers_at : (k : ℕ) (xs w : List ℕ) (p : ℕ) → p < length xs → first_register + (k + p) < length w
    → register (put_each set_register k xs w) (k + p) ≡ get_or xs p 0
unfolding put_each
registers_at k [] w p below room = absurd (omega arith)
registers_at k (x ∷ xs) w zero below room =
    let here : k + 0 ≡ k = omega arith in
    rw here (registers-below (suc k) xs (set_register w k x) k (omega arith) ∙ register-same 0 w k x (omega arith))
registers_at k (x ∷ xs) w (suc p) below room =
    let next : k + suc p ≡ suc k + p = omega arith in
    rw next (registers_at (suc k) xs (set_register w k x) p (omega arith) (omega (arith, length-set_register 0 w k x)))

pub registers_elsewhere : (k : ℕ) (xs w : List ℕ) (q : ℕ) → ((j : ℕ) → j < k + length xs → q ≡ first_register + j → ⊥)
    → get_or (put_each set_register k xs w) q 0 ≡ get_or w q 0
unfolding put_each set_register
registers_elsewhere k [] w q away = refl
registers_elsewhere k (x ∷ xs) w q away =
    registers_elsewhere (suc k) xs (set_register w k x) q (λ j below. away j (omega arith))
    ∙ get_or-set_other w (first_register + k) q x 0 (away k (omega arith))
