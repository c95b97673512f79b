-- The laws of reading and writing the words of a pool, over the register count R. Two fields of cells are at different places where
-- 4 × i + f differs.
use Prim.Native.Nat.{ℕ, ◌+◌, ◌*◌, ◌<◌, ◌≤◌}
use native.Mathlib.Omega.{arith}
use mathlib.Core.Path.{◌≡◌}
use mathlib.Core.List.{List}
use lib.ListN.{length, length-set}
use lib.Seq.{get_or-set_same, get_or-set_other, set-set, set_comm, set-get_or}
use Rattle.pool.specs.Layout.{first_register, pool_length, cell_at, count, head, set_head, register, set_register, cell, set_cell}

module _ (R : ℕ) (w : List ℕ) where
  pub length-set_cell : (i f v : ℕ) → length (set_cell R w i f v) ≡ length w
  unfolding set_cell
  length-set_cell i f v = length-set w (cell_at R i f) v

  pub length-set_register : (k v : ℕ) → length (set_register w k v) ≡ length w
  unfolding set_register
  length-set_register k v = length-set w (first_register + k) v

  pub length-set_head : (v : ℕ) → length (set_head w v) ≡ length w
  unfolding set_head
  length-set_head v = length-set w 1 v

  -- a field after a write
  pub cell_same : (i f v : ℕ) → 0 < i → f < 4 → pool_length R i ≤ length w → cell R (set_cell R w i f v) i f ≡ v
  unfolding cell set_cell
  cell_same i f v hi hf fits = get_or-set_same w (cell_at R i f) v 0 (omega arith)

  pub cell_other : (i f v j g : ℕ) → 0 < i → f < 4 → 0 < j → g < 4 → (4 * i + f ≡ 4 * j + g → ⊥)
      → cell R (set_cell R w i f v) j g ≡ cell R w j g
  unfolding cell set_cell
  cell_other i f v j g hi hf hj hg apart = get_or-set_other w (cell_at R i f) (cell_at R j g) v 0 λ e. apart (omega arith)

  pub cell-set_register : (k v i f : ℕ) → k < R → cell R (set_register w k v) i f ≡ cell R w i f
  unfolding cell set_register
  cell-set_register k v i f hk = get_or-set_other w (first_register + k) (cell_at R i f) v 0 λ e. omega arith

  pub cell-set_head : (v i f : ℕ) → cell R (set_head w v) i f ≡ cell R w i f
  unfolding cell set_head
  cell-set_head v i f = get_or-set_other w 1 (cell_at R i f) v 0 λ e. omega arith

  -- a register after a write
  pub register-same : (k v : ℕ) → first_register + k < length w → register (set_register w k v) k ≡ v
  unfolding register set_register
  register-same k v fits = get_or-set_same w (first_register + k) v 0 fits

  pub register_other : (k v j : ℕ) → (j ≡ k → ⊥) → register (set_register w k v) j ≡ register w j
  unfolding register set_register
  register_other k v j apart = get_or-set_other w (first_register + k) (first_register + j) v 0 λ e. apart (omega arith)

  pub register-set_cell : (i f v k : ℕ) → k < R → register (set_cell R w i f v) k ≡ register w k
  unfolding register set_cell
  register-set_cell i f v k hk = get_or-set_other w (cell_at R i f) (first_register + k) v 0 λ e. omega arith

  pub register-set_head : (v k : ℕ) → register (set_head w v) k ≡ register w k
  unfolding register set_head
  register-set_head v k = get_or-set_other w 1 (first_register + k) v 0 λ e. omega arith

  -- the head after a write
  pub head-same : (v : ℕ) → 1 < length w → head (set_head w v) ≡ v
  unfolding head set_head
  head-same v fits = get_or-set_same w 1 v 0 fits

  pub head-set_cell : (i f v : ℕ) → head (set_cell R w i f v) ≡ head w
  unfolding head set_cell
  head-set_cell i f v = get_or-set_other w (cell_at R i f) 1 v 0 λ e. omega arith

  pub head-set_register : (k v : ℕ) → head (set_register w k v) ≡ head w
  unfolding head set_register
  head-set_register k v = get_or-set_other w (first_register + k) 1 v 0 λ e. omega arith

  -- word 0 after a write
  pub count-set_cell : (i f v : ℕ) → count (set_cell R w i f v) ≡ count w
  unfolding count set_cell
  count-set_cell i f v = get_or-set_other w (cell_at R i f) 0 v 0 λ e. omega arith

  pub count-set_register : (k v : ℕ) → count (set_register w k v) ≡ count w
  unfolding count set_register
  count-set_register k v = get_or-set_other w (first_register + k) 0 v 0 λ e. omega arith

  pub count-set_head : (v : ℕ) → count (set_head w v) ≡ count w
  unfolding count set_head
  count-set_head v = get_or-set_other w 1 0 v 0 λ e. omega arith

  -- writes of fields: the last one counts, those at different places change places, and writing what is there changes nothing
  pub set_cell-again : (i f u v : ℕ) → set_cell R (set_cell R w i f u) i f v ≡ set_cell R w i f v
  unfolding set_cell
  set_cell-again i f u v = set-set w (cell_at R i f) u v

  pub set_cell_comm : (i f u j g v : ℕ) → 0 < i → f < 4 → 0 < j → g < 4 → (4 * i + f ≡ 4 * j + g → ⊥)
      → set_cell R (set_cell R w i f u) j g v ≡ set_cell R (set_cell R w j g v) i f u
  unfolding set_cell
  set_cell_comm i f u j g v hi hf hj hg apart = set_comm w (cell_at R i f) (cell_at R j g) u v λ e. apart (omega arith)

  pub set_cell-cell : (i f : ℕ) → set_cell R w i f (cell R w i f) ≡ w
  unfolding cell set_cell
  set_cell-cell i f = set-get_or w (cell_at R i f) 0
