-- What every call keeps of the words: they are a standing pool, and its free list has every free cell once. Here, through writes that neither free nor
-- take a cell.
use Prim.Native.Nat.{ℕ, ◌+◌, ◌*◌, ◌<◌, ◌≤◌}
use native.Mathlib.Omega.{arith}
use mathlib.Core.Path.{◌≡◌}
use mathlib.Core.List.{List}
use mathlib.Core.Bool.{true}
use Rattle.pool.specs.Layout.{register_count, head, set_register, set_cell, state}
use Rattle.pool.specs.States.{is_used, is_free}
use Rattle.pool.proofs.Laws.{head-set_register, cell-set_register, head-set_cell, cell_other}
use Rattle.questions.proofs.WellFormed.{Link}
use Rattle.invariant.proofs.FreeList.{free_or_used, Free, First, chain_first, free-kept}
use Rattle.invariant.proofs.Standing.{Standing, standing_set_register, standing_set_cell}

pub record Invariant (N : ℕ) (w : List ℕ) : Type 0 where
  pub pool : Standing N w
  pub free : Free N w

module _ {N : ℕ} {w : List ℕ} (inv : Invariant N w) where
  -- The first free cell, where there is one.
  pub inv_first : 0 < head w → First N w (head w) inv.free.list
  inv_first some = chain_first inv.free.chain inv.free.once some

  pub inv_set_register : (r v : ℕ) → r < register_count → Link register_count N w v → Invariant N (set_register w r v)
  inv_set_register r v low link =
      record {
        pool = standing_set_register inv.pool r v low link;
        free = free-kept (set_register w r v) (head-set_register register_count w r v) (λ i some. cell-set_register register_count w r v i 0 low)
            (λ i some s. cell-set_register register_count w r v i 1 low) inv.free;
      }

  -- A link of a used cell, or its value, is changed.
  pub inv_set_cell : (x f v : ℕ) → 0 < x → x ≤ N → is_used (state register_count w x) ≡ true → 0 < f → f < 4 → (f < 3 → Link register_count N w v)
      → Invariant N (set_cell register_count w x f v)
  inv_set_cell x f v low high used positive below link =
      record {
        pool = standing_set_cell inv.pool x f v low high positive below link;
        free = free-kept (set_cell register_count w x f v) (head-set_cell register_count w x f v)
            (λ i some. cell_other register_count w x f v i 0 low below some (omega arith) (λ e. omega arith))
            (λ i some s. cell_other register_count w x f v i 1 low below some (omega arith) (λ e. other i some s e)) inv.free;
      }
    where
      other : (i : ℕ) → 0 < i → is_free (state register_count w i) ≡ true → 4 * x + f ≡ 4 * i + 1 → ⊥
      other i some s e = let same : i ≡ x = omega arith in free_or_used w x (rw same at s) used
