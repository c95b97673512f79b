-- A cell that is marked or made used again: its state is read, and written with other bits.
use Prim.Native.Nat.{ℕ}
use mathlib.Core.Path.{◌≡◌, ap, ◌∙◌}
use mathlib.Core.Bool.{true}
use mathlib.Core.List.{List}
use lib.Bits.{bit_xor}
use Rattle.pool.specs.Layout.{set_cell, state, mark_cell, unmark_cell}
use Rattle.pool.specs.States.{marked_pair_state, is_used, is_marked, as_marked, as_used}
use Rattle.pool.proofs.States.{used-marked, marked-used}

-- the bits of the mark are exchanged in the state that was read
module _ (R : ℕ) (w : List ℕ) (i : ℕ) {s : ℕ} {v : List ℕ} (read : s ≡ state R w i) (written : v ≡ set_cell R w i 0 (bit_xor s marked_pair_state)) where
  made : (t : ℕ) → bit_xor (state R w i) marked_pair_state ≡ t → v ≡ set_cell R w i 0 t
  made t e = written ∙ ap (set_cell R w i 0) (ap (λ (x : ℕ). bit_xor x marked_pair_state) read ∙ e)

  -- of a used cell
  pub mark_made : is_used (state R w i) ≡ true → v ≡ mark_cell R w i
  mark_made used = made (as_marked (state R w i)) (used-marked (state R w i) used)

  -- of a marked one
  pub unmark_made : is_marked (state R w i) ≡ true → v ≡ unmark_cell R w i
  unmark_made marked = made (as_used (state R w i)) (marked-used (state R w i) marked)
