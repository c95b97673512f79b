-- The cells of the comb as they are written: one turn, and what stands where afterwards.
use Prim.Native.Nat.{ℕ, zero, suc, ◌+◌, ◌-◌, ◌<◌, ◌≤◌}
use native.Mathlib.Omega.{arith}
use native.Mathlib.Decide.{ℕ_discrete}
use mathlib.Core.Path.{◌≡◌, refl, ◌∙◌}
use mathlib.Core.List.{List}
use lib.ListN.{length, get_or}
use Rattle.pool.specs.Layout.{pool_length, cell, put_cell}
use Rattle.pool.specs.States.{pair_state}
use Rattle.pool.proofs.Node.{written, length-put_cell, cell-put_cell, cell-put_cell_other}
use Rattle.pool.proofs.Retained.{Elsewhere, put_cell_elsewhere}
use Rattle.stack_algorithm.specs.Comb.{comb_link}
use Rattle.worst_case.specs.WorstCase.{put_comb_cell, put_comb}

module _ (R n : ℕ) where
  pub comb-length : (k : ℕ) (w : List ℕ) → length (put_comb R n k w) ≡ length w
  unfolding put_comb
  comb-length zero w = refl
  comb-length (suc k) w = comb-length k (put_comb_cell R n w (suc k)) ∙ length-put_cell R w (suc k) (omega arith) _ _ _ _

  -- what is no cell's stays
  pub comb_elsewhere : (k : ℕ) (w : List ℕ) (q : ℕ) → k ≤ n → Elsewhere R n q → get_or (put_comb R n k w) q 0 ≡ get_or w q 0
  unfolding put_comb
  comb_elsewhere zero w q high away = refl
  comb_elsewhere (suc k) w q high away =
      comb_elsewhere k (put_comb_cell R n w (suc k)) q (omega arith) away ∙ put_cell_elsewhere R n w (suc k) _ _ _ _ q (omega arith) high away

  -- the cells above stay, and each other one is as it was written
  comb_above : (k : ℕ) (w : List ℕ) (i f : ℕ) → k < i → f < 4 → cell R (put_comb R n k w) i f ≡ cell R w i f
  unfolding put_comb
  comb_above zero w i f above hf = refl
  comb_above (suc k) w i f above hf =
      comb_above k (put_comb_cell R n w (suc k)) i f (omega arith) hf
      ∙ cell-put_cell_other R w (suc k) (omega arith) _ _ _ _ i f (omega arith) hf (λ e. omega arith)

  pub comb-cell : (k : ℕ) (w : List ℕ) (i f : ℕ) → 0 < i → i ≤ k → f < 4 → pool_length R k ≤ length w
      → cell R (put_comb R n k w) i f ≡ written pair_state (comb_link n i 2) (comb_link n i 1) 0 f
  unfolding put_comb
  comb-cell zero w i f low high hf room = absurd (omega arith)
  comb-cell (suc k) w i f low high hf room = go (λ below. comb-cell k put i f low below hf (omega (arith, long))) (ℕ_discrete i (suc k))
    where
      put : List ℕ
      put = put_comb_cell R n w (suc k)

      long : length put ≡ length w
      long = length-put_cell R w (suc k) (omega arith) _ _ _ _

      go : (i ≤ k → cell R (put_comb R n k put) i f ≡ written pair_state (comb_link n i 2) (comb_link n i 1) 0 f) → Dec (i ≡ suc k)
          → cell R (put_comb R n k put) i f ≡ written pair_state (comb_link n i 2) (comb_link n i 1) 0 f
      go rest (yes e) = rw e (comb_above k put (suc k) f (omega arith) hf ∙ cell-put_cell R w (suc k) (omega arith) _ _ _ _ f hf room)
      go rest (no other) = rest (omega (arith, other))

-- A turn of the loop that writes the cells from n down, i of which are left to write, and its end.
pub putting_turn : (R n : ℕ) (w w' : List ℕ) (i : ℕ) (links : ℕ × ℕ) → 0 < i → ◌≡◌ {A = ℕ × ℕ} links (comb_link n (i - 1 + 1) 2, comb_link n (i - 1 + 1) 1)
    → w' ≡ put_cell R w (i - 1 + 1) pair_state links.0 links.1 0 → put_comb R n (i - 1) w' ≡ put_comb R n i w
unfolding put_comb
putting_turn R n w w' zero links some is put = absurd (omega arith)
putting_turn R n w w' (suc k) links some is put =
    let less : suc k - 1 ≡ k = omega arith in
    let this : suc k - 1 + 1 ≡ suc k = omega arith in
    rw (less, put, is, this)

pub putting_last : (R n : ℕ) (w : List ℕ) (i : ℕ) → i ≤ 0 → w ≡ put_comb R n i w
unfolding put_comb
putting_last R n w zero none = refl
putting_last R n w (suc i) none = absurd (omega arith)
