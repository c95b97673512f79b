-- The laws of a cell whose state and links are written, as a visit does it, or all four words.
use Prim.Native.Nat.{ℕ, zero, suc, ◌<◌, ◌≤◌}
use native.Mathlib.Omega.{arith}
use mathlib.Core.Path.{◌≡◌, ◌∙◌}
use mathlib.Core.List.{List}
use lib.ListN.{length}
use Rattle.pool.specs.Layout.{pool_length, cell, set_cell, set_node, put_cell, state, left, right}
use Rattle.pool.proofs.Laws.{length-set_cell, cell_same, cell_other, set_cell-again, set_cell_comm, set_cell-cell}

pub length-set_node : (R : ℕ) (w : List ℕ) (p s l r : ℕ) → length (set_node R w p s l r) ≡ length w
length-set_node R w p s l r = simp length-set_cell

module _ (R : ℕ) (w : List ℕ) (p : ℕ) (positive : 0 < p) where
  -- two fields of the cell: the lower one first
  lower_first : (f g : ℕ) → g < f → f < 4 → (w : List ℕ) (u v : ℕ)
      → set_cell R (set_cell R w p f u) p g v ≡ set_cell R (set_cell R w p g v) p f u
  lower_first f g h hf w u v = set_cell_comm R w p f u p g v positive hf positive (omega arith) (omega arith)

  -- the last writes count
  pub set_node-again : (s l r s' l' r' : ℕ) → set_node R (set_node R w p s l r) p s' l' r' ≡ set_node R w p s' l' r'
  set_node-again s l r s' l' r' =
      simp (
        lower_first 1 0 (omega arith) (omega arith),
        lower_first 2 0 (omega arith) (omega arith),
        lower_first 2 1 (omega arith) (omega arith),
        set_cell-again,
      )

  -- writing the links that are there leaves a write of the state
  pub set_node-links : (s : ℕ) → set_node R w p s (left R w p) (right R w p) ≡ set_cell R w p 0 s
  set_node-links s =
      simp (← lower_first 1 0 (omega arith) (omega arith), ← lower_first 2 0 (omega arith) (omega arith), set_cell-cell)

  -- writing all that is there changes nothing
  pub set_node-same : {s l r : ℕ} → state R w p ≡ s → left R w p ≡ l → right R w p ≡ r → set_node R w p s l r ≡ w
  set_node-same es el er = rw (← es, ← el, ← er) (set_node-links (state R w p) ∙ set_cell-cell R w p 0)

  -- the links do not change a state
  pub state-set_links : (l r x : ℕ) → 0 < x → state R (set_cell R (set_cell R w p 1 l) p 2 r) x ≡ state R w x
  state-set_links l r x hx =
      cell_other R (set_cell R w p 1 l) p 2 r x 0 positive (omega arith) hx (omega arith) (omega arith)
      ∙ cell_other R w p 1 l x 0 positive (omega arith) hx (omega arith) (omega arith)

  -- another cell, or the value, is as before
  pub cell-set_node : (s l r x f : ℕ) → 0 < x → f < 4 → (x ≡ p → 2 < f) → cell R (set_node R w p s l r) x f ≡ cell R w x f
  cell-set_node s l r x f hx hf apart =
      other (set_cell R (set_cell R w p 0 s) p 1 l) 2 r (omega arith) ∙ other (set_cell R w p 0 s) 1 l (omega arith) ∙ other w 0 s (omega arith)
    where
      other : (w : List ℕ) (g v : ℕ) → g < 3 → cell R (set_cell R w p g v) x f ≡ cell R w x f
      other w g v hg = cell_other R w p g v x f positive (omega arith) hx hf λ e. let e' : x ≡ p = omega arith in omega (arith, apart e')

  -- a field after the write of a higher one
  higher : (f g : ℕ) → f < g → g < 4 → (w : List ℕ) (v : ℕ) → cell R (set_cell R w p g v) p f ≡ cell R w p f
  higher f g h hg w v = cell_other R w p g v p f positive hg positive (omega arith) (omega arith)

  module _ (room : pool_length R p ≤ length w) (s l r : ℕ) where
    pub state-set_node : state R (set_node R w p s l r) p ≡ s
    state-set_node =
        simp (higher 0 1 (omega arith) (omega arith), higher 0 2 (omega arith) (omega arith)) (cell_same R w p 0 s positive (omega arith) room)

    pub left-set_node : left R (set_node R w p s l r) p ≡ l
    left-set_node =
        higher 1 2 (omega arith) (omega arith) (set_cell R (set_cell R w p 0 s) p 1 l) r
        ∙ cell_same R (set_cell R w p 0 s) p 1 l positive (omega arith) (simp length-set_cell room)

    pub right-set_node : right R (set_node R w p s l r) p ≡ r
    right-set_node = cell_same R (set_cell R (set_cell R w p 0 s) p 1 l) p 2 r positive (omega arith) (simp length-set_cell room)

-- The cell p is one of the n cells of the words, and its state and links are s, l and r.
pub record Node (R n : ℕ) (w : List ℕ) (p s l r : ℕ) : Type 0 where
  pub positive : 0 < p
  pub bounded : p ≤ n
  pub room : pool_length R n ≤ length w
  pub state : state R w p ≡ s
  pub left : left R w p ≡ l
  pub right : right R w p ≡ r

-- So it is once they are written.
pub node_set : (R n : ℕ) (w : List ℕ) (p s l r : ℕ) → 0 < p → p ≤ n → pool_length R n ≤ length w → Node R n (set_node R w p s l r) p s l r
node_set R n w p s l r hp hn room =
    let fits : pool_length R p ≤ length w = omega arith in
    record {
      positive = hp;
      bounded = hn;
      room = rw length-set_node room;
      state = state-set_node R w p hp fits s l r;
      left = left-set_node R w p hp fits s l r;
      right = right-set_node R w p hp fits s l r;
    }

-- The fields that are written: state s, left l, right r, value v.
abbrev pub written : ℕ → ℕ → ℕ → ℕ → ℕ → ℕ
written s l r v zero = s
written s l r v (suc zero) = l
written s l r v (suc (suc zero)) = r
written s l r v (suc (suc (suc f))) = v

-- All four words written.
module _ (R : ℕ) (w : List ℕ) (i : ℕ) (positive : 0 < i) (s l r v : ℕ) where
  pub length-put_cell : length (put_cell R w i s l r v) ≡ length w
  length-put_cell = simp length-set_cell

  pub cell-put_cell : (f : ℕ) → f < 4 → pool_length R i ≤ length w → cell R (put_cell R w i s l r v) i f ≡ written s l r v f
  cell-put_cell zero hf room = higher R (set_node R w i s l r) i positive 0 3 (omega arith) (omega arith) (set_node R w i s l r) v ∙ state-set_node R w i positive room s l r
  cell-put_cell (suc zero) hf room = higher R (set_node R w i s l r) i positive 1 3 (omega arith) (omega arith) (set_node R w i s l r) v ∙ left-set_node R w i positive room s l r
  cell-put_cell (suc (suc zero)) hf room = higher R (set_node R w i s l r) i positive 2 3 (omega arith) (omega arith) (set_node R w i s l r) v ∙ right-set_node R w i positive room s l r
  cell-put_cell (suc (suc (suc zero))) hf room = cell_same R (set_node R w i s l r) i 3 v positive hf (rw length-set_node room)
  cell-put_cell (suc (suc (suc (suc f)))) hf room = absurd (omega arith)

  pub cell-put_cell_other : (j f : ℕ) → 0 < j → f < 4 → (j ≡ i → ⊥) → cell R (put_cell R w i s l r v) j f ≡ cell R w j f
  cell-put_cell_other j f hj hf apart =
      cell_other R (set_node R w i s l r) i 3 v j f positive (omega arith) hj hf (λ e. apart (omega arith))
      ∙ cell-set_node R w i positive s l r j f hj hf (λ e. absurd (apart e))
