-- Reading the words in which every cell of a list is marked.
use Prim.Native.Nat.{ℕ, ◌+◌, ◌*◌, ◌<◌, ◌≤◌}
use native.Mathlib.Omega.{arith}
use native.Mathlib.Decide.{ℕ_discrete}
use mathlib.Core.Path.{◌≡◌, refl, sym, ap, ◌∙◌}
use mathlib.Core.Logic.{◌⊎◌, inl, inr, ⊎_elim}
use mathlib.Core.List.Memᴰ
use mathlib.Core.List.{List, [], ◌∷◌, ◌++◌, Memᴰ}
use mathlib.Core.Bool.{true}
use lib.ListN.{length}
use Rattle.pool.specs.Layout.{pool_length, cell, set_cell, state, register, set_node, mark_cell, is_point_at, link_of}
use Rattle.pool.specs.States.{is_point, is_marked, as_marked}
use Rattle.pool.proofs.States.{marked-marked, marked-again, point-marked}
use Rattle.pool.proofs.Links.{link-same}
use Rattle.pool.proofs.Laws.{length-set_cell, register-set_cell, cell_same, cell_other, set_cell_comm}
use Rattle.reversal.specs.ReversalTheorem.{mark_all}

module _ (R : ℕ) where
  -- every part of the words that a write of a state leaves as it is
  kept : {A : Type 0} (part : List ℕ → A) → ((w : List ℕ) (x v : ℕ) → part (set_cell R w x 0 v) ≡ part w) → (w t : List ℕ)
      → part (mark_all R w t) ≡ part w
  unfolding mark_all
  kept part same w [] = refl
  kept part same w (x ∷ xs) = kept part same (mark_cell R w x) xs ∙ same w x (as_marked (state R w x))

  pub length-mark_all : (w t : List ℕ) → length (mark_all R w t) ≡ length w
  length-mark_all = kept length λ w x v. length-set_cell R w x 0 v

  pub register-mark_all : (k : ℕ) → k < R → (w t : List ℕ) → register (mark_all R w t) k ≡ register w k
  register-mark_all k hk = kept (λ w. register w k) λ w x v. register-set_cell R w x 0 v k hk

  -- one list after the other
  pub mark_all-append : (w t u : List ℕ) → mark_all R w (t ++ u) ≡ mark_all R (mark_all R w t) u
  unfolding mark_all
  mark_all-append w [] u = refl
  mark_all-append w (x ∷ xs) u = mark_all-append (mark_cell R w x) xs u

  -- a write of a field that is no state of a cell of the list can be made before or after
  pub mark_all-set_cell : (i f v : ℕ) → 0 < i → f < 4 → (t : List ℕ) → ((x : ℕ) → Memᴰ x t → (0 < x) × (4 * x ≡ 4 * i + f → ⊥)) → (w : List ℕ)
      → mark_all R (set_cell R w i f v) t ≡ set_cell R (mark_all R w t) i f v
  unfolding mark_all
  mark_all-set_cell i f v hi hf [] away w = refl
  mark_all-set_cell i f v hi hf (x ∷ xs) away w =
      let here = away x (Memᴰ.head refl) in
      ap (λ w. mark_all R w xs)
      (ap (λ (s : ℕ). set_cell R (set_cell R w i f v) x 0 (as_marked s)) (cell_other R w i f v x 0 hi hf here.0 (omega arith) λ e. here.1 (omega arith))
      ∙ set_cell_comm R w i f v x 0 (as_marked (state R w x)) hi hf here.0 (omega arith) λ e. here.1 (omega arith))
      ∙ mark_all-set_cell i f v hi hf xs (λ y mem. away y (Memᴰ.tail mem)) (mark_cell R w x)

  -- a field that is no state of a cell of the list is as before
  cell-mark_all : (i f : ℕ) → 0 < i → f < 4 → (t : List ℕ) → ((x : ℕ) → Memᴰ x t → (0 < x) × (4 * x ≡ 4 * i + f → ⊥)) → (w : List ℕ)
      → cell R (mark_all R w t) i f ≡ cell R w i f
  unfolding mark_all
  cell-mark_all i f hi hf [] away w = refl
  cell-mark_all i f hi hf (x ∷ xs) away w =
      let here = away x (Memᴰ.head refl) in
      cell-mark_all i f hi hf xs (λ y mem. away y (Memᴰ.tail mem)) (mark_cell R w x)
      ∙ cell_other R w x 0 (as_marked (state R w x)) i f here.0 (omega arith) hi hf λ e. here.1 (omega arith)

  -- the links and the values are as before
  pub field_mark_all : (i f : ℕ) → 0 < i → 0 < f → f < 4 → (t : List ℕ) → ((x : ℕ) → Memᴰ x t → 0 < x) → (w : List ℕ)
      → cell R (mark_all R w t) i f ≡ cell R w i f
  field_mark_all i f hi hf hf' t cells = cell-mark_all i f hi hf' t λ x mem. (cells x mem, λ e. omega arith)

  -- the state of a cell that is not in the list is as before
  pub state-mark_all_other : (i : ℕ) → 0 < i → (t : List ℕ) → ((x : ℕ) → Memᴰ x t → 0 < x) → (Memᴰ i t → ⊥) → (w : List ℕ)
      → state R (mark_all R w t) i ≡ state R w i
  state-mark_all_other i hi t cells out =
      cell-mark_all i 0 hi (omega arith) t λ x mem. (cells x mem, λ e. out (Memᴰ.cast (omega arith) mem))

  -- a cell that is in the list, or has the state of a marked cell before, has it after
  marked : (i : ℕ) → 0 < i → (t : List ℕ) → ((x : ℕ) → Memᴰ x t → 0 < x) → (w : List ℕ) → pool_length R i ≤ length w
      → (state R w i ≡ as_marked (state R w i)) ⊎ Memᴰ i t → state R (mark_all R w t) i ≡ as_marked (state R w i)
  unfolding mark_all
  marked i hi [] cells w room mem = ⊎_elim (λ e. e) (λ m. absurd (Memᴰ.not-nil m)) mem
  marked i hi (x ∷ xs) cells w room mem = go (ℕ_discrete i x) (marked i hi xs (λ y m. cells y (Memᴰ.tail m)) (mark_cell R w x) (simp length-set_cell room))
    where
      go : Dec (i ≡ x)
          → ((state R (mark_cell R w x) i ≡ as_marked (state R (mark_cell R w x) i)) ⊎ Memᴰ i xs → state R (mark_all R (mark_cell R w x) xs) i ≡ as_marked (state R (mark_cell R w x) i))
          → state R (mark_all R (mark_cell R w x) xs) i ≡ as_marked (state R w i)
      go (yes e) rest =
          let here : state R (mark_cell R w x) i ≡ as_marked (state R w i) = rw (← e) (cell_same R w i 0 (as_marked (state R w i)) hi (omega arith) room) in
          rest (inl (here ∙ sym (ap as_marked here ∙ marked-again (state R w i)))) ∙ (ap as_marked here ∙ marked-again (state R w i))
      go (no apart) rest =
          let same : state R (mark_cell R w x) i ≡ state R w i =
          cell_other R w x 0 (as_marked (state R w x)) i 0 (cells x (Memᴰ.head refl)) (omega arith) hi (omega arith) (λ e'. apart (omega arith)) in
          rest (⊎_elim (λ e. inl (same ∙ (e ∙ sym (ap as_marked same)))) (λ m. ⊎_elim (λ e. absurd (apart e)) (λ m'. inr m') (Memᴰ.cases_cons m)) mem)
          ∙ ap as_marked same

  -- so a cell of the list has the state of a marked cell, and is marked
  pub state-mark_all : (i : ℕ) → 0 < i → (t : List ℕ) → ((x : ℕ) → Memᴰ x t → 0 < x) → Memᴰ i t → (w : List ℕ)
      → pool_length R i ≤ length w → state R (mark_all R w t) i ≡ as_marked (state R w i)
  state-mark_all i hi t cells mem w room = marked i hi t cells w room (inr mem)

  pub state-mark_all_same : (i : ℕ) → 0 < i → (t : List ℕ) → ((x : ℕ) → Memᴰ x t → 0 < x) → Memᴰ i t → (w : List ℕ)
      → pool_length R i ≤ length w → is_marked (state R (mark_all R w t) i) ≡ true
  state-mark_all_same i hi t cells mem w room = ap is_marked (state-mark_all i hi t cells mem w room) ∙ marked-marked (state R w i)

  -- no kind changes, so no link does
  pub kind-mark_all : (i : ℕ) → 0 < i → (t : List ℕ) → ((x : ℕ) → Memᴰ x t → 0 < x) → (w : List ℕ) → pool_length R i ≤ length w
      → is_point_at R (mark_all R w t) i ≡ is_point_at R w i
  unfolding mark_all
  kind-mark_all i hi [] cells w room = refl
  kind-mark_all i hi (x ∷ xs) cells w room =
      kind-mark_all i hi xs (λ y m. cells y (Memᴰ.tail m)) (mark_cell R w x) (simp length-set_cell room) ∙ first (ℕ_discrete i x)
    where
      first : Dec (i ≡ x) → is_point_at R (mark_cell R w x) i ≡ is_point_at R w i
      first (yes e) =
          ap is_point (rw (← e) (cell_same R w i 0 (as_marked (state R w i)) hi (omega arith) room)) ∙ point-marked (state R w i)
      first (no apart) =
          ap is_point (cell_other R w x 0 (as_marked (state R w x)) i 0 (cells x (Memᴰ.head refl)) (omega arith) hi (omega arith) (λ e'. apart (omega arith)))

  pub link-mark_all : (i f : ℕ) → 0 < i → 0 < f → f < 4 → (t : List ℕ) → ((x : ℕ) → Memᴰ x t → 0 < x) → (w : List ℕ) → pool_length R i ≤ length w
      → link_of R (mark_all R w t) i f ≡ link_of R w i f
  link-mark_all i f hi hf hf' t cells w room =
      link-same R (mark_all R w t) w i i f (kind-mark_all i hi t cells w room) (field_mark_all i f hi hf hf' t cells w)

  -- a cell that is not in the list can be written before or after
  pub mark_all-set_node : (p s l r : ℕ) → 0 < p → (t : List ℕ) → ((x : ℕ) → Memᴰ x t → (0 < x) × (x ≡ p → ⊥)) → (w : List ℕ)
      → mark_all R (set_node R w p s l r) t ≡ set_node R (mark_all R w t) p s l r
  mark_all-set_node p s l r hp t away w =
      past 2 r (omega arith) (set_cell R (set_cell R w p 0 s) p 1 l)
      ∙ ap (λ w. set_cell R w p 2 r) (past 1 l (omega arith) (set_cell R w p 0 s) ∙ ap (λ w. set_cell R w p 1 l) (past 0 s (omega arith) w))
    where
      past : (f v : ℕ) → f < 4 → (w : List ℕ) → mark_all R (set_cell R w p f v) t ≡ set_cell R (mark_all R w t) p f v
      past f v hf = mark_all-set_cell p f v hp hf t λ x mem. ((away x mem).0, λ e. (away x mem).1 (omega arith))
