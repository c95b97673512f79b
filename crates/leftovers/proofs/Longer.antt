-- A pool of n cells with words behind them: what is read is as without them, and what is written too, with the same words behind it.
use Prim.Native.Nat.{ℕ, zero, suc, ◌+◌, ◌-◌, ◌<◌, ◌≤◌}
use native.Mathlib.Omega.{arith}
use native.Mathlib.Decide.{dec_le, dec_lt}
use mathlib.Core.Path.{◌≡◌, refl, sym, ap, ap₂, ◌∙◌}
use mathlib.Core.List.{List, [], ◌∷◌, ◌++◌, append-nil, map, Memᴰ}
use mathlib.Core.Bool.{Bool, false, cond, ◌&&◌}
use lib.ListN.{length, get_or, drop, replicate, length-append, length-replicate, drop_of_length-le, get_or-append}
use lib.Seq.{get_or-append-add, set-append_left, drop-append_seam}
use lib.Dec.{leb}
use borrow.Author.Tests.{lt-leb}
use Rattle.graph.specs.Graph.{Reach}
use Rattle.graph.specs.Preorder.{elem}
use Rattle.graph.specs.Compare.{Agree}
use Rattle.graph.proofs.Theorems.{preorder-agree, preorder-reached}
use Rattle.pool.specs.Layout.{first_register, pool_length, cell_at, count, set_count, head, set_head, register, set_register, cell, set_cell, put_cell, is_point_at, link_of, graph_of, roots_of}
use Rattle.pool.specs.Retain.{free_field, retained_field, retained_word, retain, blank_words, fresh_words}
use Rattle.pool.specs.States.{pair_state, free_state, is_point, as_used}
use Rattle.pool.proofs.Links.{link-same}
use Rattle.questions.specs.Validity.{valid_link, valid_cell, well_formed}
use Rattle.pool.proofs.Laws.{length-set_cell, length-set_register}
use Rattle.pool.proofs.Every.{every_cong, tabulate-list, tabulate_cong, get_or-tabulate}
use Rattle.pool.proofs.Retained.{Place, place, word_stays, word_field, length-retain}
use Rattle.pool.proofs.Node.{length-put_cell}
use Rattle.pool.proofs.FreshPool.{blank_length}
use Rattle.questions.proofs.WellFormed.{WellFormed}
use Rattle.questions.proofs.PoolGraph.{reached-used, pool-within}
use Rattle.reversal.specs.Reached.{reached_cells, is_reached, visits_of, reached_visits}
use Rattle.reversal.proofs.VisitCount.{visits_cong}
use Rattle.collector.specs.Collect.{collected}
use Rattle.stack_algorithm.specs.Comb.{comb_link}
use Rattle.worst_case.specs.WorstCase.{put_comb_cell, put_comb, worst_case_words}
use Rattle.image.specs.declared.ImageCell.{ImageCell}
use Rattle.image.specs.Image.{Image, number_in, saved_cell, image_bytes, image_of}
use Rattle.load.specs.Load.{state_of_kind, put_fields, put_each, put_image, loaded_words}
use Rattle.load.proofs.Putting.{cells-length, registers-length}

-- Lists of what two rules give, where these agree on each member.
map_cong : {A : Type 0} (f g : ℕ → A) (xs : List ℕ) → ((x : ℕ) → Memᴰ x xs → f x ≡ g x) → map f xs ≡ map g xs
map_cong f g [] same = refl
map_cong {A} f g (x ∷ xs) same =
    ap₂ (λ (y : A) (ys : List A). y ∷ ys) (same x (Memᴰ.head refl)) (map_cong f g xs λ y mem. same y (Memᴰ.tail mem))

-- The words u of n cells, and t behind them.
module _ (R n : ℕ) (u t : List ℕ) (long : length u ≡ pool_length R n) (some : 0 < n) where
  -- what is read
  pub count-longer : count (u ++ t) ≡ count u
  unfolding count
  count-longer = get_or-append u t 0 0 (omega arith)

  pub head-longer : head (u ++ t) ≡ head u
  unfolding head
  head-longer = get_or-append u t 0 1 (omega arith)

  pub register-longer : (k : ℕ) → k < R → register (u ++ t) k ≡ register u k
  unfolding register
  register-longer k low = get_or-append u t 0 (first_register + k) (omega arith)

  pub cell-longer : (i f : ℕ) → i ≤ n → f < 4 → cell R (u ++ t) i f ≡ cell R u i f
  unfolding cell
  cell-longer i f high hf = get_or-append u t 0 (cell_at R i f) (omega arith)

  pub link-longer : (x : ℕ) → valid_link R n (u ++ t) x ≡ valid_link R n u x
  link-longer x = go (dec_le x n)
    where
      go : Dec (x ≤ n) → valid_link R n (u ++ t) x ≡ valid_link R n u x
      go (yes high) = rw (cell-longer x 0 high (omega arith)) refl
      go (no past) = simp (lt-leb x n (omega arith))

  -- a cell's kind and its links
  pub kind-longer : (i : ℕ) → i ≤ n → is_point_at R (u ++ t) i ≡ is_point_at R u i
  kind-longer i high = ap is_point (cell-longer i 0 high (omega arith))

  link_of_longer : (i f : ℕ) → i ≤ n → f < 4 → link_of R (u ++ t) i f ≡ link_of R u i f
  link_of_longer i f high hf = link-same R (u ++ t) u i i f (kind-longer i high) (cell-longer i f high hf)

  cell_valid_longer : (i : ℕ) → i ≤ n → valid_cell R n (u ++ t) i ≡ valid_cell R n u i
  cell_valid_longer i high =
      rw (
        link_of_longer i 1 high (omega arith),
        link_of_longer i 2 high (omega arith),
        link-longer (link_of R u i 1),
        link-longer (link_of R u i 2),
        cell-longer i 0 high (omega arith),
      ) refl

  pub well_formed_longer : well_formed R n (u ++ t) ≡ well_formed R n u
  well_formed_longer =
      ap₂ (λ (a b : Bool). a && b)
      (every_cong R (λ k. valid_link R n (u ++ t) (register (u ++ t) k)) (λ k. valid_link R n u (register u k))
      λ k low. link-longer (register (u ++ t) k) ∙ ap (valid_link R n u) (register-longer k low))
      (every_cong n (λ k. valid_cell R n (u ++ t) (suc k)) (λ k. valid_cell R n u (suc k)) λ k low. cell_valid_longer (suc k) low)

  pub roots-longer : roots_of R (u ++ t) ≡ roots_of R u
  roots-longer = tabulate_cong R (λ k. register (u ++ t) k) (λ k. register u k) register-longer

  -- the cells that are reached, and the image, of a well-formed pool
  module _ (well : WellFormed R n u) where
    pub agree : (x : ℕ) → Reach (graph_of R u) (roots_of R u) x → Agree (graph_of R u) (graph_of R (u ++ t)) x
    agree x reach =
        let used = reached-used well reach in
        record {
          left = sym (link_of_longer x 1 used.bounded (omega arith));
          right = sym (link_of_longer x 2 used.bounded (omega arith));
        }

    pub reached-longer : reached_cells R n (u ++ t) ≡ reached_cells R n u
    reached-longer = rw roots-longer (sym (preorder-agree n (graph_of R u) (graph_of R (u ++ t)) (roots_of R u) (pool-within well) agree))

    pub visits-longer : reached_visits R n (u ++ t) ≡ reached_visits R n u
    visits-longer =
        ap (visits_of (is_point_at R (u ++ t))) reached-longer
        ∙ visits_cong (is_point_at R (u ++ t)) (is_point_at R u) (reached_cells R n u) λ x mem.
        kind-longer x (reached-used well ((preorder-reached n (graph_of R u) (roots_of R u) (pool-within well) x).0 mem)).bounded

    pub image-longer : image_of R n (u ++ t) ≡ image_of R n u
    image-longer =
        let order = reached_cells R n u in
        rw (reached-longer, roots-longer)
        (ap (λ (cells : List ImageCell). image_bytes (record { registers = map (number_in order) (roots_of R u); cells = cells }))
        (map_cong (saved_cell R (u ++ t) order) (saved_cell R u order) order λ x mem.
        let used = reached-used well ((preorder-reached n (graph_of R u) (roots_of R u) (pool-within well) x).0 mem) in
        rw (
          cell-longer x 0 used.bounded (omega arith),
          cell-longer x 1 used.bounded (omega arith),
          cell-longer x 2 used.bounded (omega arith),
          cell-longer x 3 used.bounded (omega arith),
        ) refl))

  -- what is written
  pub set-cell_longer : (i f v : ℕ) → i ≤ n → f < 4 → set_cell R (u ++ t) i f v ≡ set_cell R u i f v ++ t
  unfolding set_cell
  set-cell_longer i f v high hf = set-append_left u t (cell_at R i f) v (omega arith)

  pub set-head_longer : (v : ℕ) → set_head (u ++ t) v ≡ set_head u v ++ t
  unfolding set_head
  set-head_longer v = set-append_left u t 1 v (omega arith)

  pub set-register_longer : (k v : ℕ) → k < R → set_register (u ++ t) k v ≡ set_register u k v ++ t
  unfolding set_register
  set-register_longer k v low = set-append_left u t (first_register + k) v (omega arith)

  pub blank_longer : blank_words R n (u ++ t) ≡ blank_words R n u ++ t
  unfolding set_count
  blank_longer =
      let behind : drop (pool_length R n) (u ++ t) ≡ t = rw long at (drop-append_seam u t) in
      let none : drop (pool_length R n) u ≡ [] = drop_of_length-le u {i = pool_length R n} (omega arith) in
      let zeros : List ℕ = replicate (pool_length R n) 0 in
      rw (behind, none, append-nil zeros) (set-append_left zeros t 0 n (omega (arith, length-replicate {A = ℕ} (pool_length R n) 0)))

  pub retain-longer : (keep : ℕ → Bool) → retain R n keep (u ++ t) ≡ retain R n keep u ++ t
  unfolding retain
  retain-longer keep =
      sym (tabulate-list (length (u ++ t)) (retained_word R n keep (u ++ t)) (retain R n keep u ++ t) size λ k below. at k (dec_lt k (length u)) (place R n k))
    where
      size : length (retain R n keep u ++ t) ≡ length (u ++ t)
      size = simp (length-append, length-retain R n keep u)

      field : (i f : ℕ) → i ≤ n → f < 4 → retained_field R n keep u i f ≡ retained_field R n keep (u ++ t) i f
      field i zero high hf = ap (λ (s : ℕ). cond (keep i) (as_used s) free_state) (sym (cell-longer i 0 high hf))
      field i (suc f) high hf =
          ap (λ (x : ℕ). cond (keep i) x (free_field keep n i (suc f))) (sym (cell-longer i (suc f) high hf))

      word : (k : ℕ) → k < length u → Place R n k → retained_word R n keep u k ≡ retained_word R n keep (u ++ t) k
      word k below (Place.first e) = rw e refl
      word k below (Place.stays other away test) =
          word_stays R n keep u k other test ∙ (sym (get_or-append u t 0 k below) ∙ sym (word_stays R n keep (u ++ t) k other test))
      word k below (Place.field i f low high hf e) =
          rw e (word_field R n keep u i f low high hf ∙ (field i f high hf ∙ sym (word_field R n keep (u ++ t) i f low high hf)))

      -- behind the cells
      behind : (v : List ℕ) → length v ≡ length u → (k : ℕ) → length u ≤ k → get_or (v ++ t) k 0 ≡ get_or t (k - length u) 0
      behind v same k past =
          let here : length v + (k - length u) ≡ k = omega arith in
          rw here at (get_or-append-add v t (k - length u) 0)

      at : (k : ℕ) → Dec (k < length u) → Place R n k → get_or (retain R n keep u ++ t) k 0 ≡ retained_word R n keep (u ++ t) k
      at k (yes below) p =
          get_or-append (retain R n keep u) t 0 k (omega (arith, length-retain R n keep u))
          ∙ (get_or-tabulate (length u) (retained_word R n keep u) k 0 below ∙ word k below p)
      at k (no past) (Place.first e) = absurd (omega arith)
      at k (no past) (Place.stays other away test) =
          behind (retain R n keep u) (length-retain R n keep u) k (omega arith)
          ∙ (sym (behind u refl k (omega arith)) ∙ sym (word_stays R n keep (u ++ t) k other test))
      at k (no past) (Place.field i f low high hf e) = absurd (omega arith)

  pub collected-longer : WellFormed R n u → collected R n (u ++ t) ≡ collected R n u ++ t
  collected-longer well = ap (λ (order : List ℕ). retain R n (λ i. elem i order) (u ++ t)) (reached-longer well) ∙ retain-longer (is_reached R n u)

-- One write after another.
module _ (R n : ℕ) (t : List ℕ) (some : 0 < n) where
  pub put_cell_longer : (u : List ℕ) → length u ≡ pool_length R n → (i s l r v : ℕ) → 0 < i → i ≤ n → put_cell R (u ++ t) i s l r v ≡ put_cell R u i s l r v ++ t
  put_cell_longer u long i s l r v low high =
      let first = set_cell R u i 0 s in
      let second = set_cell R first i 1 l in
      let third = set_cell R second i 2 r in
      let long₁ : length first ≡ pool_length R n = length-set_cell R u i 0 s ∙ long in
      let long₂ : length second ≡ pool_length R n = length-set_cell R first i 1 l ∙ long₁ in
      let long₃ : length third ≡ pool_length R n = length-set_cell R second i 2 r ∙ long₂ in
      ap (λ (w : List ℕ). set_cell R (set_cell R (set_cell R w i 1 l) i 2 r) i 3 v) (set-cell_longer R n u t long some i 0 s high (omega arith))
      ∙ (ap (λ (w : List ℕ). set_cell R (set_cell R w i 2 r) i 3 v) (set-cell_longer R n first t long₁ some i 1 l high (omega arith))
      ∙ (ap (λ (w : List ℕ). set_cell R w i 3 v) (set-cell_longer R n second t long₂ some i 2 r high (omega arith))
      ∙ set-cell_longer R n third t long₃ some i 3 v high (omega arith)))

  comb-longer : (k : ℕ) (u : List ℕ) → length u ≡ pool_length R n → k ≤ n → put_comb R n k (u ++ t) ≡ put_comb R n k u ++ t
  unfolding put_comb
  comb-longer zero u long high = refl
  comb-longer (suc k) u long high =
      ap (put_comb R n k) (put_cell_longer u long (suc k) pair_state (comb_link n (suc k) 2) (comb_link n (suc k) 1) 0 (omega arith) high)
      ∙ comb-longer k (put_comb_cell R n u (suc k)) (length-put_cell R u (suc k) (omega arith) _ _ _ _ ∙ long) (omega arith)

  module _ (u : List ℕ) (long : length u ≡ pool_length R n) where
    abbrev blank : List ℕ
    blank = blank_words R n u

    blank_long : length blank ≡ pool_length R n
    blank_long = blank_length R n u (omega arith) ∙ long

    pub fresh-longer : fresh_words R n (u ++ t) ≡ fresh_words R n u ++ t
    fresh-longer = ap (retain R n (λ i. false)) (blank_longer R n u t long some) ∙ retain-longer R n blank t blank_long some (λ i. false)

    pub worst_case_longer : 0 < R → worst_case_words R n (u ++ t) ≡ worst_case_words R n u ++ t
    worst_case_longer registers =
        ap (λ (w : List ℕ). put_comb R n n (set_register w 0 1)) (blank_longer R n u t long some)
        ∙ (ap (put_comb R n n) (set-register_longer R n blank t blank_long some 0 1 registers)
        ∙ comb-longer n (set_register blank 0 1) (length-set_register R blank 0 1 ∙ blank_long) (omega arith))

-- The image is put into the longer words as into the shorter.
module _ (R n : ℕ) (t : List ℕ) (some : 0 < n) where
  registers-longer : (k : ℕ) (xs u : List ℕ) → length u ≡ pool_length R n → k + length xs ≤ R → put_each set_register k xs (u ++ t) ≡ put_each set_register k xs u ++ t
  unfolding put_each
  registers-longer k [] u long few = refl
  registers-longer k (x ∷ xs) u long few =
      ap (put_each set_register (suc k) xs) (set-register_longer R n u t long some k x (omega arith))
      ∙ registers-longer (suc k) xs (set_register u k x) (length-set_register R u k x ∙ long) (omega arith)

  cells-longer : (i : ℕ) (cs : List ImageCell) (u : List ℕ) → length u ≡ pool_length R n → 0 < i → i + length cs ≤ suc n
      → put_each (put_fields R) i cs (u ++ t) ≡ put_each (put_fields R) i cs u ++ t
  unfolding put_each
  cells-longer i [] u long low few = refl
  cells-longer i (c ∷ cs) u long low few =
      ap (put_each (put_fields R) (suc i) cs) (put_cell_longer R n t some u long i (state_of_kind c.kind) c.left c.right c.value low (omega arith))
      ∙ cells-longer (suc i) cs (put_fields R u i c) (length-put_cell R u i low (state_of_kind c.kind) c.left c.right c.value ∙ long) (omega arith) (omega arith)

  module _ (u : List ℕ) (long : length u ≡ pool_length R n) (i : Image) (few : length i.cells ≤ n) (all : length i.registers ≡ R) where
    put_longer : (v : List ℕ) → length v ≡ pool_length R n → put_image R i (v ++ t) ≡ put_image R i v ++ t
    put_longer v same =
        ap (put_each (put_fields R) 1 i.cells) (registers-longer 0 i.registers v same (omega arith))
        ∙ cells-longer 1 i.cells (put_each set_register 0 i.registers v) (registers-length 0 i.registers v ∙ same) (omega arith) (omega arith)

    pub loaded-longer : loaded_words R n i (u ++ t) ≡ loaded_words R n i u ++ t
    loaded-longer =
        let keep : ℕ → Bool = λ j. leb j (length i.cells) in
        let start = blank R n t some u long in
        let whole = blank_long R n t some u long in
        ap (retain R n keep) (ap (put_image R i) (blank_longer R n u t long some) ∙ put_longer start whole)
        ∙ retain-longer R n (put_image R i start) t (cells-length R 1 i.cells _ (omega arith) ∙ (registers-length 0 i.registers start ∙ whole)) some keep
