-- The words of a retained pool, field by field, and how they come about, cell by cell.
use Prim.Native.Nat.{ℕ, zero, suc, ◌+◌, ◌-◌, ◌/◌, ◌%◌, ◌<◌, ◌≤◌}
use native.Mathlib.Omega.{arith}
use native.Mathlib.Decide.{dec_le, dec_lt, ℕ_discrete}
use mathlib.Core.Path.{◌≡◌, refl, sym, ap, ◌∙◌}
use mathlib.Core.List.{List}
use mathlib.Core.Bool.{Bool, true, false, cond, ◌||◌}
use lib.ListN.{length, get_or, get_or-eq_default}
use lib.Seq.{get_or-set_same, get_or-set_other}
use lib.Dec.{ltb, leb}
use borrow.Author.Tests.{lt-ltb, le-ltb, le-leb, lt-leb, ne_eqb}
use Rattle.pool.specs.Words.{tabulate}
use Rattle.pool.specs.Layout.{first_register, first_cell, pool_length, cell_at, cell, set_cell, set_node, put_cell, head, set_head, count, register}
use Rattle.pool.specs.States.{free_state}
use Rattle.pool.specs.Retain.{lowest_free, free_above, kept_field, free_field, retained_field, retained_word, retain, kept_count}
use Rattle.pool.proofs.Laws.{length-set_head}
use Rattle.pool.proofs.Node.{written, length-put_cell, cell-put_cell, cell-put_cell_other}
use Rattle.pool.proofs.Every.{length-tabulate, get_or-tabulate, tabulate-list, tabulate_cong}

-- the first of several cells is kept, or is the lowest free one
lowest_step : (keep : ℕ → Bool) (k i : ℕ) (t : Bool) → keep i ≡ t
    → ◌≡◌ {A = ℕ} (lowest_free keep (suc k) i) (elim t [ true ↦ lowest_free keep k (suc i) | false ↦ i ])
unfolding lowest_free
lowest_step keep k i t e = ap (λ (b : Bool). elim b as (λ x. ℕ) [ true ↦ lowest_free keep k (suc i) | false ↦ i ]) e

-- the lowest free cell above i, where the next cell is kept, and where it is not
module _ (keep : ℕ → Bool) (n i : ℕ) (here : i < n) where
  one_more : free_above keep n i ≡ lowest_free keep (suc (n - suc i)) (suc i)
  one_more = ap (λ (k : ℕ). lowest_free keep k (suc i)) (omega arith)

  pub free-kept : keep (suc i) ≡ true → free_above keep n i ≡ free_above keep n (suc i)
  free-kept e = one_more ∙ lowest_step keep (n - suc i) (suc i) true e

  pub free_here : keep (suc i) ≡ false → free_above keep n i ≡ suc i
  free_here e = one_more ∙ lowest_step keep (n - suc i) (suc i) false e

-- a freed cell, field by field
free-cell : (R : ℕ) (w : List ℕ) (i next : ℕ) → 0 < i → (keep : ℕ → Bool) (n f : ℕ) → f < 4 → pool_length R i ≤ length w → next ≡ free_above keep n i
    → cell R (put_cell R w i free_state next 0 0) i f ≡ free_field keep n i f
free-cell R w i next positive keep n f hf room e = cell-put_cell R w i positive free_state next 0 0 f hf room ∙ field f
  where
    field : (f : ℕ) → written free_state next 0 0 f ≡ free_field keep n i f
    field zero = refl
    field (suc zero) = e
    field (suc (suc zero)) = refl
    field (suc (suc (suc f))) = refl

-- a word that is no cell's
abbrev pub Elsewhere : ℕ → ℕ → ℕ → Type 0
Elsewhere R n k = (j f : ℕ) → 0 < j → j ≤ n → f < 4 → k ≡ cell_at R j f → ⊥

pub set_cell_elsewhere : (R n : ℕ) (w : List ℕ) (i f v k : ℕ) → 0 < i → i ≤ n → f < 4 → Elsewhere R n k
    → get_or (set_cell R w i f v) k 0 ≡ get_or w k 0
unfolding set_cell
set_cell_elsewhere R n w i f v k low high hf away = get_or-set_other w (cell_at R i f) k v 0 (away i f low high hf)

pub put_cell_elsewhere : (R n : ℕ) (w : List ℕ) (i s l r v k : ℕ) → 0 < i → i ≤ n → Elsewhere R n k
    → get_or (put_cell R w i s l r v) k 0 ≡ get_or w k 0
put_cell_elsewhere R n w i s l r v k low high away =
    field (set_node R w i s l r) 3 v (omega arith)
    ∙ (field (set_cell R (set_cell R w i 0 s) i 1 l) 2 r (omega arith) ∙ (field (set_cell R w i 0 s) 1 l (omega arith) ∙ field w 0 s (omega arith)))
  where
    field : (w : List ℕ) (f v : ℕ) → f < 4 → get_or (set_cell R w i f v) k 0 ≡ get_or w k 0
    field w f v hf = set_cell_elsewhere R n w i f v k low high hf away

-- which word the place k is: the head, a word that stays, or a field of a cell
pub data Place (R n k : ℕ) : Type 0 where
  first : k ≡ 1 → Place R n k
  stays : (k ≡ 1 → ⊥) → Elsewhere R n k → (ltb k (first_cell R) || leb (pool_length R n) k) ≡ true → Place R n k
  field : (i f : ℕ) → 0 < i → i ≤ n → f < 4 → k ≡ cell_at R i f → Place R n k

pub place : (R n k : ℕ) → Place R n k
place R n k = go (ℕ_discrete k 1) (dec_lt k (first_cell R)) (dec_le (pool_length R n) k)
  where
    go : Dec (k ≡ 1) → Dec (k < first_cell R) → Dec (pool_length R n ≤ k) → Place R n k
    go (yes e) low high = Place.first e
    go (no other) (yes low) high = Place.stays other (λ j f hj top hf e. omega arith) (simp (lt-ltb k (first_cell R) low))
    go (no other) (no low) (yes high) =
        Place.stays other (λ j f hj top hf e. omega arith) (simp (le-ltb k (first_cell R) (omega arith), le-leb (pool_length R n) k high))
    go (no other) (no low) (no high) =
        Place.field (suc ((k - (first_cell R)) / 4)) ((k - (first_cell R)) % 4) (omega arith) (omega arith) (omega arith) (omega arith)

-- the words after the turns for the cells n to i + 1, of a loop that keeps some cells and frees the others
pub record Swept (R n : ℕ) (keep : ℕ → Bool) (w₀ w : List ℕ) (i : ℕ) : Type 0 where
  pub len : length w ≡ length w₀
  pub elsewhere : (k : ℕ) → Elsewhere R n k → get_or w k 0 ≡ get_or w₀ k 0
  pub below : (j f : ℕ) → 0 < j → j ≤ i → f < 4 → cell R w j f ≡ cell R w₀ j f
  pub above : (j f : ℕ) → i < j → j ≤ n → f < 4 → cell R w j f ≡ retained_field R n keep w₀ j f

module _ (R n : ℕ) (keep : ℕ → Bool) (w₀ : List ℕ) where
  pub swept_none : Swept R n keep w₀ w₀ n
  swept_none =
      record { len = refl; elsewhere = λ k away. refl; below = λ j f hj low hf. refl; above = λ j f low high hf. absurd (omega arith) }

  module _ (w : List ℕ) (i : ℕ) (here : i < n) (room : pool_length R n ≤ length w₀) (s : Swept R n keep w₀ w (suc i)) where
    pub swept-free : (next : ℕ) → keep (suc i) ≡ false → next ≡ free_above keep n (suc i) → Swept R n keep w₀ (put_cell R w (suc i) free_state next 0 0) i
    swept-free next e chain =
        record {
          len = length-put_cell R w (suc i) (omega arith) free_state next 0 0 ∙ s.len;
          elsewhere = λ k away. put_cell_elsewhere R n w (suc i) free_state next 0 0 k (omega arith) here away ∙ s.elsewhere k away;
          below = λ j f hj low hf.
              cell-put_cell_other R w (suc i) (omega arith) free_state next 0 0 j f hj hf (λ q. omega arith) ∙ s.below j f hj (omega arith) hf;
          above = λ j f low high hf. go j f low high hf (ℕ_discrete j (suc i));
        }
      where
        go : (j f : ℕ) → i < j → j ≤ n → f < 4 → Dec (j ≡ suc i) → cell R (put_cell R w (suc i) free_state next 0 0) j f ≡ retained_field R n keep w₀ j f
        go j f low high hf (yes same) =
            rw (same, e) (free-cell R w (suc i) next (omega arith) keep n f hf (omega (arith, s.len)) chain)
        go j f low high hf (no other) =
            cell-put_cell_other R w (suc i) (omega arith) free_state next 0 0 j f (omega arith) hf other ∙ s.above j f (omega arith) high hf

  -- the rule of the retained words at a word that stays and at a field of a cell
  pub word_stays : (k : ℕ) → (k ≡ 1 → ⊥) → (ltb k (first_cell R) || leb (pool_length R n) k) ≡ true → retained_word R n keep w₀ k ≡ get_or w₀ k 0
  word_stays k other test = simp (ne_eqb k 1 other, test)

  pub word_field : (i f : ℕ) → 0 < i → i ≤ n → f < 4 → retained_word R n keep w₀ (cell_at R i f) ≡ retained_field R n keep w₀ i f
  word_field i f hi high hf =
      let number : suc ((cell_at R i f - (first_cell R)) / 4) ≡ i = omega arith in
      let field : (cell_at R i f - (first_cell R)) % 4 ≡ f = omega arith in
      simp (
        ne_eqb (cell_at R i f) 1 (λ e. omega arith),
        le-ltb (cell_at R i f) (first_cell R) (omega arith),
        lt-leb (pool_length R n) (cell_at R i f) (omega arith),
        number,
        field,
      )

  -- after the last turn, with the head in place, the words are those of the retained pool
  pub swept_all : (w : List ℕ) → pool_length R n ≤ length w₀ → Swept R n keep w₀ w 0 → set_head w (free_above keep n 0) ≡ retain R n keep w₀
  unfolding retain set_head cell
  swept_all w room s =
      tabulate-list (length w₀) (retained_word R n keep w₀) (set_head w (free_above keep n 0)) (length-set_head R w _ ∙ s.len) λ k below. at k (place R n k)
    where
      same : (k : ℕ) → (k ≡ 1 → ⊥) → get_or (set_head w (free_above keep n 0)) k 0 ≡ get_or w k 0
      same k other = get_or-set_other w 1 k _ 0 other

      at : (k : ℕ) → Place R n k → get_or (set_head w (free_above keep n 0)) k 0 ≡ retained_word R n keep w₀ k
      at k (Place.first e) = rw e (get_or-set_same w 1 (free_above keep n 0) 0 (omega (arith, s.len)))
      at k (Place.stays other away test) = same k other ∙ (s.elsewhere k away ∙ sym (word_stays k other test))
      at k (Place.field i f low high hf e) =
          same k (λ q. omega arith) ∙ rw e (s.above i f low high hf ∙ sym (word_field i f low high hf))

  -- the retained pool, read
  pub length-retain : length (retain R n keep w₀) ≡ length w₀
  unfolding retain
  length-retain = length-tabulate (length w₀) (retained_word R n keep w₀)

  module _ (room : pool_length R n ≤ length w₀) where
    pub retain-head : 0 < n → head (retain R n keep w₀) ≡ free_above keep n 0
    unfolding retain head
    retain-head some = get_or-tabulate (length w₀) (retained_word R n keep w₀) 1 0 (omega arith)

    pub retain-count : count (retain R n keep w₀) ≡ count w₀
    unfolding retain count
    retain-count = get_or-tabulate (length w₀) (retained_word R n keep w₀) 0 0 (omega arith) ∙ word_stays 0 (λ e. omega arith) (simp (lt-ltb 0 (first_cell R) (omega arith)))

    pub retain-register : (k : ℕ) → k < R → register (retain R n keep w₀) k ≡ register w₀ k
    unfolding retain register
    retain-register k low =
        get_or-tabulate (length w₀) (retained_word R n keep w₀) (first_register + k) 0 (omega arith) ∙ word_stays (first_register + k) (λ e. omega arith) (simp (lt-ltb (first_register + k) (first_cell R) (omega arith)))

    pub retain_elsewhere : (k : ℕ) → (k ≡ 1 → ⊥) → Elsewhere R n k → get_or (retain R n keep w₀) k 0 ≡ get_or w₀ k 0
    unfolding retain
    retain_elsewhere k other away = go (dec_lt k (length w₀)) (place R n k)
      where
        go : Dec (k < length w₀) → Place R n k → get_or (retain R n keep w₀) k 0 ≡ get_or w₀ k 0
        go (yes below) (Place.first e) = absurd (other e)
        go (yes below) (Place.stays q r test) = get_or-tabulate (length w₀) (retained_word R n keep w₀) k 0 below ∙ word_stays k other test
        go (yes below) (Place.field i f low high hf e) = absurd (away i f low high hf e)
        go (no past) p =
            get_or-eq_default (retain R n keep w₀) 0 (omega (arith, length-retain)) ∙ sym (get_or-eq_default w₀ 0 (omega arith))

    pub retain-cell : (i f : ℕ) → 0 < i → i ≤ n → f < 4 → cell R (retain R n keep w₀) i f ≡ retained_field R n keep w₀ i f
    unfolding retain cell
    retain-cell i f low high hf =
        get_or-tabulate (length w₀) (retained_word R n keep w₀) (cell_at R i f) 0 (omega arith) ∙ word_field i f low high hf

-- at most all cells are kept
pub kept-most : (keep : ℕ → Bool) (n : ℕ) → kept_count keep n ≤ n
unfolding kept_count
kept-most keep zero = omega arith
kept-most keep (suc n) = go (keep (suc n)) (kept-most keep n)
  where
    go : (t : Bool) → kept_count keep n ≤ n → cond t 1 0 + kept_count keep n ≤ suc n
    go true h = omega arith
    go false h = omega arith

-- the lowest free cell, and the number of kept ones, are the same where the same cells from 1 to n are kept
lowest_cong : (keep keep' : ℕ → Bool) (k i : ℕ) → ((j : ℕ) → i ≤ j → j < i + k → keep j ≡ keep' j) → lowest_free keep k i ≡ lowest_free keep' k i
unfolding lowest_free
lowest_cong keep keep' zero i same = refl
lowest_cong keep keep' (suc k) i same =
    let here : keep i ≡ keep' i = same i (omega arith) (omega arith) in
    rw (here, lowest_free) (ap (λ (x : ℕ). elim (keep' i) as (λ t. ℕ) [ true ↦ x | false ↦ i ]) (lowest_cong keep keep' k (suc i) λ j low high. same j (omega arith) (omega arith)))

pub kept_cong : (keep keep' : ℕ → Bool) (n : ℕ) → ((j : ℕ) → 0 < j → j ≤ n → keep j ≡ keep' j) → kept_count keep n ≡ kept_count keep' n
unfolding kept_count
kept_cong keep keep' zero same = refl
kept_cong keep keep' (suc n) same =
    rw (same (suc n) (omega arith) (omega arith), kept_cong keep keep' n λ j low high. same j low (omega arith))

-- two pools retain the same words where the same cells are kept, of the same kinds, links and values, and all that stays is the same
pub retain_cong : (R n : ℕ) (keep keep' : ℕ → Bool) (w w' : List ℕ) → length w ≡ length w'
    → ((j : ℕ) → 0 < j → j ≤ n → keep j ≡ keep' j)
    → ((k : ℕ) → (k ≡ 1 → ⊥) → Elsewhere R n k → get_or w k 0 ≡ get_or w' k 0)
    → ((j f : ℕ) → 0 < j → j ≤ n → f < 4 → keep j ≡ true → kept_field R w j f ≡ kept_field R w' j f)
    → retain R n keep w ≡ retain R n keep' w'
unfolding retain
retain_cong R n keep keep' w w' len same stay kept =
    ap (λ (l : ℕ). tabulate l (retained_word R n keep w)) len
    ∙ tabulate_cong (length w') (retained_word R n keep w) (retained_word R n keep' w') λ k below. at k (place R n k)
  where
    chain : (i : ℕ) → free_above keep n i ≡ free_above keep' n i
    chain i = lowest_cong keep keep' (n - i) (suc i) λ j low high. same j (omega arith) (omega arith)

    free : (i f : ℕ) → free_field keep n i f ≡ free_field keep' n i f
    free i zero = refl
    free i (suc zero) = chain i
    free i (suc (suc f)) = refl

    fields : (i f : ℕ) → 0 < i → i ≤ n → f < 4 → (t : Bool) → keep i ≡ t → retained_field R n keep w i f ≡ retained_field R n keep' w' i f
    fields i f low high hf true e = rw (← same i low high, e) (kept i f low high hf e)
    fields i f low high hf false e = rw (← same i low high, e) (free i f)

    at : (k : ℕ) → Place R n k → retained_word R n keep w k ≡ retained_word R n keep' w' k
    at k (Place.first e) = rw e (chain 0)
    at k (Place.stays other away test) = word_stays R n keep w k other test ∙ (stay k other away ∙ sym (word_stays R n keep' w' k other test))
    at k (Place.field i f low high hf e) =
        rw e (word_field R n keep w i f low high hf ∙ (fields i f low high hf (keep i) refl ∙ sym (word_field R n keep' w' i f low high hf)))
