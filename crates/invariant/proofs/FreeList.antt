-- The free list as a chain of free cells, and the chain of a pool that keeps some cells.
use Prim.Native.Nat.{ℕ, zero, suc, ◌+◌, ◌-◌, ◌<◌, ◌≤◌}
use native.Mathlib.Omega.{arith}
use native.Mathlib.Decide.{ℕ_discrete}
use mathlib.Core.Path.{◌≡◌, refl, sym, ap, ◌∙◌}
use mathlib.Core.Logic.{⊎_elim}
use mathlib.Core.List.Memᴰ
use mathlib.Core.List.{List, [], ◌∷◌, Memᴰ}
use mathlib.Core.Bool.{Bool, true, false, true≢false, false≢true}
use lib.ListN.{length}
use borrow.Author.Tests.{ne_eqb}
use Rattle.graph.specs.Theorems.{Distinct}
use Rattle.graph.proofs.Lists.{Each, each_nil, each_cons}
use Rattle.pool.specs.Layout.{register_count, pool_length, head, state, left}
use Rattle.pool.specs.States.{is_used, is_free}
use Rattle.pool.specs.Retain.{lowest_free, free_cells, chain_from, free_list, retain}
use Rattle.pool.proofs.States.{free_not_used}
use Rattle.pool.proofs.Retained.{retain-head, retain-cell}
use Rattle.pool.proofs.RetainedPool.{retained_used, retained_free}
use Rattle.invariant.specs.ReachedPools.{ExactFreeList}
use Rattle.invariant.proofs.Pigeonhole.{distinct-length}

-- No cell is both free and used.
pub free_or_used : (w : List ℕ) (i : ℕ) → is_free (state register_count w i) ≡ true → is_used (state register_count w i) ≡ true → ⊥
free_or_used w i free used = false≢true (sym (free_not_used (state register_count w i) free) ∙ used)

-- i is a free cell.
abbrev pub IsFree : ℕ → List ℕ → ℕ → Type 0
IsFree N w i = (0 < i) × (i ≤ N) × (is_free (state register_count w i) ≡ true)

-- From the link i on, left links lead through the free cells of the list l to nil.
pub data Chain (N : ℕ) (w : List ℕ) : ℕ → List ℕ → Type 0 where
  none : Chain N w 0 []
  link : {i : ℕ} {l : List ℕ} → 0 < i → i ≤ N → is_free (state register_count w i) ≡ true → Chain N w (left register_count w i) l
      → Chain N w i (i ∷ l)

-- The chain from the head has every free cell once.
pub record Free (N : ℕ) (w : List ℕ) : Type 0 where
  pub list : List ℕ
  pub chain : Chain N w (head w) list
  pub once : Distinct list
  pub all : (i : ℕ) → 0 < i → i ≤ N → is_free (state register_count w i) ≡ true → Memᴰ i list

-- A chain that does not start at nil: its first cell, which is not among the rest.
pub record First (N : ℕ) (w : List ℕ) (i : ℕ) (l : List ℕ) : Type 0 where
  pub high : i ≤ N
  pub free : is_free (state register_count w i) ≡ true
  pub rest : List ℕ
  pub split : l ≡ i ∷ rest
  pub chain : Chain N w (left register_count w i) rest
  pub new : Memᴰ i rest → ⊥
  pub once : Distinct rest

module _ {N : ℕ} {w : List ℕ} where
  pub chain_first : {i : ℕ} {l : List ℕ} → Chain N w i l → Distinct l → 0 < i → First N w i l
  chain_first none once some = absurd (omega arith)
  chain_first (link {l = l} low high free chain) (Distinct.more new once) some =
      record { high = high; free = free; rest = l; split = refl; chain = chain; new = new; once = once }

  pub chain-within : {i : ℕ} {l : List ℕ} → Chain N w i l → i ≤ N
  chain-within none = omega arith
  chain-within (link low high free rest) = high

  pub chain-free : {i : ℕ} {l : List ℕ} → Chain N w i l → Each (IsFree N w) l
  chain-free none = each_nil _
  chain-free (link low high free rest) = each_cons (IsFree N w) (low, high, free) (chain-free rest)

  -- A chain stays where its cells keep their states and left links.
  pub chain_same : (w' : List ℕ) {i : ℕ} {l : List ℕ} → Chain N w i l
      → Each (λ x. (state register_count w' x ≡ state register_count w x) × (left register_count w' x ≡ left register_count w x)) l → Chain N w' i l
  chain_same w' none same = none
  chain_same w' (link {i = i} {l = l} low high free rest) same =
      let here = same i (Memᴰ.head refl) in
      let behind : Chain N w' (left register_count w i) l = chain_same w' rest (λ x m. same x (Memᴰ.tail m)) in
      link {l = l} low high (rw here.0 free) (rw here.1 behind)

  -- The free list stays where the head, all states and the left links of free cells do.
  pub free-kept : (w' : List ℕ) → head w' ≡ head w → ((i : ℕ) → 0 < i → state register_count w' i ≡ state register_count w i)
      → ((i : ℕ) → 0 < i → is_free (state register_count w i) ≡ true → left register_count w' i ≡ left register_count w i) → Free N w → Free N w'
  free-kept w' first states lefts f =
      let chained = chain_same w' f.chain (λ x m.
      let here = chain-free f.chain x m in
      (states x here.0, lefts x here.0 here.2)) in
      record {
        list = f.list;
        chain = rw first chained;
        once = f.once;
        all = λ i low high s. f.all i low high (rw (states i low) at s);
      }

  -- Following left links finds the chain.
  chain_follow : (k : ℕ) {i : ℕ} {l : List ℕ} → Chain N w i l → length l ≤ k → chain_from register_count k w i ≡ l
  unfolding chain_from
  chain_follow zero none enough = refl
  chain_follow (suc k) none enough = refl
  chain_follow zero (link low high free rest) enough = absurd (omega arith)
  chain_follow (suc k) (link {i = i} low high free rest) enough =
      rw (ne_eqb i 0 (omega arith), chain_from) (ap (λ (t : List ℕ). i ∷ t) (chain_follow k rest (omega arith)))

  pub exact-free_list : Free N w → ExactFreeList N w
  exact-free_list f =
      let cells : Each (IsFree N w) f.list = chain-free f.chain in
      let short : length f.list ≤ N = distinct-length N f.once (λ x m. ((cells x m).0, (cells x m).1)) in
      let found : free_list register_count N w ≡ f.list = chain_follow N f.chain short in
      record { once = rw found f.once; free = rw found cells; all = rw found f.all }

-- The cells among the k from i on that are not kept: each once, and all of them.
record Dropped (keep : ℕ → Bool) (k i : ℕ) (l : List ℕ) : Type 0 where
  above : Each (λ x. i ≤ x) l
  once : Distinct l
  all : (x : ℕ) → i ≤ x → x < i + k → keep x ≡ false → Memᴰ x l

dropped : (keep : ℕ → Bool) (k i : ℕ) → Dropped keep k i (free_cells keep k i)
unfolding free_cells
dropped keep zero i = record { above = each_nil _; once = Distinct.none; all = λ x low high e. absurd (omega arith) }
dropped keep (suc k) i = go (keep i) refl (dropped keep k (suc i))
  where
    go : (t : Bool) → keep i ≡ t → Dropped keep k (suc i) (free_cells keep k (suc i))
        → Dropped keep (suc k) i (elim t [ true ↦ free_cells keep k (suc i) | false ↦ i ∷ free_cells keep k (suc i) ])
    go true kept rest =
        record {
          above = λ x m. omega (arith, rest.above x m);
          once = rest.once;
          all = λ x low high e.
              let other : x ≡ i → ⊥ = λ same. true≢false (sym kept ∙ (ap keep (sym same) ∙ e)) in
              rest.all x (omega (arith, other)) (omega arith) e;
        }
    go false free rest =
        record {
          above = λ x m. ⊎_elim (λ e. omega arith) (λ t. omega (arith, rest.above x t)) (Memᴰ.cases_cons m);
          once = Distinct.more (λ (m : Memᴰ i (free_cells keep k (suc i))). omega (arith, rest.above i m)) rest.once;
          all = λ x low high e. first x low high e (ℕ_discrete x i);
        }
      where
        first : (x : ℕ) → i ≤ x → x < i + suc k → keep x ≡ false → Dec (x ≡ i) → Memᴰ x (i ∷ free_cells keep k (suc i))
        first x low high e (yes same) = Memᴰ.head same
        first x low high e (no other) = Memᴰ.tail (rest.all x (omega arith) (omega arith) e)

module _ (N : ℕ) (keep : ℕ → Bool) (w : List ℕ) (some : 0 < N) (room : pool_length register_count N ≤ length w) where
  abbrev retained : List ℕ
  retained = retain register_count N keep w

  retained_chain : (k i : ℕ) → i + k ≡ N → Chain N retained (lowest_free keep k (suc i)) (free_cells keep k (suc i))
  unfolding lowest_free free_cells
  retained_chain zero i last = none
  retained_chain (suc k) i last = go (keep (suc i)) refl (retained_chain k (suc i) (omega arith))
    where
      go : (t : Bool) → keep (suc i) ≡ t → Chain N retained (lowest_free keep k (suc (suc i))) (free_cells keep k (suc (suc i)))
          → Chain N retained (lowest_free keep (suc k) (suc i)) (free_cells keep (suc k) (suc i))
      go true e rest = rw (e, lowest_free, free_cells) rest
      go false e rest =
          let behind : N - suc i ≡ k = omega arith in
          let next : left register_count retained (suc i) ≡ lowest_free keep k (suc (suc i)) =
          retain-cell register_count N keep w room (suc i) 1 (omega arith) (omega arith) (omega arith) ∙ rw (e, behind) in
          rw (e, lowest_free, free_cells)
          (link {i = suc i} {l = free_cells keep k (suc (suc i))} (omega arith) (omega arith)
          (ap is_free (retained_free register_count N keep w room (suc i) (omega arith) (omega arith) e)) (rw next rest))

  pub retained_exact : Free N retained
  retained_exact =
      let whole : N - 0 ≡ N = omega arith in
      record {
        list = free_cells keep N 1;
        chain = rw (retain-head register_count N keep w room some, whole) (retained_chain N 0 (omega arith));
        once = (dropped keep N 1).once;
        all = λ i low high free. (dropped keep N 1).all i low (omega arith) (not_kept i low high free (keep i) refl);
      }
    where
      not_kept : (i : ℕ) → 0 < i → i ≤ N → is_free (state register_count retained i) ≡ true → (t : Bool) → keep i ≡ t → keep i ≡ false
      not_kept i low high free true e = absurd (free_or_used retained i free (retained_used register_count N keep w room i low high e))
      not_kept i low high free false e = e
