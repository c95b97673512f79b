-- The laws of marking pass by pass, and that marks at which a pass changes nothing are exact.
use Prim.Native.Nat.{ℕ, ◌+◌, ◌-◌, ◌<◌, ◌≤◌}
use native.Mathlib.Omega.{arith}
use native.Mathlib.Decide.{ℕ_discrete}
use mathlib.Core.Path.{◌≡◌, refl, sym, subst, ◌∙◌}
use mathlib.Core.Logic.{inl, inr, ⊎_elim, ◌↔◌}
use mathlib.Core.Bool.{true}
use mathlib.Core.List.{List, Memᴰ}
use lib.ListN.{length, get_or, set}
use lib.Seq.{get_or-set_same, get_or-set_other}
use Rattle.graph.specs.Graph.{Reach, Within}
use Rattle.graph.specs.Marking.{marked_count}
use Rattle.graph.specs.Dfs.{mark}
use Rattle.graph.proofs.Marks.{mark_self, mark-keeps, mark_cases}
use Rattle.graph.proofs.Count.{marked-same, marked-mark, marked-le}
use Rattle.graph.proofs.Reached.{reach_least, reach_above, reach_within}
use Rattle.pool.specs.Layout.{register_count, register, link_of, graph_of, roots_of}
use Rattle.questions.specs.Validity.{well_formed}
use Rattle.pool.proofs.Every.{tabulate-member, member-tabulate}
use Rattle.questions.proofs.WellFormed.{well_formed_read}
use Rattle.questions.proofs.PoolGraph.{pool-within}
use Rattle.collector.specs.CollectTheorem.{Reached}
use Rattle.fixpoint_marker.specs.Marks.{Exact, Marked, OnlyReached, Rooted, Closed, LinkMarked, Grown}

module _ {n x : ℕ} (m : List ℕ) (positive : 0 < x) (bounded : x ≤ n) (room : n < length m) (unmarked : get_or m x 0 ≡ 0) where
  -- The marks after an unmarked cell is marked are those of the graph's theory.
  set-mark : (y : ℕ) → (0 < mark (λ z. get_or m z 0) x y) ↔ (0 < get_or (set m x 1) y 0)
  set-mark y = go (ℕ_discrete y x)
    where
      go : Dec (y ≡ x) → (0 < mark (λ z. get_or m z 0) x y) ↔ (0 < get_or (set m x 1) y 0)
      go (yes e) = (
        λ h. rw (e, get_or-set_same m x 1 0 (omega arith)) (omega arith),
        λ h. mark_self (λ z. get_or m z 0) x y e,
      )
      go (no e) = (
        λ h. ⊎_elim (λ q. absurd (e q)) (λ q. rw (get_or-set_other m x y 1 0 e) q) (mark_cases (λ z. get_or m z 0) x y h),
        λ h. mark-keeps (λ z. get_or m z 0) x y (rw (get_or-set_other m x y 1 0 e) at h),
      )

  pub linked-set : LinkMarked n x m (set m x 1) 1
  linked-set =
      record {
        keeps = λ y h. (set-mark y).0 (mark-keeps (λ z. get_or m z 0) x y h);
        only = λ y h. ⊎_elim (λ e. inr (e, omega arith)) inl (mark_cases (λ z. get_or m z 0) x y ((set-mark y).1 h));
        count =
            omega (
              arith,
              marked-mark n (λ z. get_or m z 0) x positive bounded unmarked,
              marked-same n (mark (λ z. get_or m z 0) x) (λ z. get_or (set m x 1) z 0) (λ y h k. set-mark y),
            );
        still = λ e. absurd (omega arith);
        done = λ h k. (set-mark x).0 (mark_self (λ z. get_or m z 0) x x refl);
        small = omega arith;
      }

module _ (n : ℕ) (w : List ℕ) where
  pub grown_none : (m : List ℕ) → Grown n w m m 0
  grown_none m = record { keeps = λ y k. k; only = λ s. s; count = omega arith; still = λ e. refl }

  -- A link that leads to a reached cell.
  pub linked_grown : {x k : ℕ} {m m' : List ℕ} → LinkMarked n x m m' k → (OnlyReached w m → 0 < x → Reached w x) → Grown n w m m' k
  linked_grown {x} {k} {m} {m'} l reached =
      record {
        keeps = l.keeps;
        only = λ s y h. ⊎_elim (s y) (λ e. subst (Reached w) (sym e.0) (reached s (omega (arith, e.0, e.1)))) (l.only y h);
        count = l.count;
        still = l.still;
      }

  pub grown_more : {m m' m'' : List ℕ} {a b : ℕ} → Grown n w m m' a → Grown n w m' m'' b → Grown n w m m'' (a + b)
  grown_more f g =
      record {
        keeps = λ y h. g.keeps y (f.keeps y h);
        only = λ s. g.only (f.only s);
        count = omega (arith, f.count, g.count);
        still = λ e. g.still (omega arith) ∙ f.still (omega arith);
      }

  -- Both links x and y of a marked cell, one after the other.
  pub grown_links : (i : ℕ) {x y a b : ℕ} {m m' m'' : List ℕ} → x ≡ link_of register_count w i 1 → y ≡ link_of register_count w i 2 → 0 < get_or m i 0
      → LinkMarked n x m m' a → LinkMarked n y m' m'' b → Grown n w m m'' (a + b) × Closed n w m'' i
  grown_links i {x} {y} {m'' = m''} ex ey h l r = (
    grown_more (linked_grown l (λ s p. by_left (s i h) p)) (linked_grown r (λ s p. by_right (s i (l.keeps i h)) p)),
    λ _. (
      subst (λ (z : ℕ). Marked n m'' z) ex (λ p q. r.keeps x (l.done p q)),
      subst (λ (z : ℕ). Marked n m'' z) ey r.done,
    ),
  )
    where
      by_left : Reached w i → 0 < x → Reached w x
      by_left reached p = rw ex (Reach.left reached (rw ex at p))

      by_right : Reached w i → 0 < y → Reached w y
      by_right reached p = rw ey (Reach.right reached (rw ey at p))

  pub grown_fits : {m m' : List ℕ} {k : ℕ} → Grown n w m m' k → marked_count n (λ y. get_or m y 0) + k ≤ n
  grown_fits {m} {m'} g = omega (arith, g.count, marked-le n (λ y. get_or m' y 0))

  -- A pass over the cells from n down, so far to i: the marks grew, and where nothing was newly marked, the cells above i are closed.
  pub record Passed (m₀ m : List ℕ) (found i : ℕ) : Type 0 where
    pub grown : Grown n w m₀ m found
    pub above : found ≡ 0 → (j : ℕ) → i < j → j ≤ n → Closed n w m j

  pub passed_more : {m₀ m m' : List ℕ} {found k : ℕ} (i : ℕ) → 0 < i → Passed m₀ m found i → Grown n w m m' k × Closed n w m' (i - 1 + 1)
      → Passed m₀ m' (found + k) (i - 1)
  passed_more {m₀} {m} {m'} {found} {k} i some p (g, closed) = record { grown = grown_more p.grown g; above = above }
    where
      above : found + k ≡ 0 → (j : ℕ) → i - 1 < j → j ≤ n → Closed n w m' j
      above e j low high = go (ℕ_discrete j i)
        where
          go : Dec (j ≡ i) → Closed n w m' j
          go (yes same) = let this : i - 1 + 1 ≡ j = omega arith in rw this at closed
          go (no other) = rw (g.still (omega arith)) (p.above (omega arith) j (omega arith) high)

  -- The registers so far to k: only what is reached was marked, and their links are marked.
  pub record Started (m₀ m : List ℕ) (k : ℕ) : Type 0 where
    pub sound : OnlyReached w m₀ → OnlyReached w m
    pub below : (j : ℕ) → j < k → Marked n m (register w j)

  pub started_more : {m₀ m m' : List ℕ} {x a : ℕ} (k : ℕ) → k < register_count → x ≡ register w k → Started m₀ m k → LinkMarked n x m m' a
      → Started m₀ m' (k + 1)
  started_more {m' = m'} {x = x} k low e s l =
      record {
        sound = λ t. (linked_grown l (λ _ p. Reach.root (rw e (member-tabulate register_count (λ j. register w j) k low)) p)).only (s.sound t);
        below = below;
      }
    where
      below : (j : ℕ) → j < k + 1 → Marked n m' (register w j)
      below j h = go (ℕ_discrete j k)
        where
          go : Dec (j ≡ k) → Marked n m' (register w j)
          go (yes same) = rw same (subst (λ (z : ℕ). Marked n m' z) e l.done)
          go (no other) = λ p q. l.keeps (register w j) (s.below j (omega arith) p q)

  pub grown_rooted : {m m' : List ℕ} {k : ℕ} → Grown n w m m' k → Rooted n w m → Rooted n w m'
  grown_rooted g rooted k low p q = g.keeps (register w k) (rooted k low p q)

  -- Marks that hold only what is reached, and the registers' cells, are exact after a pass that closes every cell.
  pub exact : {m₀ m : List ℕ} {k : ℕ} → Grown n w m₀ m k → OnlyReached w m₀ → Rooted n w m₀ → ((i : ℕ) → 0 < i → i ≤ n → Closed n w m i)
      → well_formed register_count n w ≡ true → Exact n w m
  exact {m₀} {m} g sound₀ rooted closed well x positive bounded = (sound x, reach_least (λ y. 0 < get_or m y 0) roots links)
    where
      sound : OnlyReached w m
      sound = g.only sound₀

      within : Within n (graph_of register_count w) (roots_of register_count w)
      within = pool-within (well_formed_read register_count n w well)

      roots : (y : ℕ) → Memᴰ y (roots_of register_count w) → 0 < y → 0 < get_or m y 0
      roots y mem h =
          let (k, low, e) = tabulate-member register_count (λ k. register w k) y mem in
          let known : Marked n m y = rw e (grown_rooted g rooted k low) in
          known h (within.root y mem)

      links : (y : ℕ) → 0 < get_or m y 0
          → (0 < link_of register_count w y 1 → 0 < get_or m (link_of register_count w y 1) 0) × (0 < link_of register_count w y 2 → 0 < get_or m (link_of register_count w y 2) 0)
      links y h =
          let reached : Reached w y = sound y h in
          let both = closed y (reach_above reached) (reach_within within reached) h in
          (λ p. both.0 p (within.left y reached), λ p. both.1 p (within.right y reached))
