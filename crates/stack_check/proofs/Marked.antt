-- The words of a pool in which some cells are marked: what a look at a cell finds, and what marking its unmarked links changes.
use Prim.Native.Nat.{ℕ, zero, suc, ◌+◌, ◌-◌, ◌<◌, ◌≤◌}
use native.Mathlib.Omega.{arith}
use mathlib.Core.Path.{◌≡◌, refl, sym, ap, subst, ◌∙◌}
use mathlib.Core.Logic.{◌↔◌, ⊎_elim}
use mathlib.Core.List.{List, [], ◌∷◌, ◌++◌, Memᴰ}
use mathlib.Core.Bool.{Bool, true, false, true≢false, cond, ◌&&◌, not}
use lib.ListN.{length}
use lib.Dec.{leb}
use borrow.Author.Tests.{eq-eqb, ne_eqb}
use Rattle.graph.specs.Graph.{Reach, Within}
use Rattle.graph.specs.Preorder.{elem}
use Rattle.graph.specs.Marking.{marked_count}
use Rattle.graph.specs.Dfs.{marks}
use Rattle.graph.specs.Theorems.{Distinct}
use Rattle.graph.proofs.Lists.{Each, has_member, member_has}
use Rattle.graph.proofs.Reached.{reach_above, reach_within}
use Rattle.graph.proofs.Marks.{marks-member, marks_cases, marks-keeps}
use Rattle.graph.proofs.Count.{marked-same}
use Rattle.pool.specs.Layout.{pool_length, cell, state, is_point_at, link_of, graph_of, roots_of}
use Rattle.pool.specs.States.{marked_point_state, is_point, is_used, is_marked}
use Rattle.pool.proofs.States.{marked-point_is, marked-pair_other, marked_not_used, used_not_marked}
use Rattle.pool.proofs.Links.{link-pair, link-point}
use Rattle.questions.proofs.WellFormed.{WellFormed, well_formed_read}
use Rattle.questions.proofs.PoolGraph.{Used, reached-used, pool-within}
use Rattle.visit.specs.Visit.{unmarked}
use Rattle.reversal.specs.ReversalTheorem.{mark_all}
use Rattle.reversal.proofs.Agreement.{unmarked-state}
use Rattle.reversal.proofs.MarkAll.{mark_all-append, length-mark_all, link-mark_all, state-mark_all_same, state-mark_all_other}
use Rattle.reversal.proofs.PoolMarks.{state_marks, state_marks_used, state_marks_other}
use Rattle.stack_algorithm.specs.Stack.{is_unmarked, unmarked_links, onward}
use Rattle.stack_algorithm.specs.Steps.{Going}
use Rattle.stack_algorithm.proofs.Fresh.{member-fresh, other_fresh, marked_all, passing}
use Rattle.stack_algorithm.proofs.Going.{turn}
use Rattle.stack_check.specs.declared.Onward.{Onward}
use Rattle.stack_check.specs.Steps.{UsedOrMarked, links_of, onward_in, Pending}

-- the links of an answer, by its case
pub links_told : {o o' : Onward} {links : List ℕ} → o ≡ o' → links_of o ≡ links → links_of o' ≡ links
links_told is told = ap links_of (sym is) ∙ told

-- the two tests decide which links the marker goes on to
pub look_made : (R p : ℕ) (w : List ℕ) (l r : ℕ) {a b : Bool} → l ≡ link_of R w p 1 → r ≡ link_of R w p 2 → a ≡ unmarked R w l → b ≡ unmarked R w r
    → unmarked_links a b l r ≡ onward_in R w p
look_made R p w l r el er ea eb = rw (ea, eb, el, er)

-- a point has none
pub look_point : (R p : ℕ) (w : List ℕ) {s : ℕ} → s ≡ state R w p → s ≡ marked_point_state → [] ≡ onward_in R w p
look_point R p w own e =
    let point : is_point_at R w p ≡ true = ap is_point (sym own) ∙ (marked-point_is _ e).1 in
    look_made R p w 0 0 {a = false} {b = false} (sym (link-point R w p 1 point)) (sym (link-point R w p 2 point)) refl refl

-- and a pair those that its fields hold
pub look_read : (R p : ℕ) (w : List ℕ) {s : ℕ} → s ≡ state R w p → is_marked s ≡ true → (s ≡ marked_point_state → ⊥) → (f : ℕ) {l : ℕ} → l ≡ cell R w p f → l ≡ link_of R w p f
look_read R p w own marked other f e = e ∙ sym (link-pair R w p f (ap is_point (sym own) ∙ marked-pair_other _ marked other))

-- where both are unmarked, whether they are equal does
pub look_equal : (R p : ℕ) (w : List ℕ) (l r : ℕ) → l ≡ link_of R w p 1 → r ≡ link_of R w p 2 → true ≡ unmarked R w l → l ≡ r → l ∷ [] ≡ onward_in R w p
look_equal R p w l r el er ea same = rw (eq-eqb l r same) at (look_made R p w l r {a = true} {b = true} el er ea (ea ∙ ap (unmarked R w) same))

pub look_both : (R p : ℕ) (w : List ℕ) (l r : ℕ) → l ≡ link_of R w p 1 → r ≡ link_of R w p 2 → true ≡ unmarked R w l → true ≡ unmarked R w r → (l ≡ r → ⊥)
    → l ∷ r ∷ [] ≡ onward_in R w p
look_both R p w l r el er ea eb apart = rw (ne_eqb l r apart) at (look_made R p w l r {a = true} {b = true} el er ea eb)

-- and two that it finds are not equal
pub new_apart : (R p : ℕ) (w : List ℕ) (l r : ℕ) → l ∷ r ∷ [] ≡ onward_in R w p → l ≡ r → ⊥
new_apart R p w l r found same = go (subst Distinct (sym found) (passing (unmarked R w) (link_of R w p 1) (link_of R w p 2)).distinct)
  where
    go : Distinct (l ∷ r ∷ []) → ⊥
    go (Distinct.more out rest) = out (mathlib.Core.List.Memᴰ.head same)

-- The words w are the pool's with some cells marked, of which these are pending.
pub record Marked (R : ℕ) (pool w pending : List ℕ) : Type 0 where
  pub seen : List ℕ
  pub words : w ≡ mark_all R pool seen
  pub going : Going (graph_of R pool) (roots_of R pool) seen pending

module _ (R n : ℕ) (pool : List ℕ) (well : WellFormed R n pool) (room : pool_length R n ≤ length pool) where
  within : Within n (graph_of R pool) (roots_of R pool)
  within = pool-within well

  -- the test of a link in the words tells whether it is marked
  pub test : (seen : List ℕ) → Each (Reach (graph_of R pool) (roots_of R pool)) seen → (x : ℕ) → (0 < x → Reach (graph_of R pool) (roots_of R pool) x) → unmarked R (mark_all R pool seen) x ≡ is_unmarked seen x
  test seen cells zero reach = refl
  test seen cells (suc x) reach = go (elem (suc x) seen) refl
    where
      positive : (y : ℕ) → Memᴰ y seen → 0 < y
      positive y mem = reach_above (cells y mem)

      used : Used R n pool (suc x)
      used = reached-used well (reach (omega arith))

      go : (t : Bool) → elem (suc x) seen ≡ t → unmarked R (mark_all R pool seen) (suc x) ≡ is_unmarked seen (suc x)
      go true e =
          let mem = member_has (suc x) seen e in
          let marked = state-mark_all_same R (suc x) (omega arith) seen positive mem pool (omega (arith, used.bounded)) in
          rw (member-fresh seen (suc x) mem, ne_eqb (suc x) 0 (omega arith), marked_not_used (state R (mark_all R pool seen) (suc x)) marked)
      go false e =
          let out : Memᴰ (suc x) seen → ⊥ = λ mem. true≢false (sym (has_member (suc x) mem) ∙ e) in
          let free = ap is_used (state-mark_all_other R (suc x) (omega arith) seen positive out pool) ∙ used.state in
          rw (other_fresh seen (suc x) (omega arith) out, ne_eqb (suc x) 0 (omega arith), free)

  -- every link leads to a used cell or a marked one
  kinds : (seen : List ℕ) → Each (Reach (graph_of R pool) (roots_of R pool)) seen → (x : ℕ) → (0 < x → Reach (graph_of R pool) (roots_of R pool) x) → UsedOrMarked R (mark_all R pool seen) x
  kinds seen cells x reach some = go (elem x seen) refl
    where
      positive : (y : ℕ) → Memᴰ y seen → 0 < y
      positive y mem = reach_above (cells y mem)

      used : Used R n pool x
      used = reached-used well (reach some)

      go : (t : Bool) → elem x seen ≡ t → is_used (state R (mark_all R pool seen) x) ≡ not (is_marked (state R (mark_all R pool seen) x))
      go true e =
          let marked = state-mark_all_same R x some seen positive (member_has x seen e) pool (omega (arith, used.bounded)) in
          rw (marked, marked_not_used (state R (mark_all R pool seen) x) marked)
      go false e =
          let same = state-mark_all_other R x some seen positive (λ mem. true≢false (sym (has_member x mem) ∙ e)) pool in
          rw same (rw (used.state, used_not_marked (state R pool x) used.state))

  links : (seen : List ℕ) → Each (Reach (graph_of R pool) (roots_of R pool)) seen → (p : ℕ) → Reach (graph_of R pool) (roots_of R pool) p → onward_in R (mark_all R pool seen) p ≡ onward (graph_of R pool) seen p
  links seen cells p reach =
      let fits : pool_length R p ≤ length pool = omega (arith, reach_within within reach) in
      rw (
        link-mark_all R p 1 (reach_above reach) (omega arith) (omega arith) seen (λ y mem. reach_above (cells y mem)) pool fits,
        link-mark_all R p 2 (reach_above reach) (omega arith) (omega arith) seen (λ y mem. reach_above (cells y mem)) pool fits,
        test seen cells (link_of R pool p 1) (Reach.left reach),
        test seen cells (link_of R pool p 2) (Reach.right reach),
      )

  module _ {w : List ℕ} where
    pub marked-length : {pending : List ℕ} → Marked R pool w pending → length w ≡ length pool
    marked-length s = ap length s.words ∙ length-mark_all R pool s.seen

    -- what is pending is a reached cell, and its links are those of the pool
    pending_reached : {p : ℕ} {others : List ℕ} → Marked R pool w (p ∷ others) → Reach (graph_of R pool) (roots_of R pool) p
    pending_reached {p} s = s.going.cells p (s.going.held p (mathlib.Core.List.Memᴰ.head refl))

    pub pending_cell : {p : ℕ} {others : List ℕ} → Marked R pool w (p ∷ others)
        → (0 < p) × (p ≤ n) × (link_of R w p 1 ≤ n) × (link_of R w p 2 ≤ n) × (pool_length R n ≤ length w)
    pending_cell {p} s =
        let reach = pending_reached s in
        let link : (f : ℕ) → 0 < f → f < 4 → link_of R w p f ≡ link_of R pool p f = λ f low high.
        ap (λ (v : List ℕ). link_of R v p f) s.words
        ∙ link-mark_all R p f (reach_above reach) low high s.seen (λ y mem. reach_above (s.going.cells y mem)) pool (omega (arith, reach_within within reach)) in (
          reach_above reach,
          reach_within within reach,
          rw (link 1 (omega arith) (omega arith)) (within.left p reach),
          rw (link 2 (omega arith) (omega arith)) (within.right p reach),
          rw (marked-length s) room,
        )

    -- which lead to used cells or marked ones
    pub pending_links : {p : ℕ} {others : List ℕ} → Marked R pool w (p ∷ others) → UsedOrMarked R w (link_of R w p 1) × UsedOrMarked R w (link_of R w p 2)
    pending_links {p} s = (at 1 (omega arith) (omega arith) (Reach.left reach), at 2 (omega arith) (omega arith) (Reach.right reach))
      where
        reach : Reach (graph_of R pool) (roots_of R pool) p
        reach = pending_reached s

        at : (f : ℕ) → 0 < f → f < 4 → (0 < link_of R pool p f → Reach (graph_of R pool) (roots_of R pool) (link_of R pool p f)) → UsedOrMarked R w (link_of R w p f)
        at f low high next =
            rw (s.words, link-mark_all R p f (reach_above reach) low high s.seen (λ y mem. reach_above (s.going.cells y mem)) pool (omega (arith, reach_within within reach)))
            (kinds s.seen s.going.cells (link_of R pool p f) next)

    -- and it is marked
    pub pending_marked : {p : ℕ} {others : List ℕ} → Marked R pool w (p ∷ others) → is_marked (state R w p) ≡ true
    pending_marked {p} s =
        let reach = pending_reached s in
        ap (λ (v : List ℕ). is_marked (state R v p)) s.words
        ∙ state-mark_all_same R p (reach_above reach) s.seen (λ y mem. reach_above (s.going.cells y mem)) (s.going.held p (mathlib.Core.List.Memᴰ.head refl)) pool (omega (arith, reach_within within reach))

    -- a look at the words finds the unmarked links of the definition
    pub looked : {p : ℕ} {others : List ℕ} (s : Marked R pool w (p ∷ others)) → onward_in R w p ≡ onward (graph_of R pool) s.seen p
    looked {p} s = ap (λ (v : List ℕ). onward_in R v p) s.words ∙ links s.seen s.going.cells p (pending_reached s)

    -- the cell is replaced by its unmarked links, which are marked
    unfoldable pub turned : {p : ℕ} {others : List ℕ} (s : Marked R pool w (p ∷ others)) (new : List ℕ) → new ≡ onward_in R w p
        → Marked R pool (mark_all R w new) (new ++ others)
    turned {p} {others} s new links =
        let same : new ≡ onward (graph_of R pool) s.seen p = links ∙ looked s in
        record {
          seen = s.seen ++ new;
          words = ap (λ (v : List ℕ). mark_all R v new) s.words ∙ sym (mark_all-append R pool s.seen new);
          going =
              subst (λ (l : List ℕ). Going (graph_of R pool) (roots_of R pool) (s.seen ++ l) (l ++ others)) (sym same) (turn s.going);
        }

    -- these are used cells
    pub new_cell : {p : ℕ} {others : List ℕ} → Marked R pool w (p ∷ others) → (new : List ℕ) → new ≡ onward_in R w p → (x : ℕ) → Memᴰ x new
        → (0 < x) × (x ≤ n) × (is_used (state R w x) ≡ true)
    new_cell {p} {others} s new links x mem =
        let after = turned s new links in
        let reach = after.going.cells x (after.going.held x (mathlib.Core.List.Memᴰ.append_left others mem)) in
        let passes = (passing (unmarked R w) (link_of R w p 1) (link_of R w p 2)).passes x (subst (Memᴰ x) links mem) in
        (reach_above reach, reach_within within reach, unmarked-state R x w passes)

  -- so many cells more are marked than in the pool
  pub marked-count : {w pending : List ℕ} (s : Marked R pool w pending)
      → marked_count n (state_marks R n w) ≡ length s.seen + marked_count n (state_marks R n pool)
  marked-count {w} s =
      ap (λ (v : List ℕ). marked_count n (state_marks R n v)) s.words
      ∙ (sym (marked-same n (marks (state_marks R n pool) s.seen) (state_marks R n (mark_all R pool s.seen)) (λ x low high. alike x low high (elem x s.seen) refl))
      ∙ marked_all n (state_marks R n pool) s.going.distinct λ x mem. ((used x mem).positive, (used x mem).bounded, state_marks_used R n pool (used x mem)))
    where
      used : (x : ℕ) → Memᴰ x s.seen → Used R n pool x
      used x mem = reached-used well (s.going.cells x mem)

      positive : (y : ℕ) → Memᴰ y s.seen → 0 < y
      positive y mem = (used y mem).positive

      alike : (x : ℕ) → 0 < x → x ≤ n → (t : Bool) → elem x s.seen ≡ t
          → (0 < marks (state_marks R n pool) s.seen x) ↔ (0 < state_marks R n (mark_all R pool s.seen) x)
      alike x low high true e =
          let mem = member_has x s.seen e in
          let marked = marked_not_used (state R (mark_all R pool s.seen) x) (state-mark_all_same R x low s.seen positive mem pool (omega arith)) in
          (λ _. state_marks_other R n (mark_all R pool s.seen) x (λ u. true≢false (sym u.state ∙ marked)), λ _. marks-member (state_marks R n pool) x mem)
      alike x low high false e =
          let out : Memᴰ x s.seen → ⊥ = λ mem. true≢false (sym (has_member x mem) ∙ e) in
          let same : state_marks R n (mark_all R pool s.seen) x ≡ state_marks R n pool x =
          ap (λ (k : ℕ). cond (leb 1 x && leb x n && is_used k) 0 1) (state-mark_all_other R x low s.seen positive out pool) in (
            λ k. rw same (⊎_elim (λ mem. absurd (out mem)) (λ above. above) (marks_cases (state_marks R n pool) s.seen x k)),
            λ k. marks-keeps (state_marks R n pool) s.seen x (rw same at k),
          )

-- Of words with some cells pending: the pool is well-formed, and has their length.
module _ {R n : ℕ} {w pending : List ℕ} (h : Pending R n w pending) where
  pub pending_well : WellFormed R n h.pool
  pending_well = well_formed_read R n h.pool h.well

  pub pending_length : length w ≡ length h.pool
  pending_length = ap length h.words ∙ length-mark_all R h.pool h.seen

-- How many cells are not marked.
abbrev pub unmarked_count : ℕ → ℕ → List ℕ → ℕ
unmarked_count R n w = n - marked_count n (state_marks R n w)
