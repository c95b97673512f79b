-- With as much depth as the graph has cells, the depth-first preorder is what the visits of the roots mark.
use Prim.Native.Nat.{ℕ, zero, suc, ◌+◌, ◌<◌, ◌≤◌}
use native.Mathlib.Omega.{arith}
use mathlib.Core.Path.{◌≡◌, refl, sym, subst, ap, ◌∙◌}
use mathlib.Core.Logic.{⊎_elim}
use mathlib.Core.List.Memᴰ
use mathlib.Core.List.{List, [], ◌∷◌, ◌++◌, append-nil, append_assoc}
use mathlib.Core.Bool.{or-true}
use lib.Dec.{eqb}
use borrow.Author.Tests.{eq-eqb, ne_eqb}
use Rattle.graph.specs.Graph.{Graph, Reach, Within}
use Rattle.graph.specs.Preorder.{visit, visits, preorder}
use Rattle.graph.specs.Marking.{outside, marked_count}
use Rattle.graph.specs.Dfs.{Dfs, DfsAll, mark, marks}
use Rattle.graph.proofs.Reached.{reach_within}
use Rattle.graph.proofs.Lists.{Each, has_member, has_none}
use Rattle.graph.proofs.Marks.{Cells, cells-outside, cells-marks, zero_or_above, marks-append, marks_cases, marks-member, outside-cell}
use Rattle.graph.proofs.Count.{marked-mark, marked-le, counts}
use Rattle.graph.proofs.Transfer.{all_functional}

-- The marks in a graph of n cells once the cells of a list have been visited.
abbrev after : ℕ → List ℕ → ℕ → ℕ
after n seen = marks (outside n) seen

after_append : (n : ℕ) (seen t : List ℕ) → after n (seen ++ t) ≡ marks (after n seen) t
after_append n = marks-append (outside n)

after_cell : (n : ℕ) (seen : List ℕ) (p : ℕ) → after n (seen ++ (p ∷ [])) ≡ mark (after n seen) p
unfolding marks
after_cell n seen p = after_append n seen (p ∷ [])

after_cells : (n : ℕ) (seen : List ℕ) → Cells n (after n seen)
after_cells n seen = cells-marks seen (cells-outside n)

after_one : (n : ℕ) (seen : List ℕ) (p : ℕ) → after n seen p ≡ 0
    → marked_count n (after n (seen ++ (p ∷ []))) ≡ suc (marked_count n (after n seen))
after_one n seen p e =
    ap (marked_count n) (after_cell n seen p)
    ∙ marked-mark n (after n seen) p ((after_cells n seen).above p e) ((after_cells n seen).below p e) e

module _ (n : ℕ) (g : Graph) where
  -- A link that is marked adds nothing, whatever the depth.
  stops : (depth : ℕ) (seen : List ℕ) (p : ℕ) → p ≤ n → 0 < after n seen p → visit depth g seen p ≡ seen
  unfolding visit
  stops zero seen p w h = refl
  stops (suc depth) seen p w h =
      ⊎_elim (λ k. rw (has_member p {xs = seen} k, visit, or-true (eqb p 0)))
      (λ k. ⊎_elim (λ e. rw (eq-eqb p 0 e, visit)) (λ a. absurd (omega (arith, outside-cell n p a w))) (zero_or_above p))
      (marks_cases (outside n) seen p h)

  -- The visit of a link, with some depth and the cells seen, adds to them what the relation says.
  record Visited (depth : ℕ) (seen : List ℕ) (p : ℕ) : Type 0 where
    new : List ℕ
    dfs : Dfs g (after n seen) p new
    adds : visit depth g seen p ≡ seen ++ new

  record AllVisited (depth : ℕ) (seen ps : List ℕ) : Type 0 where
    new : List ℕ
    dfs : DfsAll g (after n seen) ps new
    adds : visits depth g seen ps ≡ seen ++ new

  -- The visit of an unmarked link, from those of its two links.
  both : (depth : ℕ) (seen : List ℕ) (p : ℕ) → after n seen p ≡ 0 → (a : Visited depth (seen ++ (p ∷ [])) (g.left p))
      → Visited depth ((seen ++ (p ∷ [])) ++ a.new) (g.right p) → Visited (suc depth) seen p
  unfolding visit
  both depth seen p e a b =
      let above : 0 < p = (after_cells n seen).above p e in
      record {
        new = p ∷ (a.new ++ b.new);
        dfs =
            Dfs.step e (subst (λ (m : ℕ → ℕ). Dfs g m (g.left p) a.new) (after_cell n seen p) a.dfs)
            (subst (λ (m : ℕ → ℕ). Dfs g m (g.right p) b.new)
            (after_append n (seen ++ (p ∷ [])) a.new ∙ ap (λ (m : ℕ → ℕ). marks m a.new) (after_cell n seen p)) b.dfs);
        adds =
            rw (ne_eqb p 0 (omega arith), has_none p seen (λ k. omega (arith, marks-member (outside n) p k)), visit)
            (ap (λ (s : List ℕ). visit depth g s (g.right p)) a.adds ∙ b.adds ∙ simp append_assoc);
      }

  module _ (roots : List ℕ) (w : Within n g roots) where
    stopped : (depth : ℕ) (seen : List ℕ) (p : ℕ) → (0 < p → Reach g roots p) → 0 < after n seen p → Visited depth seen p
    stopped depth seen p r h =
        let within : p ≤ n = ⊎_elim (λ e. omega arith) (λ k. reach_within w (r k)) (zero_or_above p) in
        record { new = []; dfs = Dfs.stop h; adds = stops depth seen p within h ∙ sym (append-nil seen) }

    -- The depth is enough where it is no less than the number of unmarked cells.
    visited : (depth : ℕ) (seen : List ℕ) (p : ℕ) → (0 < p → Reach g roots p) → n ≤ depth + marked_count n (after n seen)
        → Visited depth seen p
    visited zero seen p r d =
        ⊎_elim (λ e. absurd (omega (arith, marked-le n (after n (seen ++ (p ∷ []))), after_one n seen p e))) (stopped 0 seen p r)
        (zero_or_above (after n seen p))
    visited (suc depth) seen p r d =
        ⊎_elim
        (λ e.
        let rp : Reach g roots p = r ((after_cells n seen).above p e) in
        let seen' : List ℕ = seen ++ (p ∷ []) in
        let more : marked_count n (after n seen') ≡ suc (marked_count n (after n seen)) = after_one n seen p e in
        let a : Visited depth seen' (g.left p) = visited depth seen' (g.left p) (Reach.left rp) (omega arith) in
        both depth seen p e a
        (visited depth (seen' ++ a.new) (g.right p) (Reach.right rp)
        (rw (after_append n seen' a.new) (omega (arith, counts a.dfs (after_cells n seen'))))))
        (stopped (suc depth) seen p r) (zero_or_above (after n seen p))

    all-visited : (depth : ℕ) (seen ps : List ℕ) → Each (λ p. 0 < p → Reach g roots p) ps → n ≤ depth → AllVisited depth seen ps
    unfolding visits
    all-visited depth seen [] r d = record { new = []; dfs = DfsAll.none; adds = sym (append-nil seen) }
    all-visited depth seen (p ∷ ps) r d =
        let a : Visited depth seen p = visited depth seen p (r p (Memᴰ.head refl)) (omega arith) in
        let b : AllVisited depth (seen ++ a.new) ps = all-visited depth (seen ++ a.new) ps (λ x h. r x (Memᴰ.tail h)) d in
        record {
          new = a.new ++ b.new;
          dfs = DfsAll.next a.dfs (subst (λ (m : ℕ → ℕ). DfsAll g m ps b.new) (after_append n seen a.new) b.dfs);
          adds = ap (λ (s : List ℕ). visits depth g s ps) a.adds ∙ b.adds ∙ append_assoc seen a.new b.new;
        }

    -- The order with any depth that is no less than n is what the visits of the roots mark.
    pub order-dfs_deep : (depth : ℕ) → n ≤ depth → DfsAll g (outside n) roots (preorder depth g roots)
    unfolding preorder marks
    order-dfs_deep depth d =
        let a : AllVisited depth [] roots = all-visited depth [] roots (λ x h. Reach.root h) d in
        subst (DfsAll g (outside n) roots) (sym a.adds) a.dfs

    pub order-dfs : DfsAll g (outside n) roots (preorder n g roots)
    order-dfs = order-dfs_deep n (omega arith)

    -- More depth changes nothing.
    pub order-deep : (depth : ℕ) → n ≤ depth → preorder depth g roots ≡ preorder n g roots
    order-deep depth d = all_functional (order-dfs_deep depth d) order-dfs
