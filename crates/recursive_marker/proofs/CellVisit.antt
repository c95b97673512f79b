-- A visit of the recursive marker: what its two calls may rely on, and what the visits of the cell come to.
use Prim.Native.Nat.{ℕ, suc, ◌+◌, ◌-◌, ◌^◌, ◌<◌, ◌≤◌}
use native.Mathlib.Omega.{arith}
use mathlib.Core.Path.{◌≡◌, refl, sym, ap, ap₂, ◌∙◌}
use mathlib.Core.List.{List, [], ◌∷◌, ◌++◌}
use mathlib.Core.Bool.{Bool, true, false, true≢false, false≢true}
use Rattle.graph.specs.Graph.{Graph}
use Rattle.graph.specs.Dfs.{mark, marks, Dfs}
use Rattle.graph.specs.Marking.{marked_count}
use Rattle.graph.proofs.Lists.{each_nil, each_cons}
use Rattle.graph.proofs.Marks.{Cells, cells-mark, mark_self, mark-keeps, marks-keeps}
use Rattle.graph.proofs.Visits.{marked-none}
use Rattle.graph.proofs.Count.{marked-mark, marked-le, counts}
use Rattle.pool.specs.Layout.{mark_cell, is_point_at, link_of}
use Rattle.pool.proofs.Links.{link-point}
use Rattle.visit.specs.Visit.{unmarked}
use Rattle.reversal.specs.ReversalTheorem.{mark_all, Agreement}
use Rattle.reversal.proofs.VisitCount.{counts_pair, counts_point, pairs-append, points_append}
use Rattle.reversal.proofs.MarkAll.{mark_all-append, link-mark_all}
use Rattle.reversal.proofs.Agreement.{unmarked-cell, unmarked-false, unmarked-true, agreement-mark_all, agreement-dfs, away}
use Rattle.recursive_marker.specs.Steps.{Markable, visited}
use Rattle.reversal.specs.Reached.{pair_count, point_count, visits_of}

module _ (R n depth p visits : ℕ) (w : List ℕ) (h : Markable R n depth p visits w) where
  abbrev g : Graph
  g = h.graph

  abbrev m : ℕ → ℕ
  m = h.marks

  abbrev point : ℕ → Bool
  point = h.point

  -- The visit of an unmarked link: its cell, and then what the visits of its two links newly mark.
  record Parts : Type 0 where
    t : List ℕ
    u : List ℕ
    all : h.cells ≡ p ∷ (t ++ u)
    fresh : m p ≡ 0
    dl : Dfs g (mark m p) (g.left p) t
    dr : Dfs g (marks (mark m p) t) (g.right p) u

  -- a marked link: nothing is done
  pub visit-none : unmarked R w p ≡ false → ◌≡◌ {A = ℕ × List ℕ} (visits, w) (visited R n depth p visits w h)
  unfolding mark_all pair_count point_count
  visit-none e = go h.dfs refl
    where
      go : {t : List ℕ} → Dfs g m p t → h.cells ≡ t → ◌≡◌ {A = ℕ × List ℕ} (visits, w) (visited R n depth p visits w h)
      go (Dfs.stop before) same = rw same (ap (λ (v : ℕ). (v, w)) (omega arith))
      go (Dfs.step z dl dr) same = absurd (false≢true (sym e ∙ unmarked-true R n g point h.agree p z))

  module _ (here : unmarked R w p ≡ true) where
    parts : Parts
    parts = go h.dfs refl
      where
        go : {t : List ℕ} → Dfs g m p t → h.cells ≡ t → Parts
        go (Dfs.stop before) same = absurd (true≢false (sym here ∙ unmarked-false R n g point h.agree p h.bounded before))
        go (Dfs.step {t = t} {u = u} z dl dr) same = record { t = t; u = u; all = same; fresh = z; dl = dl; dr = dr }

    cell : (0 < p) × (p ≤ n)
    cell = unmarked-cell R n g point h.agree p parts.fresh

    cells : Cells n m
    cells = record { above = λ x e. (unmarked-cell R n g point h.agree x e).0; below = λ x e. (unmarked-cell R n g point h.agree x e).1 }

    one_more : marked_count n (mark m p) ≡ suc (marked_count n m)
    one_more = marked-mark n m p cell.0 cell.1 parts.fresh

    -- some depth is left
    some_depth : 0 < depth
    some_depth = omega (arith, one_more, marked-le n (mark m p), h.deep)

    kind : is_point_at R w p ≡ point p
    kind = (h.agree.unmarked p parts.fresh).kind

    -- a point has no links: its one visit fits, and marks it alone
    module _ (is-point : is_point_at R w p ≡ true) where
      alone : h.cells ≡ p ∷ []
      alone =
          let before = h.agree.unmarked p parts.fresh in
          let nil = mark-keeps m p 0 h.agree.nil in
          let none : parts.t ≡ [] = marked-none parts.dl (rw (sym before.left ∙ link-point R w p 1 is-point) nil) in
          let none' : parts.u ≡ [] =
          marked-none parts.dr (rw (sym before.right ∙ link-point R w p 2 is-point) (marks-keeps (mark m p) parts.t 0 nil)) in
          parts.all ∙ ap₂ (λ (x y : List ℕ). p ∷ (x ++ y)) none none'

      once : visits_of point h.cells ≡ 1
      unfolding pair_count point_count
      once = ap (visits_of point) alone ∙ omega (arith, (counts_point point p [] (sym kind ∙ is-point)).0, (counts_point point p [] (sym kind ∙ is-point)).1)

      pub point-fits : visits + 1 < 2 ^ 32
      point-fits = omega (arith, once, h.fits)

      pub visit-point : (w₁ : List ℕ) → w₁ ≡ mark_cell R w p → ◌≡◌ {A = ℕ × List ℕ} (visits + 1, w₁) (visited R n depth p visits w h)
      unfolding mark_all
      visit-point w₁ wrote =
          ap₂ (λ (k : ℕ) (x : List ℕ). (k, x)) (omega (arith, once)) (wrote ∙ ap (mark_all R w) (sym alone))

  module _ (here : unmarked R w p ≡ true) (is-pair : is_point_at R w p ≡ false) where
    count : visits_of point h.cells ≡ 3 + visits_of point (parts here).t + visits_of point (parts here).u
    count =
        let t = (parts here).t in
        let u = (parts here).u in
        let pair : point p ≡ false = sym (kind here) ∙ is-pair in
        ap (visits_of point) (parts here).all
        ∙ omega (arith, (counts_pair point p (t ++ u) pair).0, (counts_pair point p (t ++ u) pair).1, pairs-append point t u, points_append point t u)

    -- some depth is left, and the three visits of a pair fit
    pub visit-pair : (0 < depth) × (visits + 3 < 2 ^ 32)
    visit-pair = (some_depth here, omega (arith, count, h.fits))

    module _ (w₁ : List ℕ) (l : ℕ) (wrote : w₁ ≡ mark_cell R w p) (read : l ≡ link_of R w₁ p 1) where
      agree₁ : Agreement R n g point (mark m p) w₁
      unfolding marks mark_all
      agree₁ = rw wrote (agreement-mark_all R n g point (p ∷ []) h.agree (each_cons (λ x. (0 < x) × (x ≤ n)) (cell here) (each_nil (λ x. (0 < x) × (x ≤ n)))))

      -- a link of the cell is the graph's
      link : (f : ℕ) → 0 < f → f < 4 → (x : ℕ) → link_of R w p f ≡ x → link_of R w₁ p f ≡ x
      unfolding mark_all
      link f hf hf' x e =
          rw wrote (link-mark_all R p f (cell here).0 hf hf' (p ∷ []) (each_cons (λ x. 0 < x) (cell here).0 (each_nil (λ x. 0 < x))) w (omega (arith, h.agree.room, (cell here).1)) ∙ e)

      -- what the visit of the left link may rely on
      pub visit-left : Markable R n (depth - 1) l (visits + 1) w₁
      visit-left =
          let before = h.agree.unmarked p (parts here).fresh in
          let l-is : l ≡ g.left p = read ∙ link 1 (omega arith) (omega arith) (g.left p) before.left in
          record {
            graph = g;
            point = point;
            marks = mark m p;
            cells = (parts here).t;
            agree = agree₁;
            dfs = rw l-is (parts here).dl;
            bounded = rw l-is before.left_bound;
            deep = omega (arith, one_more here, marked-le n (mark m p), h.deep);
            fits = omega (arith, count, h.fits);
          }

      module _ (v : ℕ) (w₂ : List ℕ) (r : ℕ)
          (made : (a : Markable R n (depth - 1) l (visits + 1) w₁) → ◌≡◌ {A = ℕ × List ℕ} (v, w₂) (visited R n (depth - 1) l (visits + 1) w₁ a))
          (read₂ : r ≡ link_of R w₂ p 2) where
        v_is : v ≡ visits + 1 + visits_of point (parts here).t
        unfolding visit-left
        v_is = ap (λ (x : ℕ × List ℕ). x.0) (made visit-left)

        w₂_is : w₂ ≡ mark_all R w₁ (parts here).t
        unfolding visit-left
        w₂_is = ap (λ (x : ℕ × List ℕ). x.1) (made visit-left)

        -- what the visit of the right link may rely on
        pub visit-right : Markable R n (depth - 1) r (v + 1) w₂
        visit-right =
            let before = h.agree.unmarked p (parts here).fresh in
            let r-is : r ≡ g.right p =
            read₂ ∙ (ap (λ (x : List ℕ). link_of R x p 2) w₂_is
            ∙ (link-mark_all R p 2 (cell here).0 (omega arith) (omega arith) (parts here).t (λ x mem. (away R n g point agree₁ (parts here).dl p (mark_self m p p refl) x mem).0) w₁
            (omega (arith, agree₁.room, (cell here).1))
            ∙ link 2 (omega arith) (omega arith) (g.right p) before.right)) in
            record {
              graph = g;
              point = point;
              marks = marks (mark m p) (parts here).t;
              cells = (parts here).u;
              agree = rw w₂_is (agreement-dfs R n g point agree₁ (parts here).dl);
              dfs = rw r-is (parts here).dr;
              bounded = rw r-is before.right_bound;
              deep = omega (arith, one_more here, marked-le n (mark m p), h.deep, counts (parts here).dl (cells-mark p (cells here)));
              fits = omega (arith, count, h.fits, v_is);
            }

        pub visit-fits : v + 1 < 2 ^ 32
        visit-fits = omega (arith, count, h.fits, v_is)

        module _ (v₃ : ℕ) (w₃ : List ℕ)
            (made₃ : (a : Markable R n (depth - 1) r (v + 1) w₂) → ◌≡◌ {A = ℕ × List ℕ} (v₃, w₃) (visited R n (depth - 1) r (v + 1) w₂ a)) where
          v₃_is : v₃ ≡ v + 1 + visits_of point (parts here).u
          unfolding visit-right
          v₃_is = ap (λ (x : ℕ × List ℕ). x.0) (made₃ visit-right)

          pub visit-fits_2 : v₃ + 1 < 2 ^ 32
          visit-fits_2 = omega (arith, count, h.fits, v_is, v₃_is)

          -- three visits of the pair, and those of what its links lead to
          pub visit-all : ◌≡◌ {A = ℕ × List ℕ} (v₃ + 1, w₃) (visited R n depth p visits w h)
          unfolding mark_all visit-right
          visit-all =
              ap₂ (λ (k : ℕ) (x : List ℕ). (k, x)) (omega (arith, count, v_is, v₃_is))
              (ap (λ (x : ℕ × List ℕ). x.1) (made₃ visit-right)
              ∙ (ap (λ (x : List ℕ). mark_all R x (parts here).u) (w₂_is ∙ ap (λ (x : List ℕ). mark_all R x (parts here).t) wrote)
              ∙ (sym (mark_all-append R (mark_cell R w p) (parts here).t (parts here).u) ∙ ap (mark_all R w) (sym (parts here).all))))
