-- Marking by link reversal: from (p, q), with p unmarked, three visits for each pair newly marked and one for each point lead to (q, p); and what their
-- cases are.
use Prim.Native.Nat.{ℕ, zero, suc, ◌+◌, ◌<◌, ◌≤◌}
use native.Mathlib.Omega.{arith}
use mathlib.Core.Path.{◌≡◌, refl, sym, ap, ap₂, subst, ◌∙◌}
use mathlib.Core.Logic.{inl, inr}
use mathlib.Core.Bool.{Bool, true, false, cond, ◌||◌, ◌&&◌, not}
use mathlib.Core.List.{List, [], ◌∷◌, ◌++◌, append-nil}
use lib.ListN.{length, length-append}
use lib.Dec.{eqb}
use Rattle.graph.specs.Graph.{Graph}
use Rattle.graph.specs.Dfs.{mark, marks, Dfs}
use Rattle.pool.specs.Layout.{pool_length, set_cell, state, left, right, set_node, mark_cell, is_point_at, link_of}
use Rattle.pool.specs.States.{pair_state, point_state, marked_point_state, is_point, is_marked, as_marked}
use Rattle.pool.proofs.Laws.{cell_same, cell_other}
use Rattle.pool.proofs.States.{low_pair, low_unmarked, visited_not_used, used_pair, used-point, marked-pair, pair-marked}
use Rattle.pool.proofs.Links.{link-pair, link-point}
use Rattle.visit.specs.declared.Marker.{Marker}
use Rattle.visit.specs.Visit.{unmarked, visit_of, Visitable, marker}
use Rattle.visit.specs.Cases.{visit_case}
use Rattle.visit.proofs.Cases.{chosen}
use Rattle.reversal.specs.Reversal.{Visits}
use Rattle.reversal.specs.Trace.{trace, followed, four_ways}
use Rattle.reversal.specs.ReversalTheorem.{mark_all, Agreement, Untouched, RunFromLink}
use Rattle.pool.proofs.Node.{state-set_links, set_node-again, set_node-links, set_node-same, Node, node_set}
use Rattle.reversal.proofs.MarkAll.{mark_all-append, length-mark_all, mark_all-set_node}
use Rattle.reversal.proofs.VisitCount.{counts_pair, counts_point, pairs-append, points_append}
use Rattle.reversal.proofs.Trace.{four_way_lem, goes_on, trace-append, followed-append, four_ways-append}
use Rattle.graph.proofs.Marks.{marks-keeps, mark-keeps, mark_self, mark_other}
use Rattle.graph.proofs.Visits.{marked-none}
use Rattle.reversal.proofs.Agreement.{unmarked-cell, unmarked-true, unmarked-false, agreement-set_node, agreement-dfs, away}
use Rattle.reversal.specs.Reached.{pair_count, point_count, visits_of}

-- k visits lead from s to t; the cells that they follow links to are f, and j of them are four-way exchanges.
pub record Traced (R n k : ℕ) (s t : Marker × List ℕ) (f : List ℕ) (j : ℕ) : Type 0 where
  pub visits : Visits R n k s t
  pub followed : followed (trace R k s) ≡ f
  pub four_ways : four_ways (trace R k s) ≡ j

-- The run from (p, q) to (q, p), where the visit of p newly marks t: all of these but p are followed to.
abbrev pub Run : ℕ → ℕ → Graph → (ℕ → Bool) → (ℕ → ℕ) → ℕ → List ℕ → Type 0
Run R n g point m p t =
    m p ≡ 0 → (w : List ℕ) → Agreement R n g point m w → (q c : ℕ)
    → (f : List ℕ) × (p ∷ f ≡ t)
    × Traced R n (visits_of point t) (marker p q c, w) (marker q p (c + visits_of point t), mark_all R w t) f (pair_count point t + length f)

module _ (R n : ℕ) where
  -- visits compose
  visits-append : {k j : ℕ} {s t u : Marker × List ℕ} → Visits R n k s t → Visits R n j t u → Visits R n (k + j) s u
  visits-append {s = s} {u = u} Visits.done b = subst (λ (i : ℕ). Visits R n i s u) (omega arith) b
  visits-append {s = s} {u = u} (Visits.more v a) b =
      subst (λ (i : ℕ). Visits R n i s u) (omega arith) (Visits.more v (visits-append a b))

  -- so do what they follow, and their four-way exchanges
  traced_append : {k k' : ℕ} {s t u : Marker × List ℕ} {f f' : List ℕ} {j j' : ℕ} → Traced R n k s t f j → Traced R n k' t u f' j'
      → Traced R n (k + k') s u (f ++ f') (j + j')
  traced_append {k} {k'} {s} {t} a b =
      record {
        visits = visits-append a.visits b.visits;
        followed = rw (trace-append R n a.visits k', followed-append, a.followed, b.followed) refl;
        four_ways = rw (trace-append R n a.visits k', four_ways-append, a.four_ways, b.four_ways) refl;
      }

  -- the links that a visit writes change nothing of who is unmarked
  links : {w : List ℕ} {p s l r : ℕ} → Node R n w p s l r → (q x : ℕ) → unmarked R (set_cell R w p 0 (suc s)) x ≡ unmarked R (set_node R w p (suc s) r q) x
  links h q zero = refl
  links {w} {p} {s} {r = r} h q (suc x) = simp (state-set_links R (set_cell R w p 0 (suc s)) p h.positive r q (suc x) (omega arith))

  -- a visit of a pair whose state and links are s, l and r, where the outcome b of the test is known
  visit_of_lem : {w : List ℕ} {p s l r : ℕ} → Node R n w p s l r → is_point (suc s) ≡ false → (q c : ℕ) (b : Bool)
      → (is_marked (suc s) || unmarked R (set_node R w p (suc s) r q) l) ≡ b
      → visit_of R (marker p q c, w) ≡ (cond b (marker l p (suc c)) (marker p l (suc c)), set_node R w p (suc s) r q)
  unfolding visit_of
  visit_of_lem {w} {p} {s} {l} {r} h pair q c b e =
      rw (
        h.state,
        h.left,
        cell_same R w p 0 (suc s) h.positive (omega arith) (omega (arith, h.room, h.bounded)),
        pair,
        cell_other R w p 0 (suc s) p 2 h.positive (omega arith) h.positive (omega arith) (omega arith),
        h.right,
        links h q l,
        e,
      )

  -- its case, which the links that it writes do not change
  case_of_lem : {w : List ℕ} {p s l r : ℕ} → Node R n w p s l r → (q c : ℕ)
      → visit_case R (marker p q c, w) ≡ chosen (is_point (suc s)) (is_marked (suc s)) (eqb (suc s) 1) (unmarked R (set_node R w p (suc s) r q) l)
  case_of_lem {w} {p} {s} {l} {r} h q c =
      rw (
        h.state,
        cell_same R w p 0 (suc s) h.positive (omega arith) (omega (arith, h.room, h.bounded)),
        cell_other R w p 0 (suc s) p 1 h.positive (omega arith) h.positive (omega arith) (omega arith),
        h.left,
        links h q l,
      )
      refl

  -- equal counts and equal words
  recount : {k k' p q c c' : ℕ} {w w' f f' : List ℕ} {j j' : ℕ} {s : Marker × List ℕ} → k ≡ k' → c ≡ c' → w ≡ w' → f ≡ f' → j ≡ j'
      → Traced R n k s (marker p q c, w) f j → Traced R n k' s (marker p q c', w') f' j'
  recount ek ec ew ef ej v = rw (← ek, ← ec, ← ew, ← ef, ← ej) v

  module _ (p : ℕ) (positive : 0 < p) (bounded : p ≤ n) where
    -- A visit of p and what follows it: s becomes one more, and l, r, q become r, q, l. Is it the third, and is l unmarked?
    turn : (w : List ℕ) → pool_length R n ≤ length w → (s l r q c : ℕ) → s < 3 → (s < 2 → l ≤ n) → (third onward : Bool) → is_marked (suc s) ≡ third
        → unmarked R (set_node R w p (suc s) r q) l ≡ onward → {k : ℕ} {t : Marker × List ℕ} {f : List ℕ} {j : ℕ}
        → Traced R n k (cond (third || onward) (marker l p (suc c)) (marker p l (suc c)), set_node R w p (suc s) r q) t f j
        → Traced R n (suc k) (marker p q c, set_node R w p s l r) t (cond (not third && onward) (l ∷ f) f) (cond (third || onward) 1 0 + j)
    unfolding trace followed four_ways
    turn w room s l r q c hs hl third onward e-third e-onward {k} {t} {f} rest =
        let h = node_set R n w p s l r positive bounded room in
        let again = set_node-again R w p positive s l r (suc s) r q in
        let visitable : Visitable R n (marker p q c, set_node R w p s l r) =
        record { positive = positive; bounded = bounded; early = inr (rw h.state hs); link = rw (h.state, h.left) hl } in
        let pair : is_point (suc s) ≡ false = low_pair (suc s) (omega arith) in
        let made : visit_of R (marker p q c, set_node R w p s l r) ≡ (cond (third || onward) (marker l p (suc c)) (marker p l (suc c)), set_node R w p (suc s) r q) =
        visit_of_lem h pair q c (third || onward) (rw (again, e-third, e-onward) refl) ∙ rw again refl in
        let case : visit_case R (marker p q c, set_node R w p s l r) ≡ chosen false third (eqb (suc s) 1) onward =
        case_of_lem h q c ∙ rw (again, pair, e-third, e-onward) refl in
        record {
          visits = Visits.more {k = k} {t = t} visitable (rw made rest.visits);
          followed = rw (case, goes_on third (eqb (suc s) 1) onward, made, rest.followed) (ends third onward);
          four_ways = rw (case, four_way_lem third (eqb (suc s) 1) onward, made, rest.four_ways) refl;
        }
      where
        ends : (third onward : Bool)
            → cond (not third && onward) ((cond (third || onward) (marker l p (suc c)) (marker p l (suc c))).cell ∷ f) f ≡ cond (not third && onward) (l ∷ f) f
        ends true onward = refl
        ends false true = refl
        ends false false = refl

    module _ (g : Graph) (point : ℕ → Bool) where
      -- Half of the work at p, whose state is 0 or 1: a visit, and then, if the link l that comes next is unmarked, all that it leads to. From (p, q) it
      -- leads to (p, l).
      half : {m : ℕ → ℕ} {l : ℕ} {t : List ℕ} → Dfs g m l t → Run R n g point m l t → (w : List ℕ) → pool_length R n ≤ length w → (s r q c : ℕ) → s < 2 → l ≤ n
          → 0 < m p → Agreement R n g point m (set_node R w p (suc s) r q)
          → Traced R n (suc (visits_of point t)) (marker p q c, set_node R w p s l r)
          (marker p l (suc c + visits_of point t), set_node R (mark_all R w t) p (suc s) r q) t (pair_count point t + length t)
      unfolding mark_all pair_count point_count trace followed four_ways
      half {l = l} (Dfs.stop marked) sub w room s r q c hs hl hm a =
          turn w room s l r q c (omega arith) (λ low. hl) false false (low_unmarked (suc s) (omega arith)) (unmarked-false R n g point a l hl marked)
          (recount refl (omega arith) refl refl refl (record { visits = Visits.done; followed = refl; four_ways = refl }))
      half {m} {l} {t} (Dfs.step e dl dr) sub w room s r q c hs hl hm a =
          let (f, new, run) = sub e (set_node R w p (suc s) r q) a p (suc c) in
          recount refl refl refl new (omega (arith, ap length new))
          (turn w room s l r q c (omega arith) (λ low. hl) false true (low_unmarked (suc s) (omega arith)) (unmarked-true R n g point a l e)
          (recount refl refl (mark_all-set_node R p (suc s) r q positive t (away R n g point a (Dfs.step e dl dr) p hm) w) refl refl run))

module _ (R n : ℕ) (g : Graph) (point : ℕ → Bool) where
  -- of a point, which has no links: its one visit
  single : {m : ℕ → ℕ} {p : ℕ} → point p ≡ true → Run R n g point m p (p ∷ [])
  unfolding mark_all pair_count point_count trace followed four_ways visit_of is_point as_marked
  single {m} {p} kind e w a q c = ([], refl, recount R n (omega (arith, counts.0, counts.1)) (omega (arith, counts.0, counts.1)) marked refl (omega (arith, counts.0)) visit)
    where
      counts : (pair_count point (p ∷ []) ≡ pair_count point []) × (point_count point (p ∷ []) ≡ 1 + point_count point [])
      counts = counts_point point p [] kind

      here : (0 < p) × (p ≤ n)
      here = unmarked-cell R n g point a p e

      before : Untouched R n g point w p
      before = a.unmarked p e

      five : state R w p ≡ point_state
      five = used-point (state R w p) before.state (before.kind ∙ kind)

      six : state R (set_cell R w p 0 marked_point_state) p ≡ marked_point_state
      six = cell_same R w p 0 marked_point_state here.0 (omega arith) (omega (arith, a.room, here.1))

      marked : set_cell R w p 0 marked_point_state ≡ mark_all R w (p ∷ [])
      marked = rw five refl

      visit : Traced R n 1 (marker p q c, w) (marker q p (suc c), set_cell R w p 0 marked_point_state) [] 0
      visit =
          record {
            visits = Visits.more {k = 0} {s = (marker p q c, w)} {t = (marker q p (suc c), set_cell R w p 0 marked_point_state)} (record { positive = here.0; bounded = here.1; early = inl five; link = λ low. omega (arith, five) })
                (rw (five, six) Visits.done);
            followed = rw (five, six) refl;
            four_ways = rw (five, six) refl;
          }

  -- of a pair: the two halves, and the third visit
  both : {m : ℕ → ℕ} {p : ℕ} {t u : List ℕ} → point p ≡ false → Dfs g (mark m p) (g.left p) t → Run R n g point (mark m p) (g.left p) t
      → Dfs g (marks (mark m p) t) (g.right p) u → Run R n g point (marks (mark m p) t) (g.right p) u → Run R n g point m p (p ∷ (t ++ u))
  unfolding mark_all trace followed four_ways
  both {m} {p} {t} {u} kind dl runl dr runr e w a q c = (
    t ++ u,
    refl,
    recount R n (omega (arith, count)) (omega (arith, count)) all (append-nil (t ++ u)) (omega (arith, length-append t u, pairs-append point t u, (counts_pair point p (t ++ u) kind).0))
        (traced_append R n (traced_append R n first second) third),
  )
    where
      count : visits_of point (p ∷ (t ++ u)) ≡ 3 + (visits_of point t + visits_of point u)
      count = omega (arith, (counts_pair point p (t ++ u) kind).0, (counts_pair point p (t ++ u) kind).1, pairs-append point t u, points_append point t u)

      l : ℕ
      l = g.left p

      r : ℕ
      r = g.right p

      here : (0 < p) × (p ≤ n)
      here = unmarked-cell R n g point a p e

      before : Untouched R n g point w p
      before = a.unmarked p e

      pair : is_point_at R w p ≡ false
      pair = before.kind ∙ kind

      nought : state R w p ≡ pair_state
      nought = used_pair (state R w p) before.state pair

      to_left : left R w p ≡ l
      to_left = sym (link-pair R w p 1 pair) ∙ before.left

      to_right : right R w p ≡ r
      to_right = sym (link-pair R w p 2 pair) ∙ before.right

      w₁ : List ℕ
      w₁ = mark_all R w t

      w₂ : List ℕ
      w₂ = mark_all R w₁ u

      stays : 0 < marks (mark m p) t p
      stays = marks-keeps (mark m p) t p (mark_self m p p refl)

      a₁ : Agreement R n g point (mark m p) (set_node R w p 1 r q)
      a₁ = agreement-set_node R n g point a (mark m p) p 1 r q here.0 here.1 (visited_not_used 1 (omega arith) (omega arith)) (mark_self m p p refl) (mark_other m p)

      -- p can be written before or after its left link is followed
      past-left : (s l r : ℕ) → mark_all R (set_node R w p s l r) t ≡ set_node R w₁ p s l r
      past-left s l r = mark_all-set_node R p s l r here.0 t (away R n g point a₁ dl p (mark_self m p p refl)) w

      a₂ : Agreement R n g point (marks (mark m p) t) (set_node R w₁ p 2 q l)
      a₂ =
          rw (past-left 1 r q, set_node-again R w₁ p here.0 1 r q 2 q l) at
          (agreement-set_node R n g point (agreement-dfs R n g point a₁ dl) (marks (mark m p) t) p 2 q l here.0 here.1 (visited_not_used 2 (omega arith) (omega arith)) stays (λ x apart. refl))

      first : Traced R n (suc (visits_of point t)) (marker p q c, w) (marker p l (suc c + visits_of point t), set_node R w₁ p 1 r q) t (pair_count point t + length t)
      first =
          rw (set_node-same R w p here.0 nought to_left to_right) at
          (half R n p here.0 here.1 g point dl runl w a.room 0 r q c (omega arith) before.left_bound (mark_self m p p refl) a₁)

      second : Traced R n (suc (visits_of point u)) (marker p l (suc c + visits_of point t), set_node R w₁ p 1 r q)
          (marker p r (suc (suc c + visits_of point t) + visits_of point u), set_node R w₂ p 2 q l) u (pair_count point u + length u)
      second =
          half R n p here.0 here.1 g point dr runr w₁ (rw length-mark_all a.room) 1 q l (suc c + visits_of point t) (omega arith) before.right_bound
          stays a₂

      third : Traced R n 1 (marker p r (suc (suc c + visits_of point t) + visits_of point u), set_node R w₂ p 2 q l)
          (marker q p (suc (suc (suc c + visits_of point t) + visits_of point u)), set_node R w₂ p 3 l r) [] 1
      third =
          turn R n p here.0 here.1 w₂ (simp length-mark_all a.room) 2 q l r (suc (suc c + visits_of point t) + visits_of point u) (omega arith)
          (omega arith) true (unmarked R (set_node R w₂ p 3 l r) q) marked-pair refl (record { visits = Visits.done; followed = refl; four_ways = refl })

      all : set_node R w₂ p 3 l r ≡ mark_all R (mark_cell R w p) (t ++ u)
      all =
          sym
          (mark_all-append R (mark_cell R w p) t u
          ∙ rw (nought, pair-marked, ← set_node-links R w p here.0 3, to_left, to_right, past-left 3 l r)
          (mark_all-set_node R p 3 l r here.0 u (away R n g point a₂ dr p stays) w₁))

  pub run : {m : ℕ → ℕ} {p : ℕ} {t : List ℕ} → Dfs g m p t → Run R n g point m p t
  run (Dfs.stop marked) = λ e. absurd (omega arith)
  run (Dfs.step {m = m} {p = p} {t = t} {u = u} e dl dr) = go (point p) refl (run dl) (run dr)
    where
      go : (b : Bool) → point p ≡ b → Run R n g point (mark m p) (g.left p) t → Run R n g point (marks (mark m p) t) (g.right p) u
          → Run R n g point m p (p ∷ (t ++ u))
      go false kind runl runr = both kind dl runl dr runr
      go true kind runl runr = λ e w a.
          let before = a.unmarked p e in
          let nil : (f : ℕ) → link_of R w p f ≡ 0 = λ f. link-point R w p f (before.kind ∙ kind) in
          let none : t ≡ [] = marked-none dl (rw (sym before.left ∙ nil 1) (mark-keeps m p 0 a.nil)) in
          let none' : u ≡ [] = marked-none dr (rw (sym before.right ∙ nil 2) (marks-keeps (mark m p) t 0 (mark-keeps m p 0 a.nil))) in
          subst (λ (l : List ℕ). Run R n g point m p (p ∷ l)) (sym (ap₂ (λ (x y : List ℕ). x ++ y) none none')) (single kind) e w a

pub run-from_link : RunFromLink
run-from_link R n g point m p t w a d e q c = (run R n g point d e w a q c).2.visits
