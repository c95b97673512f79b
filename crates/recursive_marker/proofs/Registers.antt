-- The loop over the registers: it makes the visits of the depth-first preorder, in the order of the registers.
use Prim.Native.Nat.{ℕ, ◌+◌, ◌^◌, ◌<◌, ◌≤◌}
use native.Mathlib.Omega.{arith}
use native.Mathlib.Numerals.{add-one}
use mathlib.Core.Path.{◌≡◌, refl, sym, ap, ap₂, ◌∙◌}
use mathlib.Core.List.{List, [], ◌∷◌, ◌++◌, append_assoc, append-nil, nil≢cons, cons≢nil, head-eq_of_cons-eq, tail-eq_of_cons-eq}
use mathlib.Core.Bool.{true}
use lib.ListN.{length, length-append, drop}
use lib.Seq.{drop-cons, drop-length}
use Rattle.graph.specs.Graph.{Graph}
use Rattle.graph.specs.Dfs.{marks, Dfs, DfsAll}
use Rattle.graph.proofs.Depth.{order-dfs}
use Rattle.graph.proofs.Congruence.{dfs-all_alike}
use Rattle.graph.proofs.Theorems.{preorder-length}
use Rattle.pool.specs.Layout.{pool_length, register, is_point_at, roots_of, graph_of}
use Rattle.questions.specs.Validity.{well_formed}
use Rattle.pool.proofs.Every.{length-tabulate, get_or-tabulate, member-tabulate}
use Rattle.questions.proofs.WellFormed.{well_formed_read}
use Rattle.questions.proofs.PoolGraph.{pool-within}
use Rattle.reversal.specs.ReversalTheorem.{mark_all, Agreement, marked_of}
use Rattle.reversal.specs.Reached.{reached_cells, pair_count, point_count, visits_of}
use Rattle.reversal.proofs.VisitCount.{visits-append, visits-most}
use Rattle.reversal.proofs.MarkAll.{mark_all-append, register-mark_all}
use Rattle.reversal.proofs.PoolMarks.{state_marks, agreement, alike}
use Rattle.reversal.proofs.Agreement.{agreement-dfs}
use Rattle.recursive_marker.specs.Steps.{Markable, visited}

-- the visits of the first of several links, and those of the others
record Next (g : Graph) (m : ℕ → ℕ) (p : ℕ) (ps new : List ℕ) : Type 0 where
  t : List ℕ
  u : List ℕ
  all : new ≡ t ++ u
  first : Dfs g m p t
  others : DfsAll g (marks m t) ps u

next : {g : Graph} {m : ℕ → ℕ} {l new : List ℕ} → DfsAll g m l new → (p : ℕ) (ps : List ℕ) → l ≡ p ∷ ps → Next g m p ps new
next DfsAll.none p ps e = absurd (nil≢cons e)
next (DfsAll.next {t = t} {u = u} d rest) p ps e =
    record { t = t; u = u; all = refl; first = rw (← head-eq_of_cons-eq e) d; others = rw (← tail-eq_of_cons-eq e) rest }

last : {g : Graph} {m : ℕ → ℕ} {l new : List ℕ} → DfsAll g m l new → l ≡ [] → new ≡ []
last DfsAll.none e = refl
last (DfsAll.next d rest) e = absurd (cons≢nil e)

module _ (R n : ℕ) (w₀ : List ℕ) where
  -- what the loop keeps: some cells of the order are marked, and the visits of the registers from k on mark the others
  pub record Marking (w : List ℕ) (visits k : ℕ) : Type 0 where
    pub most : k ≤ R
    pub marks : ℕ → ℕ
    pub done : List ℕ
    pub todo : List ℕ
    pub all : reached_cells R n w₀ ≡ done ++ todo
    pub words : w ≡ mark_all R w₀ done
    pub counted : visits ≡ visits_of (is_point_at R w₀) done
    pub agree : Agreement R n (graph_of R w₀) (is_point_at R w₀) marks w
    pub rest : DfsAll (graph_of R w₀) marks (drop k (roots_of R w₀)) todo

  module _ (well : well_formed R n w₀ ≡ true) (room : pool_length R n ≤ length w₀) where
    pub marking_first : Marking w₀ 0 0
    unfolding mark_all pair_count point_count
    marking_first =
        let facts = well_formed_read R n w₀ well in
        record {
          most = omega arith;
          marks = state_marks R n w₀;
          done = [];
          todo = reached_cells R n w₀;
          all = refl;
          words = refl;
          counted = refl;
          agree = agreement R n w₀ facts room;
          rest = dfs-all_alike (alike R n w₀ facts) (order-dfs n (graph_of R w₀) (roots_of R w₀) (pool-within facts));
        }

    roots-length : length (roots_of R w₀) ≡ R
    roots-length = length-tabulate R (λ k. register w₀ k)

    module _ (w : List ℕ) (visits k p depth : ℕ) (g : Marking w visits k) (here : k < R) (read : p ≡ register w k) (deep : n ≤ depth) where
      this : p ≡ register w₀ k
      this = read ∙ (ap (λ (x : List ℕ). register x k) g.words ∙ register-mark_all R k here w₀ g.done)

      from : Next (graph_of R w₀) g.marks p (drop (k + 1) (roots_of R w₀)) g.todo
      from =
          next g.rest p (drop (k + 1) (roots_of R w₀))
          (drop-cons (roots_of R w₀) k 0 (omega (arith, roots-length)) ∙ rw (get_or-tabulate R (λ j. register w₀ j) k 0 here, ← add-one k, this))

      -- no more cells than there are
      few : length g.done + (length from.t + length from.u) ≤ n
      few =
          omega (
            arith,
            preorder-length n (graph_of R w₀) (roots_of R w₀) (pool-within (well_formed_read R n w₀ well)),
            simp length-append at (ap length g.all),
            simp length-append at (ap length from.all),
          )

      -- what the visit of a register's link may rely on
      pub marking_visit : n < 2 ^ 16 → Markable R n depth p visits w
      marking_visit limit =
          record {
            graph = graph_of R w₀;
            point = is_point_at R w₀;
            marks = g.marks;
            cells = from.t;
            agree = g.agree;
            dfs = from.first;
            bounded = rw this ((pool-within (well_formed_read R n w₀ well)).root (register w₀ k) (member-tabulate R (λ j. register w₀ j) k here));
            deep = omega arith;
            fits = omega (arith, few, g.counted, visits-most (is_point_at R w₀) g.done, visits-most (is_point_at R w₀) from.t);
          }

      pub marking_next : n < 2 ^ 16 → (visits' : ℕ) (w' : List ℕ)
          → ((h : Markable R n depth p visits w) → ◌≡◌ {A = ℕ × List ℕ} (visits', w') (visited R n depth p visits w h)) → Marking w' visits' (k + 1)
      unfolding marking_visit
      marking_next limit visits' w' made =
          let words' : w' ≡ mark_all R w from.t = ap (λ (x : ℕ × List ℕ). x.1) (made (marking_visit limit)) in
          let count : visits' ≡ visits + visits_of (is_point_at R w₀) from.t = ap (λ (x : ℕ × List ℕ). x.0) (made (marking_visit limit)) in
          record {
            most = omega arith;
            marks = Rattle.graph.specs.Dfs.marks g.marks from.t;
            done = g.done ++ from.t;
            todo = from.u;
            all = g.all ∙ (ap (λ (x : List ℕ). g.done ++ x) from.all ∙ sym (append_assoc g.done from.t from.u));
            words = words' ∙ (ap (λ (x : List ℕ). mark_all R x from.t) g.words ∙ sym (mark_all-append R w₀ g.done from.t));
            counted = omega (arith, count, g.counted, visits-append (is_point_at R w₀) g.done from.t);
            agree = rw words' (agreement-dfs R n (graph_of R w₀) (is_point_at R w₀) g.agree from.first);
            rest = from.others;
          }

    pub marking_last : (w : List ℕ) (visits k : ℕ) → Marking w visits k → R ≤ k → ◌≡◌ {A = ℕ × List ℕ} (visits, w) (marked_of R n w₀)
    marking_last w visits k g past =
        let end : k ≡ length (roots_of R w₀) = omega (arith, g.most, roots-length) in
        let none : g.todo ≡ [] = last g.rest (rw end (drop-length (roots_of R w₀))) in
        let all : g.done ≡ reached_cells R n w₀ = sym (g.all ∙ (ap (λ (x : List ℕ). g.done ++ x) none ∙ append-nil g.done)) in
        ap₂ (λ (v : ℕ) (x : List ℕ). (v, x)) (g.counted ∙ ap (visits_of (is_point_at R w₀)) all) (g.words ∙ ap (mark_all R w₀) all)
