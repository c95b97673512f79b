-- What visits mark: cells that were unmarked, each once, only what the links reach, and with a cell its links.
use Prim.Native.Nat.{ℕ, ◌<◌}
use native.Mathlib.Omega.{arith}
use mathlib.Core.Path.{◌≡◌, refl}
use mathlib.Core.Logic.{⊎_elim}
use mathlib.Core.List.Memᴰ
use mathlib.Core.List.{List, [], ◌++◌, Memᴰ}
use Rattle.graph.specs.Graph.{Graph, Reach}
use Rattle.graph.specs.Marking.{Closure}
use Rattle.graph.specs.Theorems.{Distinct}
use Rattle.graph.specs.Dfs.{Dfs, DfsAll, mark, marks}
use Rattle.graph.proofs.Lists.{Each, each_nil, each_append, each_cons, distinct_append}
use Rattle.graph.proofs.Marks.{mark_self, mark-keeps, marks-keeps, marks-member, marks_cases, marks-append, before, above_nil}

-- Both links of a cell are marked.
abbrev Linked : Graph → (ℕ → ℕ) → ℕ → Type 0
Linked g f x = (0 < f (g.left x)) × (0 < f (g.right x))

linked-keeps : (g : Graph) (m : ℕ → ℕ) (t : List ℕ) (x : ℕ) → Linked g m x → Linked g (marks m t) x
linked-keeps g m t x h = (marks-keeps m t (g.left x) h.0, marks-keeps m t (g.right x) h.1)

module _ {g : Graph} where
  -- The visit of what is marked marks nothing.
  pub marked-none : {m : ℕ → ℕ} {p : ℕ} {t : List ℕ} → Dfs g m p t → 0 < m p → t ≡ []
  marked-none (Dfs.stop h) marked = refl
  marked-none (Dfs.step e a b) marked = absurd (omega arith)

  -- What a visit marks was unmarked.
  pub fresh : {m : ℕ → ℕ} {p : ℕ} {t : List ℕ} → Dfs g m p t → Each (λ x. m x ≡ 0) t
  fresh (Dfs.stop {m = m} h) = each_nil (λ x. m x ≡ 0)
  fresh (Dfs.step {m = m} {p = p} {t = t} e a b) =
      each_cons (λ x. m x ≡ 0) e
      (each_append (λ x. m x ≡ 0) t (λ x h. before (mark-keeps m p x) (fresh a x h))
      (λ x h. before (λ k. marks-keeps (mark m p) t x (mark-keeps m p x k)) (fresh b x h)))

  pub all-fresh : {m : ℕ → ℕ} {ps t : List ℕ} → DfsAll g m ps t → Each (λ x. m x ≡ 0) t
  all-fresh (DfsAll.none {m = m}) = each_nil (λ x. m x ≡ 0)
  all-fresh (DfsAll.next {m = m} {t = t} a b) =
      each_append (λ x. m x ≡ 0) t (fresh a) (λ x h. before (marks-keeps m t x) (all-fresh b x h))

  -- A visit marks no cell twice.
  pub distinct : {m : ℕ → ℕ} {p : ℕ} {t : List ℕ} → Dfs g m p t → Distinct t
  distinct (Dfs.stop h) = Distinct.none
  distinct (Dfs.step {m = m} {p = p} {t = t} {u = u} e a b) =
      Distinct.more
      (λ h. ⊎_elim (λ (k : Memᴰ p t). omega (arith, mark_self m p p refl, fresh a p k))
      (λ (k : Memᴰ p u). omega (arith, marks-keeps (mark m p) t p (mark_self m p p refl), fresh b p k)) (Memᴰ.append_cases t h))
      (distinct_append (distinct a) (distinct b) (λ x h k. omega (arith, marks-member (mark m p) x h, fresh b x k)))

  pub all-distinct : {m : ℕ → ℕ} {ps t : List ℕ} → DfsAll g m ps t → Distinct t
  all-distinct DfsAll.none = Distinct.none
  all-distinct (DfsAll.next {m = m} a b) =
      distinct_append (distinct a) (all-distinct b) (λ x h k. omega (arith, marks-member m x h, all-fresh b x k))

  -- After its visit a link is marked.
  pub itself : {m : ℕ → ℕ} {p : ℕ} {t : List ℕ} → Dfs g m p t → 0 < marks m t p
  unfolding marks
  itself (Dfs.stop h) = h
  itself (Dfs.step {m = m} {p = p} {t = t} {u = u} e a b) = marks-keeps (mark m p) (t ++ u) p (mark_self m p p refl)

  pub all_itself : {m : ℕ → ℕ} {ps t : List ℕ} → DfsAll g m ps t → Each (λ x. 0 < marks m t x) ps
  all_itself (DfsAll.none {m = m}) = each_nil (λ x. 0 < marks m [] x)
  all_itself (DfsAll.next {m = m} {p = p} {ps = ps} {t = t} {u = u} a b) =
      rw (marks-append m t u)
      (each_cons (λ x. 0 < marks (marks m t) u x) (marks-keeps (marks m t) u p (itself a)) (all_itself b))

  -- The links of what a visit marks are marked after it.
  pub links : {m : ℕ → ℕ} {p : ℕ} {t : List ℕ} → Dfs g m p t → Each (Linked g (marks m t)) t
  unfolding marks
  links (Dfs.stop {m = m} h) = each_nil (Linked g m)
  links (Dfs.step {m = m} {p = p} {t = t} {u = u} e a b) =
      rw (marks-append (mark m p) t u)
      (each_cons (Linked g (marks (marks (mark m p) t) u)) (marks-keeps (marks (mark m p) t) u (g.left p) (itself a), itself b)
      (each_append (Linked g (marks (marks (mark m p) t) u)) t (λ x h. linked-keeps g (marks (mark m p) t) u x (links a x h))
      (links b)))

  pub all-links : {m : ℕ → ℕ} {ps t : List ℕ} → DfsAll g m ps t → Each (Linked g (marks m t)) t
  all-links (DfsAll.none {m = m}) = each_nil (Linked g (marks m []))
  all-links (DfsAll.next {m = m} {t = t} {u = u} a b) =
      rw (marks-append m t u)
      (each_append (Linked g (marks (marks m t) u)) t (λ x h. linked-keeps g (marks m t) u x (links a x h)) (all-links b))

  module _ {roots : List ℕ} where
    -- A visit of a link that is nil or reached marks only what is reached.
    pub reached : {m : ℕ → ℕ} {p : ℕ} {t : List ℕ} → Dfs g m p t → 0 < m 0 → (0 < p → Reach g roots p) → Each (Reach g roots) t
    reached (Dfs.stop h) z r = each_nil (Reach g roots)
    reached (Dfs.step {m = m} {p = p} {t = t} e a b) z r =
        let rp : Reach g roots p = r (above_nil m p z e) in
        let zp : 0 < mark m p 0 = mark-keeps m p 0 z in
        each_cons (Reach g roots) rp
        (each_append (Reach g roots) t (reached a zp (Reach.left rp)) (reached b (marks-keeps (mark m p) t 0 zp) (Reach.right rp)))

    pub all-reached : {m : ℕ → ℕ} {ps t : List ℕ} → DfsAll g m ps t → 0 < m 0 → Each (λ x. 0 < x → Reach g roots x) ps
        → Each (Reach g roots) t
    all-reached DfsAll.none z r = each_nil (Reach g roots)
    all-reached (DfsAll.next {m = m} {p = p} {t = t} a b) z r =
        each_append (Reach g roots) t (reached a z (r p (Memᴰ.head refl)))
        (all-reached b (marks-keeps m t 0 z) (λ x h. r x (Memᴰ.tail h)))

    -- The visits of the roots are a marker that has done its work.
    pub closure : {m : ℕ → ℕ} {t : List ℕ} → DfsAll g m roots t → 0 < m 0 → Closure g m roots (marks m t)
    closure {m} {t} d z =
        record {
          keeps = marks-keeps m t;
          rooted = all_itself d;
          closed = λ x e h. let (left, right) = all-links d x (newly x e h) in (omega arith, omega arith);
          only = λ x e h. all-reached d z (λ y k. Reach.root k) x (newly x e h);
        }
      where
        newly : (x : ℕ) → m x ≡ 0 → 0 < marks m t x → Memᴰ x t
        newly x e h = ⊎_elim (λ k. k) (λ k. absurd (omega arith)) (marks_cases m t x h)
