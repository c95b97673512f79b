-- The visits of a link mark the same cells from the same marks, in a graph with the same links at the cells that are marked.
use Prim.Native.Nat.{ℕ, ◌<◌}
use native.Mathlib.Omega.{arith}
use mathlib.Core.Path.{◌≡◌, refl, sym, subst}
use mathlib.Core.Logic.{◌↔◌}
use mathlib.Core.List.Memᴰ
use mathlib.Core.List.{List, [], ◌∷◌}
use Rattle.graph.specs.Graph.{Graph}
use Rattle.graph.specs.Compare.{Agree}
use Rattle.graph.specs.Dfs.{Dfs, DfsAll, mark, marks}
use Rattle.graph.proofs.Lists.{Each}
use Rattle.graph.proofs.Marks.{before, mark_along}

module _ {g : Graph} where
  -- The visit of a link marks one list of cells only.
  pub functional : {m : ℕ → ℕ} {p : ℕ} {t u : List ℕ} → Dfs g m p t → Dfs g m p u → t ≡ u
  functional (Dfs.stop h) (Dfs.stop k) = refl
  functional (Dfs.stop h) (Dfs.step e a b) = absurd (omega arith)
  functional (Dfs.step e a b) (Dfs.stop k) = absurd (omega arith)
  functional (Dfs.step {m = m} {p = p} {t = t} {u = u} e a b) (Dfs.step {t = t'} {u = u'} e' a' b') =
      let left : t ≡ t' = functional a a' in
      let right : u ≡ u' = functional b (subst (λ (s : List ℕ). Dfs g (marks (mark m p) s) (g.right p) u') (sym left) b') in
      cc

  pub all_functional : {m : ℕ → ℕ} {ps t u : List ℕ} → DfsAll g m ps t → DfsAll g m ps u → t ≡ u
  all_functional DfsAll.none DfsAll.none = refl
  all_functional (DfsAll.next {m = m} {ps = ps} {t = t} {u = u} a b) (DfsAll.next {t = t'} {u = u'} a' b') =
      let first : t ≡ t' = functional a a' in
      let rest : u ≡ u' = all_functional b (subst (λ (s : List ℕ). DfsAll g (marks m s) ps u') (sym first) b') in
      cc

-- The same numbers are marked.
abbrev pub Same : (ℕ → ℕ) → (ℕ → ℕ) → Type 0
Same m f = (x : ℕ) → (0 < m x) ↔ (0 < f x)

pub same-mark : {m f : ℕ → ℕ} (p : ℕ) → Same m f → Same (mark m p) (mark f p)
same-mark {m} {f} p s x = (mark_along m f p p x x (λ e. e) (s x).0, mark_along f m p p x x (λ e. e) (s x).1)

pub same-marks : {m f : ℕ → ℕ} (t : List ℕ) → Same m f → Same (marks m t) (marks f t)
unfolding marks
same-marks [] s = s
same-marks {m = m} {f = f} (p ∷ t) s = same-marks {m = mark m p} {f = mark f p} t (same-mark p s)

module _ {g h : Graph} where
  -- A visit marks the same cells in the second graph, from marks of the same numbers.
  pub transfer : {m f : ℕ → ℕ} {p : ℕ} {t : List ℕ} → Dfs g m p t → Each (Agree g h) t → Same m f → Dfs h f p t
  transfer (Dfs.stop {p = p} k) agree s = Dfs.stop ((s p).0 k)
  transfer {f = f} (Dfs.step {m = m} {p = p} {t = t} {u = u} e a b) agree s =
      let here : Agree g h p = agree p (Memᴰ.head refl) in
      let sp : Same (mark m p) (mark f p) = same-mark p s in
      Dfs.step (before (s p).1 e)
      (subst (λ (q : ℕ). Dfs h (mark f p) q t) here.left (transfer a (λ x k. agree x (Memᴰ.tail (Memᴰ.append_left u k))) sp))
      (subst (λ (q : ℕ). Dfs h (marks (mark f p) t) q u) here.right
      (transfer b (λ x k. agree x (Memᴰ.tail (Memᴰ.append_right t k))) (same-marks t sp)))

  pub all_transfer : {m f : ℕ → ℕ} {ps t : List ℕ} → DfsAll g m ps t → Each (Agree g h) t → Same m f → DfsAll h f ps t
  all_transfer DfsAll.none agree s = DfsAll.none
  all_transfer (DfsAll.next {t = t} {u = u} a b) agree s =
      DfsAll.next (transfer a (λ x k. agree x (Memᴰ.append_left u k)) s)
      (all_transfer b (λ x k. agree x (Memᴰ.append_right t k)) (same-marks t s))
