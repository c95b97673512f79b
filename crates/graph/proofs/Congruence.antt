-- What a visit newly marks depends on no mark but those of the cells that can be reached.
use Prim.Native.Nat.{ℕ, zero, suc, ◌<◌}
use native.Mathlib.Omega.{arith}
use native.Mathlib.Decide.{ℕ_discrete}
use mathlib.Core.Path.{◌≡◌, refl}
use mathlib.Core.Logic.{◌↔◌}
use mathlib.Core.List.{List, [], ◌∷◌, Memᴰ}
use Rattle.graph.specs.Graph.{Graph, Reach}
use Rattle.graph.specs.Dfs.{mark, marks, Dfs, DfsAll}
use Rattle.graph.proofs.Marks.{above_nil, mark_self, mark-keeps, mark_other}

-- Two marks agree on nil, which both mark, and on every cell that the roots reach.
pub record Alike (g : Graph) (roots : List ℕ) (m m' : ℕ → ℕ) : Type 0 where
  pub nil : 0 < m 0
  pub nil' : 0 < m' 0
  pub reached : (x : ℕ) → Reach g roots x → (m x ≡ 0) ↔ (m' x ≡ 0)

module _ (g : Graph) (roots : List ℕ) where
  alike-mark : {m m' : ℕ → ℕ} → Alike g roots m m' → (p : ℕ) → Alike g roots (mark m p) (mark m' p)
  alike-mark {m} {m'} a p =
      record {
        nil = mark-keeps m p 0 a.nil;
        nil' = mark-keeps m' p 0 a.nil';
        reached = λ x reach. reached x reach (ℕ_discrete x p);
      }
    where
      reached : (x : ℕ) → Reach g roots x → Dec (x ≡ p) → (mark m p x ≡ 0) ↔ (mark m' p x ≡ 0)
      reached x reach (yes e) =
          let h : 0 < mark m p x = mark_self m p x e in
          let h' : 0 < mark m' p x = mark_self m' p x e in (λ z. absurd (omega arith), λ z. absurd (omega arith))
      reached x reach (no apart) = rw (mark_other m p x apart, mark_other m' p x apart) (a.reached x reach)

  alike-marks : (t : List ℕ) {m m' : ℕ → ℕ} → Alike g roots m m' → Alike g roots (marks m t) (marks m' t)
  unfolding marks
  alike-marks [] a = a
  alike-marks (x ∷ xs) a = alike-marks xs (alike-mark a x)

  -- a link that is nil or reached
  alike-link : {m m' : ℕ → ℕ} → Alike g roots m m' → (x : ℕ) → (0 < x → Reach g roots x) → (m x ≡ 0) ↔ (m' x ≡ 0)
  alike-link a zero reach = (λ z. absurd (omega (arith, a.nil)), λ z. absurd (omega (arith, a.nil')))
  alike-link a (suc x) reach = a.reached (suc x) (reach (omega arith))

  visit-alike : {m : ℕ → ℕ} {p : ℕ} {t : List ℕ} → Dfs g m p t → {m' : ℕ → ℕ} → Alike g roots m m' → (0 < p → Reach g roots p) → Dfs g m' p t
  visit-alike (Dfs.stop {m = m} {p = p} marked) {m'} a reach = Dfs.stop (still (ℕ_discrete (m' p) 0))
    where
      still : Dec (m' p ≡ 0) → 0 < m' p
      still (yes e) = absurd (omega (arith, (alike-link a p reach).1 e))
      still (no e) = omega arith
  visit-alike (Dfs.step {m = m} {p = p} {t = t} e dl dr) a reach =
      let here : Reach g roots p = reach (above_nil m p a.nil e) in
      Dfs.step ((alike-link a p reach).0 e) (visit-alike dl (alike-mark a p) λ h. Reach.left here h)
      (visit-alike dr (alike-marks t (alike-mark a p)) λ h. Reach.right here h)

  visits-alike : {m : ℕ → ℕ} {ps t : List ℕ} → DfsAll g m ps t → {m' : ℕ → ℕ} → Alike g roots m m' → ((x : ℕ) → Memᴰ x ps → Memᴰ x roots)
      → DfsAll g m' ps t
  visits-alike DfsAll.none a rooted = DfsAll.none
  visits-alike (DfsAll.next {p = p} {t = t} d rest) a rooted =
      DfsAll.next (visit-alike d a λ h. Reach.root (rooted p (Memᴰ.head refl)) h)
      (visits-alike rest (alike-marks t a) λ x mem. rooted x (Memᴰ.tail mem))

-- the visits of several links, where the marks are alike
pub dfs-all_alike : {g : Graph} {m m' : ℕ → ℕ} {ps t : List ℕ} → Alike g ps m m' → DfsAll g m ps t → DfsAll g m' ps t
dfs-all_alike {g} {ps = ps} a d = visits-alike g ps d a λ x mem. mem
