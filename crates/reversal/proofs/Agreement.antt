-- The words go on agreeing with the graph and the marks where marked cells are written, and after a visit is done.
use Prim.Native.Nat.{ℕ, zero, suc, ◌<◌, ◌≤◌}
use native.Mathlib.Omega.{arith}
use native.Mathlib.Decide.{ℕ_discrete, dec_le}
use mathlib.Core.Path.{◌≡◌, refl, sym, ap, ◌∙◌}
use mathlib.Core.Bool.{Bool, true, false, not}
use mathlib.Core.List.{List, [], ◌∷◌, Memᴰ}
use lib.Dec.{eqb}
use borrow.Author.Tests.{ne_eqb}
use Rattle.graph.specs.Graph.{Graph}
use Rattle.graph.specs.Dfs.{mark, marks, Dfs}
use Rattle.pool.specs.Layout.{cell, state, left, right, set_node, link_of}
use Rattle.pool.specs.States.{is_point, is_used, as_marked}
use Rattle.visit.specs.Visit.{unmarked}
use Rattle.reversal.specs.ReversalTheorem.{mark_all, Agreement, Untouched}
use Rattle.pool.proofs.Node.{length-set_node, cell-set_node, state-set_node, set_node-links}
use Rattle.pool.proofs.Links.{link-same}
use Rattle.pool.proofs.Sizes.{both}
use Rattle.pool.proofs.States.{marked-marked, marked_not_used}
use Rattle.graph.proofs.Marks.{above_nil, mark_self, mark_other}
use Rattle.graph.proofs.Visits.{fresh}

-- the cell that an unmarked link leads to is used
pub unmarked-state : (R x : ℕ) (w : List ℕ) → unmarked R w x ≡ true → is_used (state R w x) ≡ true
unmarked-state R x w e = (both (not (eqb x 0)) (is_used (state R w x)) e).1

module _ (R n : ℕ) (g : Graph) (point : ℕ → Bool) where
  -- what is unmarked is a cell
  pub unmarked-cell : {m : ℕ → ℕ} {w : List ℕ} → Agreement R n g point m w → (x : ℕ) → m x ≡ 0 → (0 < x) × (x ≤ n)
  unmarked-cell {m} a x e = (above_nil m x a.nil e, bounded (dec_le x n))
    where
      bounded : Dec (x ≤ n) → x ≤ n
      bounded (yes h) = h
      bounded (no h) = absurd (omega (arith, a.past x (omega arith)))

  -- the test of a link in the words tells whether it is marked
  pub unmarked-true : {m : ℕ → ℕ} {w : List ℕ} → Agreement R n g point m w → (x : ℕ) → m x ≡ 0 → unmarked R w x ≡ true
  unmarked-true {w = w} a x e =
      let hx = (unmarked-cell a x e).0 in simp (ne_eqb x 0 (omega arith), (a.unmarked x e).state)

  pub unmarked-false : {m : ℕ → ℕ} {w : List ℕ} → Agreement R n g point m w → (x : ℕ) → x ≤ n → 0 < m x → unmarked R w x ≡ false
  unmarked-false a zero hn h = refl
  unmarked-false {w = w} a (suc x) hn h =
      simp (ne_eqb (suc x) 0 (omega arith), a.marked (suc x) (omega arith) hn h)

  -- the state and the links of a cell are written, and the cell is marked from then on
  pub agreement-set_node : {m : ℕ → ℕ} {w : List ℕ} → Agreement R n g point m w → (m' : ℕ → ℕ) (p s l r : ℕ) → 0 < p → p ≤ n → is_used s ≡ false → 0 < m' p
      → ((x : ℕ) → (x ≡ p → ⊥) → m' x ≡ m x) → Agreement R n g point m' (set_node R w p s l r)
  agreement-set_node {m} {w} a m' p s l r hp hn hs hm other =
      record {
        room = rw length-set_node a.room;
        nil = omega (arith, other 0 (omega arith), a.nil);
        past = λ x h. omega (arith, other x (omega arith), a.past x h);
        unmarked = untouched;
        marked = λ x hx hxn hmx. stated x hx hxn hmx (ℕ_discrete x p);
      }
    where
      field : (x : ℕ) → (x ≡ p → ⊥) → 0 < x → (f : ℕ) → f < 4 → cell R (set_node R w p s l r) x f ≡ cell R w x f
      field x apart hx f hf = cell-set_node R w p hp s l r x f hx hf λ e. absurd (apart e)

      link : (x : ℕ) → (x ≡ p → ⊥) → 0 < x → (f : ℕ) → f < 4 → link_of R (set_node R w p s l r) x f ≡ link_of R w x f
      link x apart hx f hf = link-same R (set_node R w p s l r) w x x f (ap is_point (field x apart hx 0 (omega arith))) (field x apart hx f hf)

      untouched : (x : ℕ) → m' x ≡ 0 → Untouched R n g point (set_node R w p s l r) x
      untouched x e =
          let apart : (x ≡ p → ⊥) = λ e'. let z : m' p ≡ 0 = rw (← e') e in omega arith in
          let e₀ : m x ≡ 0 = sym (other x apart) ∙ e in
          let u = a.unmarked x e₀ in
          let hx = (unmarked-cell a x e₀).0 in
          record {
            state = ap is_used (field x apart hx 0 (omega arith)) ∙ u.state;
            kind = ap is_point (field x apart hx 0 (omega arith)) ∙ u.kind;
            left = link x apart hx 1 (omega arith) ∙ u.left;
            right = link x apart hx 2 (omega arith) ∙ u.right;
            left_bound = u.left_bound;
            right_bound = u.right_bound;
          }

      stated : (x : ℕ) → 0 < x → x ≤ n → 0 < m' x → Dec (x ≡ p) → is_used (state R (set_node R w p s l r) x) ≡ false
      stated x hx hxn hmx (yes e) = rw (e, state-set_node R w p hp (omega (arith, a.room)) s l r) hs
      stated x hx hxn hmx (no apart) = rw (field x apart hx 0 (omega arith)) (a.marked x hx hxn (rw (other x apart) at hmx))

  -- cells are marked in the words, and by the marks from then on
  pub agreement-mark_all : (t : List ℕ) {m : ℕ → ℕ} {w : List ℕ} → Agreement R n g point m w → ((x : ℕ) → Memᴰ x t → (0 < x) × (x ≤ n))
      → Agreement R n g point (marks m t) (mark_all R w t)
  unfolding marks mark_all
  agreement-mark_all [] a cells = a
  agreement-mark_all (x ∷ xs) {m} {w} a cells =
      let here = cells x (Memᴰ.head refl) in
      agreement-mark_all xs
      (rw (set_node-links R w x here.0) at
      (agreement-set_node a (mark m x) x (as_marked (state R w x)) (left R w x) (right R w x) here.0 here.1 (marked_not_used _ (marked-marked (state R w x))) (mark_self m x x refl) (mark_other m x)))
      λ y mem. cells y (Memᴰ.tail mem)

  -- so, too, after a visit: the next one can start
  pub agreement-dfs : {m : ℕ → ℕ} {w : List ℕ} {p : ℕ} {t : List ℕ} → Agreement R n g point m w → Dfs g m p t → Agreement R n g point (marks m t) (mark_all R w t)
  agreement-dfs {t = t} a d = agreement-mark_all t a λ x mem. unmarked-cell a x (fresh d x mem)

  -- what a visit newly marks are cells, other than one that is marked
  pub away : {m : ℕ → ℕ} {w : List ℕ} {l : ℕ} {t : List ℕ} → Agreement R n g point m w → Dfs g m l t → (p : ℕ) → 0 < m p
      → (x : ℕ) → Memᴰ x t → (0 < x) × (x ≡ p → ⊥)
  away {m} a d p hm x mem = let e = fresh d x mem in ((unmarked-cell a x e).0, λ e'. let z : m p ≡ 0 = rw (← e') e in omega arith)
