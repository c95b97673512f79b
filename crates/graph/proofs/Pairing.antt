-- Two graphs whose pairing is one-to-one are visited in step.
use Prim.Native.Nat.{ℕ, ◌<◌}
use native.Mathlib.Omega.{arith}
use mathlib.Core.Path.{◌≡◌, sym, subst}
use mathlib.Core.Logic.{⊎_elim, ◌↔◌}
use mathlib.Core.List.{List, [], ◌∷◌, ◌++◌, Forall₂}
use lib.ListN.{length, get_or}
use Rattle.graph.specs.Graph.{Graph, Reach, Within}
use Rattle.graph.specs.Preorder.{preorder}
use Rattle.graph.specs.Marking.{outside}
use Rattle.graph.specs.Compare.{Paired, OneToOne}
use Rattle.graph.specs.Theorems.{PreorderPaired, LengthPaired, PairingKept}
use Rattle.graph.specs.Dfs.{Dfs, DfsAll, mark, marks}
use Rattle.graph.proofs.Lists.{get_or-member, forall₂_places, forall₂_get_or, forall₂_length, forall₂_append}
use Rattle.graph.proofs.Marks.{before, zero_or_above, mark_along, mark-keeps, marks-keeps, above_nil, outside-cell, outside-nil}
use Rattle.graph.proofs.Reached.{reach_within}
use Rattle.graph.proofs.Transfer.{all_functional}
use Rattle.graph.proofs.Depth.{order-dfs}

module _ (g : Graph) (rs : List ℕ) (h : Graph) (ss : List ℕ) where
  -- Of two links that are paired one is marked where the other is.
  abbrev Alike : (ℕ → ℕ) → (ℕ → ℕ) → Type 0
  Alike m f = (x y : ℕ) → Paired g rs h ss x y → (0 < m x) ↔ (0 < f y)

  -- The visit of a link of the first graph, and one of the second that marks cells paired with those, place by place.
  record InStep (f : ℕ → ℕ) (q : ℕ) (t : List ℕ) : Type 0 where
    list : List ℕ
    dfs : Dfs h f q list
    pairs : Forall₂ (Paired g rs h ss) t list

  record AllInStep (f : ℕ → ℕ) (qs t : List ℕ) : Type 0 where
    list : List ℕ
    dfs : DfsAll h f qs list
    pairs : Forall₂ (Paired g rs h ss) t list

  module _ (o : OneToOne (Paired g rs h ss)) where
    alike-mark : {m f : ℕ → ℕ} {p q : ℕ} → Paired g rs h ss p q → Alike m f → Alike (mark m p) (mark f q)
    alike-mark {m} {f} {p} {q} r s x y c = (
      mark_along m f p q x y (λ e. o.forward p y q (subst (λ (z : ℕ). Paired g rs h ss z y) e c) r) (s x y c).0,
      mark_along f m q p y x (λ e. o.backward x p q (subst (λ (z : ℕ). Paired g rs h ss x z) e c) r) (s x y c).1,
    )

    alike-marks : {t u : List ℕ} → Forall₂ (Paired g rs h ss) t u → {m f : ℕ → ℕ} → Alike m f → Alike (marks m t) (marks f u)
    unfolding marks
    alike-marks Forall₂.nil s = s
    alike-marks (Forall₂.cons r rest) s = alike-marks rest (alike-mark r s)

    in_step : {m : ℕ → ℕ} {p : ℕ} {t : List ℕ} → Dfs g m p t → {f : ℕ → ℕ} {q : ℕ} → Paired g rs h ss p q → 0 < m 0 → Alike m f
        → InStep f q t
    in_step (Dfs.stop {p = p} k) {q = q} r z s = record { list = []; dfs = Dfs.stop ((s p q r).0 k); pairs = Forall₂.nil }
    in_step (Dfs.step {m = m} {p = p} {t = t} {u = u} e a b) {f} {q} r z s =
        let hp : 0 < p = above_nil m p z e in
        let hq : 0 < q = ⊎_elim (λ k. absurd (omega (arith, (o.nil p q r).1 k))) (λ k. k) (zero_or_above q) in
        let zp : 0 < mark m p 0 = mark-keeps m p 0 z in
        let sp : Alike (mark m p) (mark f q) = alike-mark r s in
        let l : InStep (mark f q) (h.left q) t = in_step a (Paired.left r hp hq) zp sp in
        let zt : 0 < marks (mark m p) t 0 = marks-keeps (mark m p) t 0 zp in
        let n : InStep (marks (mark f q) l.list) (h.right q) u = in_step b (Paired.right r hp hq) zt (alike-marks l.pairs sp) in
        record {
          list = q ∷ (l.list ++ n.list);
          dfs = Dfs.step (before (s p q r).1 e) l.dfs n.dfs;
          pairs = Forall₂.cons r (forall₂_append l.pairs n.pairs);
        }

    all_in_step : {ps qs : List ℕ} → Forall₂ (Paired g rs h ss) ps qs → {m f : ℕ → ℕ} {t : List ℕ} → DfsAll g m ps t → 0 < m 0
        → Alike m f → AllInStep f qs t
    all_in_step Forall₂.nil DfsAll.none z s = record { list = []; dfs = DfsAll.none; pairs = Forall₂.nil }
    all_in_step (Forall₂.cons r rest) {f = f} (DfsAll.next {m = m} {t = t} {u = u} a b) z s =
        let i = in_step a r z s in
        let n = all_in_step rest b (marks-keeps m t 0 z) (alike-marks i.pairs s) in
        record { list = i.list ++ n.list; dfs = DfsAll.next i.dfs n.dfs; pairs = forall₂_append i.pairs n.pairs }

-- What holds of the pairs of roots, and with a pair of cells of their links, holds of every pair.
pub paired-least : {g : Graph} {rs : List ℕ} {h : Graph} {ss : List ℕ} (P : ℕ → ℕ → Type 0)
    → ((i : ℕ) → i < length rs → P (get_or rs i 0) (get_or ss i 0))
    → ((x y : ℕ) → P x y → 0 < x → 0 < y → P (g.left x) (h.left y) × P (g.right x) (h.right y)) → {x y : ℕ}
    → Paired g rs h ss x y → P x y
paired-least P r l (Paired.root i k) = r i k
paired-least P r l (Paired.left {x = x} {y = y} a hx hy) = (l x y (paired-least P r l a) hx hy).0
paired-least P r l (Paired.right {x = x} {y = y} a hx hy) = (l x y (paired-least P r l a) hx hy).1

-- Of two links that are paired, the first is nil or reached.
pub paired_reach : {g : Graph} {rs : List ℕ} {h : Graph} {ss : List ℕ} {x y : ℕ} → Paired g rs h ss x y → 0 < x → Reach g rs x
paired_reach {g} {rs} =
    paired-least (λ x y. 0 < x → Reach g rs x) (λ i k. Reach.root (get_or-member rs i k))
    (λ x y r hx hy. (Reach.left (r hx), Reach.right (r hx)))

-- The pairing goes both ways.
pub paired_flip : {g : Graph} {rs : List ℕ} {h : Graph} {ss : List ℕ} → length rs ≡ length ss → {x y : ℕ}
    → Paired g rs h ss x y → Paired h ss g rs y x
paired_flip {g} {rs} {h} {ss} e =
    paired-least (λ x y. Paired h ss g rs y x) (λ i k. Paired.root i (omega arith))
    (λ x y r hx hy. (Paired.left r hy hx, Paired.right r hy hx))

-- In a graph of n cells a link that is nil or reached is marked at the start where it is nil.
start : {n : ℕ} {g : Graph} {roots : List ℕ} → Within n g roots → (x : ℕ) → (0 < x → Reach g roots x) → 0 < outside n x → x ≡ 0
start {n} w x r h = ⊎_elim (λ e. e) (λ k. absurd (omega (arith, outside-cell n x k (reach_within w (r k))))) (zero_or_above x)

start_nil : (n x : ℕ) → x ≡ 0 → 0 < outside n x
start_nil n x e = subst (λ (z : ℕ). 0 < outside n z) (sym e) (outside-nil n)

module _ (n : ℕ) (g : Graph) (rs : List ℕ) (k : ℕ) (h : Graph) (ss : List ℕ) (w : Within n g rs) (v : Within k h ss)
    (e : length rs ≡ length ss) (o : OneToOne (Paired g rs h ss)) where
  start_alike : Alike g rs h ss (outside n) (outside k)
  start_alike x y r = (
    λ a. start_nil k y ((o.nil x y r).0 (start w x (paired_reach r) a)),
    λ a. start_nil n x ((o.nil x y r).1 (start v y (paired_reach (paired_flip e r)) a)),
  )

  pub orders_paired : Forall₂ (Paired g rs h ss) (preorder n g rs) (preorder k h ss)
  orders_paired =
      let walk : AllInStep g rs h ss (outside k) ss (preorder n g rs) =
      all_in_step g rs h ss o (forall₂_places rs ss e Paired.root) (order-dfs n g rs w) (outside-nil n) start_alike
      in
      subst (Forall₂ (Paired g rs h ss) (preorder n g rs)) (all_functional walk.dfs (order-dfs k h ss v)) walk.pairs

pub preorder-paired : PreorderPaired
preorder-paired n g rs k h ss w v e o = forall₂_get_or (orders_paired n g rs k h ss w v e o)

pub length-paired : LengthPaired
length-paired n g rs k h ss w v e o = forall₂_length (orders_paired n g rs k h ss w v e o)

pub pairing_kept : PairingKept
pairing_kept g rs h ss P o roots links =
    record {
      nil = λ x y a. o.nil x y (within a);
      forward = λ x y z a b. o.forward x y z (within a) (within b);
      backward = λ x y z a b. o.backward x y z (within a) (within b);
    }
  where
    within : {x y : ℕ} → Paired g rs h ss x y → P x y
    within = paired-least P roots links
