-- The words of a pool represent a state of the reference model: their cells are paired from the registers on, one to one, with equal kinds, values and
-- coordinates.
use Prim.Native.Nat.{ℕ, ◌<◌, ◌≤◌}
use native.Mathlib.Omega.{arith}
use mathlib.Core.Path.{◌≡◌, refl, sym, ap, ◌∙◌}
use mathlib.Core.Bool.{Bool, true, false}
use mathlib.Core.Logic.{◌↔◌, ◌⊎◌, inl, inr}
use mathlib.Core.List.Memᴰ
use mathlib.Core.List.{List, Forall₂}
use Rattle.graph.proofs.Lists.{Each}
use Rattle.graph.proofs.Reached.{reach_above}
use Rattle.graph.proofs.Theorems.{preorder-reached}
use lib.ListN.{length, get_or}
use Rattle.graph.specs.Graph.{Within}
use Rattle.graph.specs.Compare.{Paired, OneToOne}
use Rattle.graph.proofs.Pairing.{paired-least, paired_reach, pairing_kept, orders_paired, length-paired}
use Rattle.pool.specs.Layout.{register_count, register, cell, is_point_at, link_of, graph_of, roots_of}
use Rattle.pool.specs.States.{is_point}
use Rattle.pool.proofs.Links.{link-pair, link-point}
use Rattle.pool.proofs.Every.{length-tabulate, get_or-tabulate}
use Rattle.questions.proofs.PoolGraph.{Used, reached-used, pool-within}
use Rattle.reversal.specs.Reached.{reached_count, pair_count, point_count, visits_of, reached_visits}
use Rattle.reference.specs.Model.{Entry, Model, entry, entry_link, held, model_graph, live, live_visits}
use Rattle.reference.proofs.Places.{each_place}
use Rattle.invariant.proofs.Standing.{Standing}
use Rattle.reference.proofs.Fields.{Field, number, number-below, get, Related, related_map, link_related, Linked}

-- A link of the pool and one of the reference model that the same register leads to, over the same lefts and rights.
abbrev pub Pair : List ℕ → Model → ℕ → ℕ → Type 0
Pair w m = Paired (graph_of register_count w) (roots_of register_count w) (model_graph m) m.registers

-- Every register and every link of the reference model is nil or a place.
pub record Bounded (m : Model) : Type 0 where
  pub registers : length m.registers ≡ register_count
  pub roots : (k : ℕ) → held m k ≤ length m.cells
  pub cells : (x : ℕ) → Linked (length m.cells) (entry m x)

-- So it is a graph of its cells.
model_within : {m : Model} → Bounded m → Within (length m.cells) (model_graph m) m.registers
model_within {m} b =
    record {
      root = each_place (λ x. x ≤ length m.cells) m.registers b.roots;
      left = λ x r. (b.cells x).0;
      right = λ x r. (b.cells x).1;
    }

-- A cell x of the pool and a cell e of the model are of one kind, and their fields are related.
pub record Alike (P : ℕ → ℕ → Type 0) (w : List ℕ) (x : ℕ) (e : Entry) : Type 0 where
  pub kind : is_point_at register_count w x ≡ e.point
  pub field : (f : Field) → Related e.point P f (cell register_count w x (number f)) (get f e)

-- They are under every relation that holds where the first does.
pub alike-map : {P Q : ℕ → ℕ → Type 0} → ((x y : ℕ) → P x y → Q x y) → {w : List ℕ} {x : ℕ} {e : Entry} → Alike P w x e → Alike Q w x e
alike-map step {e = e} a = record { kind = a.kind; field = λ f. related_map e.point step f _ _ (a.field f) }

-- The same cell in other words, or the same entry in another place.
pub alike_same : {P : ℕ → ℕ → Type 0} {w : List ℕ} {x : ℕ} {e : Entry} (w' : List ℕ) → ((f : ℕ) → f < 4 → cell register_count w' x f ≡ cell register_count w x f)
    → Alike P w x e → Alike P w' x e
alike_same {P} {w} {x} {e} w' same a =
    record {
      kind = ap is_point (same 0 (omega arith)) ∙ a.kind;
      field = λ f. rw (same (number f) (number-below f)) (a.field f);
    }

-- What the registers lead to is the same in both, under other numbers.
pub record Represents (w : List ℕ) (m : Model) : Type 0 where
  pub bounded : Bounded m
  pub one_to_one : OneToOne (Pair w m)
  pub alike : (x y : ℕ) → Pair w m x y → 0 < x → 0 < y → Alike (Pair w m) w x (entry m y)

-- A relation and one pair more.
abbrev pub More : (ℕ → ℕ → Type 0) → ℕ → ℕ → ℕ → ℕ → Type 0
More P p q x y = P x y ⊎ ((x ≡ p) × (y ≡ q))

-- With one more it is one-to-one if that one agrees with each of the others.
pub more-one : (P : ℕ → ℕ → Type 0) → OneToOne P → (p q : ℕ) → (p ≡ 0) ↔ (q ≡ 0) → ((x y : ℕ) → P x y → (x ≡ p) ↔ (y ≡ q)) → OneToOne (More P p q)
more-one P one p q ends fits = record { nil = nil; forward = forward; backward = backward }
  where
    nil : (x y : ℕ) → More P p q x y → (x ≡ 0) ↔ (y ≡ 0)
    nil x y (inl a) = one.nil x y a
    nil x y (inr a) = (λ e. a.1 ∙ ends.0 (sym a.0 ∙ e), λ e. a.0 ∙ ends.1 (sym a.1 ∙ e))

    forward : (x y z : ℕ) → More P p q x y → More P p q x z → y ≡ z
    forward x y z (inl a) (inl b) = one.forward x y z a b
    forward x y z (inl a) (inr b) = (fits x y a).0 b.0 ∙ sym b.1
    forward x y z (inr a) (inl b) = a.1 ∙ sym ((fits x z b).0 a.0)
    forward x y z (inr a) (inr b) = a.1 ∙ sym b.1

    backward : (x y z : ℕ) → More P p q x z → More P p q y z → x ≡ y
    backward x y z (inl a) (inl b) = one.backward x y z a b
    backward x y z (inl a) (inr b) = (fits x z a).1 b.1 ∙ sym b.0
    backward x y z (inr a) (inl b) = a.0 ∙ sym ((fits y z b).1 a.1)
    backward x y z (inr a) (inr b) = a.0 ∙ sym b.0

-- Nil in both is such a pair.
pub nil-one : (P : ℕ → ℕ → Type 0) → OneToOne P → OneToOne (More P 0 0)
nil-one P one = more-one P one 0 0 (λ e. e, λ e. e) one.nil

-- The words represent the model if some one-to-one relation holds between their registers and, wherever it holds between two cells, these are alike.
pub rep_made : (w : List ℕ) (m : Model) (P : ℕ → ℕ → Type 0) → OneToOne P → Bounded m
    → ((k : ℕ) → k < register_count → P (register w k) (held m k))
    → ((x y : ℕ) → P x y → 0 < x → 0 < y → Alike P w x (entry m y))
    → Represents w m
rep_made w m P one bounded roots cells =
    record {
      bounded = bounded;
      one_to_one = pairing_kept (graph_of register_count w) (roots_of register_count w) (model_graph m) m.registers Nil (nil-one P one) starts links;
      alike = λ x y pair hx hy. paired x y pair hx hy (related (paired-least Nil starts links pair) hx);
    }
  where
    Nil : ℕ → ℕ → Type 0
    Nil = More P 0 0

    starts : (k : ℕ) → k < length (roots_of register_count w) → Nil (get_or (roots_of register_count w) k 0) (held m k)
    starts k low =
        let below : k < register_count = rw (length-tabulate register_count (λ j. register w j)) at low in
        rw (get_or-tabulate register_count (λ j. register w j) k 0 below) (inl (roots k below))

    -- of cells it is P that holds
    related : {x y : ℕ} → Nil x y → 0 < x → P x y
    related (inl a) hx = a
    related (inr a) hx = absurd (omega arith)

    -- a link of a pair, and nil of a point
    link : (x : ℕ) (e : Entry) → Alike P w x e → (f : Field) → number f < 3 → (t : Bool) → e.point ≡ t
        → Nil (link_of register_count w x (number f)) (entry_link e (get f e))
    link x e a f below true is = rw (link-point register_count w x (number f) (a.kind ∙ is), is) (inr (refl, refl))
    link x e a f below false is =
        rw (link-pair register_count w x (number f) (a.kind ∙ is), is) (inl ((link_related P f _ _ below).1 (rw is at (a.field f))))

    links : (x y : ℕ) → Nil x y → 0 < x → 0 < y
        → Nil (link_of register_count w x 1) (entry_link (entry m y) (entry m y).left) × Nil (link_of register_count w x 2) (entry_link (entry m y) (entry m y).right)
    links x y pair hx hy =
        let a = cells x y (related pair hx) hx hy in
        (link x (entry m y) a Field.left (omega arith) (entry m y).point refl, link x (entry m y) a Field.right (omega arith) (entry m y).point refl)

    -- what is alike by the relation is so by the pairs
    paired : (x y : ℕ) → Pair w m x y → 0 < x → 0 < y → P x y → Alike (Pair w m) w x (entry m y)
    paired x y pair hx hy r =
        let a = cells x y r hx hy in
        record { kind = a.kind; field = λ f. field a (entry m y).point refl f }
      where
        field : Alike P w x (entry m y) → (t : Bool) → (entry m y).point ≡ t → (f : Field)
            → Related (entry m y).point (Pair w m) f (cell register_count w x (number f)) (get f (entry m y))
        field a true is f = rw is (rw is at (a.field f))
        field a false is Field.left =
            rw is (rw (link-pair register_count w x 1 (a.kind ∙ is), is) at (Paired.left pair hx hy))
        field a false is Field.right =
            rw is (rw (link-pair register_count w x 2 (a.kind ∙ is), is) at (Paired.right pair hx hy))
        field a false is Field.value = rw is (rw is at (a.field Field.value))

module _ {w : List ℕ} {m : Model} (rep : Represents w m) where
  pub root-pair : (k : ℕ) → k < register_count → Pair w m (register w k) (held m k)
  root-pair k low =
      let start : Pair w m (get_or (roots_of register_count w) k 0) (held m k) =
      Paired.root k (rw (length-tabulate register_count (λ j. register w j)) low) in
      rw (get_or-tabulate register_count (λ j. register w j) k 0 low) at start

  -- A link of the reference model that is paired is nil or a place.
  pub pair_place : {x y : ℕ} → Pair w m x y → y ≤ length m.cells
  pair_place =
      paired-least (λ x y. y ≤ length m.cells) (λ i low. rep.bounded.roots i)
      (λ x y pair hx hy. ((rep.bounded.cells y).0, (rep.bounded.cells y).1))

  module _ {N : ℕ} (pool : Standing N w) where
    -- A cell of the pool that is paired is used.
    pub pair-used : {x y : ℕ} → Pair w m x y → 0 < x → Used register_count N w x
    pair-used pair some = reached-used pool.well (paired_reach pair some)

    -- As many cells are live as the pool keeps.
    pub kept-live : reached_count register_count N w ≡ live m
    kept-live =
        length-paired N (graph_of register_count w) (roots_of register_count w) (length m.cells) (model_graph m) m.registers
        (pool-within pool.well) (model_within rep.bounded)
        (length-tabulate register_count (λ j. register w j) ∙ sym rep.bounded.registers) rep.one_to_one

    -- And a collection makes as many visits as the model says, since the cells are of the same kinds, place by place.
    pub visits-live : reached_visits register_count N w ≡ live_visits m
    unfolding pair_count point_count
    visits-live =
        visits-paired (orders_paired N (graph_of register_count w) (roots_of register_count w) (length m.cells) (model_graph m) m.registers
        (pool-within pool.well) (model_within rep.bounded)
        (length-tabulate register_count (λ j. register w j) ∙ sym rep.bounded.registers) rep.one_to_one)
        (λ x mem. reach_above ((preorder-reached N (graph_of register_count w) (roots_of register_count w) (pool-within pool.well) x).0 mem))
      where
        visits-paired : {xs ys : List ℕ} → Forall₂ (Pair w m) xs ys → Each (λ x. 0 < x) xs
            → visits_of (is_point_at register_count w) xs ≡ visits_of (λ y. (entry m y).point) ys
        visits-paired Forall₂.nil above = refl
        visits-paired (Forall₂.cons {a = x} {b = y} pair rest) above =
            let low = above x (Memᴰ.head refl) in
            let other : y ≡ 0 → ⊥ = λ e. omega (arith, (rep.one_to_one.nil x y pair).1 e) in
            let kind : is_point_at register_count w x ≡ (entry m y).point = (rep.alike x y pair low (omega (arith, other))).kind in
            rw kind (omega (arith, visits-paired rest (λ z mem. above z (Memᴰ.tail mem))))
