-- Walks in two pools that answer every list of reads alike: from a register over left and right links to any links that are paired.
use Prim.Native.Nat.{ℕ, zero, suc, ◌+◌, ◌<◌}
use native.Mathlib.Omega.{arith}
use mathlib.Core.Path.{◌≡◌, refl, sym, ap, ◌∙◌}
use mathlib.Core.Logic.{◌↔◌}
use mathlib.Core.List.{List, [], ◌∷◌}
use mathlib.Core.Bool.{Bool, true, false, cond}
use lib.Seq.{set-set}
use lib.Dec.{eqb}
use borrow.Author.Tests.{eq-eqb, eqb-true}
use Rattle.graph.specs.Compare.{Paired, OneToOne}
use Rattle.pool.specs.Layout.{register_count, first_register, register, set_register, cell, is_point_at, link_of}
use Rattle.pool.specs.States.{is_point}
use Rattle.pool.proofs.Laws.{cell-set_register, register_other}
use Rattle.pool.proofs.Links.{link-pair, link-point, link-same}
use Rattle.pool.proofs.Every.{length-tabulate, get_or-tabulate}
use Rattle.questions.specs.Questions.{are_registers}
use Rattle.questions.proofs.WellFormed.{Link, link_made}
use Rattle.answers.specs.Outcome.{Outcome, answered, given}
use Rattle.operations.specs.Operations.{follow_in}
use Rattle.calls.specs.declared.Call.{Call}
use Rattle.calls.specs.declared.Call.TheVariants as call
use Rattle.calls.specs.Calls.{registers_of, body_of}
use Rattle.invariant.proofs.Standing.{Standing, holds_link_lem, on_kind_lem, held_link, link-set_register, standing_register}
use Rattle.observation.specs.Reads.{is_read}
use Rattle.observation.proofs.Related.{PairedLinks, BothFields, SameContent}
use Rattle.observation.proofs.Answers.{Alike, flip, there, said, set-alike, nil_too, held_content}

-- A register that is set twice.
set-again : (u : List ℕ) (t x y : ℕ) → set_register (set_register u t x) t y ≡ set_register u t y
unfolding set_register
set-again u t x y = set-set u (first_register + t) x y

-- Another register than k: of the first two.
abbrev another : ℕ → ℕ
another zero = 1
another (suc k) = 0

another_there : (k : ℕ) → (another k < register_count) × (another k ≡ k → ⊥)
another_there zero = (omega arith, λ e. omega arith)
another_there (suc k) = (omega arith, λ e. omega arith)

-- The pool u' has the cells of u, and any registers.
abbrev SameCells : List ℕ → List ℕ → Type 0
SameCells u u' = (i f : ℕ) → cell register_count u' i f ≡ cell register_count u i f

set-cells : (u : List ℕ) (t x : ℕ) → t < register_count → SameCells u (set_register u t x)
set-cells u t x low i f = cell-set_register register_count u t x i f low

-- A link of the cell that register t holds: of a pair, `left t t` or `right t t` puts it there.
follow_there : {N : ℕ} {u : List ℕ} → Standing N u → (t f : ℕ) → t < register_count → 0 < f → f < 3 → 0 < register u t
    → is_point_at register_count u (register u t) ≡ false
    → Link register_count N u (link_of register_count u (register u t) f)
    × (follow_in N u f t t ≡ (answered [], set_register u t (link_of register_count u (register u t) f)))
follow_there {N} {u} pool t f low positive below some pair =
    let link = held_link pool t low some pair f positive below in
    let here = link-pair register_count u (register u t) f pair in
    (rw here link, rw (here, on_kind_lem pool t low some false _, pair, link_made register_count N u (cell register_count u (register u t) f) link) refl)

-- A call for each register t, `left t t` or `right t t`, which follows field f from there and puts the link there.
record Follows (f : ℕ) (c : ℕ → Call) : Type 0 where
  above : 0 < f
  below : f < 3
  read : (t : ℕ) → is_read (c t) ≡ true
  asked : (t : ℕ) → t < register_count → are_registers (registers_of (c t)) ≡ true
  does : (t n : ℕ) (u : List ℕ) → body_of (c t) n u ≡ follow_in n u f t t

left-follows : Follows 1 (λ t. call.Left t t)
left-follows = record { above = omega arith; below = omega arith; read = λ t. refl; asked = λ t low. there (t ∷ t ∷ []) (low, (low, tt)); does = λ t n u. refl }

right-follows : Follows 2 (λ t. call.Right t t)
right-follows = record { above = omega arith; below = omega arith; read = λ t. refl; asked = λ t low. there (t ∷ t ∷ []) (low, (low, tt)); does = λ t n u. refl }

-- The pools after the links of both cells that register t holds are put there, in the place of the cells: those of points by `clear`.
follow_alike : {N M : ℕ} {w v : List ℕ} → Alike N M w v → (t : ℕ) → t < register_count → {f : ℕ} {c : ℕ → Call} → Follows f c → 0 < register w t
    → 0 < register v t → Alike N M (set_register w t (link_of register_count w (register w t) f)) (set_register v t (link_of register_count v (register v t) f))
follow_alike {N} {M} {w} {v} a t low {f} {c} by some some' = go (is_point_at register_count w (register w t)) refl
  where
    kind : is_point_at register_count w (register w t) ≡ is_point_at register_count v (register v t)
    kind = (held_content a t low some some').kind

    go : (s : Bool) → is_point_at register_count w (register w t) ≡ s
        → Alike N M (set_register w t (link_of register_count w (register w t) f)) (set_register v t (link_of register_count v (register v t) f))
    go true is =
        rw (link-point register_count w (register w t) f is, link-point register_count v (register v t) f (sym kind ∙ is))
        (set-alike a (call.Clear t) refl (there (t ∷ []) (low, tt)) t 0 0 low (Link.nil refl) (Link.nil refl) refl refl)
    go false is =
        let one = follow_there a.first t f low by.above by.below some is in
        let two = follow_there a.second t f low by.above by.below some' (sym kind ∙ is) in
        set-alike a (c t) (by.read t) (by.asked t low) t _ _ low one.0 two.0 (by.does t N w ∙ one.1) (by.does t M v ∙ two.1)

module _ (N M : ℕ) (w v : List ℕ) where
  -- The link x of w and the link y of v are led to from one register, `start`: where two pools have the cells of w and v, hold there what they hold, and answer
  -- alike, they do so with x and y in any register t.
  record Walkable (x y : ℕ) : Type 0 where
    start : ℕ
    low : start < register_count
    walk : (w' v' : List ℕ) → SameCells w w' → SameCells v v' → register w' start ≡ register w start → register v' start ≡ register v start
        → (t : ℕ) → t < register_count → Alike N M w' v' → Alike N M (set_register w' t x) (set_register v' t y)

  walk-root : (i : ℕ) → i < register_count → Walkable (register w i) (register v i)
  walk-root i below =
      record {
        start = i;
        low = below;
        walk = λ w' v' same same' e e' t low a.
            rw (e, e') at
            (set-alike a (call.Copy t i) refl (there (t ∷ i ∷ []) (low, (below, tt))) t (register w' i) (register v' i) low
            (a.first.well.registers i below) (a.second.well.registers i below)
            (rw (holds_link_lem a.first i below) refl) (rw (holds_link_lem a.second i below) refl));
      }

  -- From two cells to their links.
  walk-link : {x y : ℕ} → Walkable x y → 0 < x → 0 < y → {f : ℕ} {c : ℕ → Call} → Follows f c
      → Walkable (link_of register_count w x f) (link_of register_count v y f)
  walk-link {x} {y} from hx hy {f} by =
      record {
        start = from.start;
        low = from.low;
        walk = λ w' v' same same' e e' t low a.
            let b = from.walk w' v' same same' e e' t low a in
            let one = standing_register a.first t x low in
            let two = standing_register a.second t y low in
            let next = follow_alike b t low by (rw one hx) (rw two hy) in
            rw (one, two, set-again w' t x _, set-again v' t y _, linked w w' same t x x low, linked v v' same' t y y low) at next;
      }
    where
      linked : (u u' : List ℕ) → SameCells u u' → (t z i : ℕ) → t < register_count → link_of register_count (set_register u' t z) i f ≡ link_of register_count u i f
      linked u u' same t z i low =
          link-set_register u' t z i f low ∙ link-same register_count u' u i i f (ap is_point (same i 0)) (same i f)

  walkable : {x y : ℕ} → PairedLinks w v x y → Walkable x y
  walkable (Paired.root i below) =
      let low : i < register_count = omega (arith, length-tabulate register_count (λ k. register w k)) in
      rw (get_or-tabulate register_count (λ k. register w k) i 0 low, get_or-tabulate register_count (λ k. register v k) i 0 low) (walk-root i low)
  walkable (Paired.left p hx hy) = walk-link (walkable p) hx hy left-follows
  walkable (Paired.right p hx hy) = walk-link (walkable p) hx hy right-follows

  module _ (alike : Alike N M w v) where
    -- Walked to, in the register where the walk starts: nil in both, or cells with the same content.
    arrived : {x y : ℕ} (p : Walkable x y) → Alike N M (set_register w p.start x) (set_register v p.start y)
    arrived p = p.walk w v (λ i f. refl) (λ i f. refl) refl refl p.start p.low alike

    walked_nil : {x y : ℕ} → Walkable x y → (x ≡ 0) ↔ (y ≡ 0)
    walked_nil {x} {y} p =
        let one = standing_register alike.first p.start x p.low in
        let two = standing_register alike.second p.start y p.low in (
          λ e. sym two ∙ nil_too (arrived p) p.start p.low (one ∙ e),
          λ e. sym one ∙ nil_too (flip (arrived p)) p.start p.low (two ∙ e),
        )

    walked_content : {x y : ℕ} → Walkable x y → 0 < x → 0 < y → SameContent BothFields w v x y
    walked_content {x} {y} p hx hy =
        let k = p.start in
        let one = standing_register alike.first k x p.low in
        let two = standing_register alike.second k y p.low in
        let same : SameContent BothFields (set_register w k x) (set_register v k y) x y =
        rw (one, two) at (held_content (arrived p) k p.low (rw one hx) (rw two hy)) in
        record {
          kind = rw (set-cells w k x p.low x 0, set-cells v k y p.low y 0) at same.kind;
          value = rw (set-cells w k x p.low x 3, set-cells v k y p.low y 3) at same.value;
          coordinates = λ point f both.
              rw (set-cells w k x p.low x f, set-cells v k y p.low y f) at (same.coordinates (rw (set-cells w k x p.low x 0) point) f both);
        }

    -- Two walks meet in both pools or in none: the second goes first, in another register than the one where the first starts, and `same` compares the two.
    meet : {x y x' y' : ℕ} → Walkable x y → Walkable x' y' → (x ≡ x') ↔ (y ≡ y')
    meet {x} {y} {x'} {y'} p q =
        let told = said first (call.Same k s) refl (there (k ∷ s ∷ []) (p.low, (other.0, tt))) in
        tests (rw (
          holds_link_lem first.first k p.low,
          holds_link_lem first.first s other.0,
          holds_link_lem first.second k p.low,
          holds_link_lem first.second s other.0,
          standing_register second.first k x p.low,
          standing_register second.second k y p.low,
          register_other register_count (set_register w s x') k x s other.1,
          register_other register_count (set_register v s y') k y s other.1,
          standing_register alike.first s x' other.0,
          standing_register alike.second s y' other.0,
        ) at told)
      where
        k : ℕ
        k = p.start

        s : ℕ
        s = another k

        other : (s < register_count) × (s ≡ k → ⊥)
        other = another_there k

        apart : k ≡ s → ⊥
        apart e = other.1 (sym e)

        second : Alike N M (set_register w s x') (set_register v s y')
        second = q.walk w v (λ i f. refl) (λ i f. refl) refl refl s other.0 alike

        first : Alike N M (set_register (set_register w s x') k x) (set_register (set_register v s y') k y)
        first =
            p.walk (set_register w s x') (set_register v s y') (set-cells w s x' other.0) (set-cells v s y' other.0)
            (register_other register_count w s x' k apart) (register_other register_count v s y' k apart) k p.low second

        tests : answered (cond (eqb x x') 1 0 ∷ []) ≡ answered (cond (eqb y y') 1 0 ∷ []) → (x ≡ x') ↔ (y ≡ y')
        tests e =
            let same : ◌≡◌ {A = ℕ} (cond (eqb x x') 1 0) (cond (eqb y y') 1 0) = ap (λ (o : Outcome). given o 0 0) e in (
              λ h. eqb-true y y' (one (eqb y y') (sym same ∙ rw (eq-eqb x x' h) refl)),
              λ h. eqb-true x x' (one (eqb x x') (same ∙ rw (eq-eqb y y' h) refl)),
            )
          where
            one : (t : Bool) → ◌≡◌ {A = ℕ} (cond t 1 0) 1 → t ≡ true
            one true e = refl
            one false e = absurd (omega arith)

  -- So the pairing of the two graphs is one-to-one, and cells that are paired have the same content.
  pub alike-paired : Alike N M w v → OneToOne (PairedLinks w v)
  alike-paired alike =
      record {
        nil = λ x y p. walked_nil alike (walkable p);
        forward = λ x y z p q. (meet alike (walkable p) (walkable q)).0 refl;
        backward = λ x y z p q. (meet alike (walkable p) (walkable q)).1 refl;
      }

  pub alike_content : Alike N M w v → (x y : ℕ)
      → PairedLinks w v x y → 0 < x → 0 < y → SameContent BothFields w v x y
  alike_content alike x y p = walked_content alike (walkable p)
