-- One call on a pool and on the reference model that it represents: every call but `new`, `point` and `collect`.
use Prim.Native.Nat.{ℕ, ◌<◌}
use native.Mathlib.Omega.{arith}
use native.Mathlib.Decide.{ℕ_discrete}
use mathlib.Core.Path.{◌≡◌, refl, sym, subst, ◌∙◌}
use mathlib.Core.Logic.{◌↔◌, inl, inr, ⊎_elim}
use mathlib.Core.List.{List, [], ◌∷◌}
use mathlib.Core.Bool.{Bool, true, false, cond, not}
use lib.Dec.{eqb}
use borrow.Author.Tests.{eq-eqb, ne_eqb}
use Rattle.graph.proofs.Marks.{zero_or_above}
use Rattle.pool.specs.Layout.{register_count, register, set_register, cell, set_cell, is_point_at}
use Rattle.answers.specs.Outcome.{Outcome, answered, refused}
use Rattle.questions.proofs.WellFormed.{link_made}
use Rattle.operations.specs.Operations.{with_cell, with_kind, copy_in, clear_in, follow_in, link_in, set_value_in, value_in, coordinate_in, same_in}
use Rattle.reference.specs.Model.{Model, entry, held, hold, replace, done, on_cell, on_kind}
use Rattle.invariant.proofs.Standing.{Standing, holds_link_lem, on_nil, on_cell_lem, on_nil_kind, on_kind_lem, held_link}
use Rattle.reference.proofs.Fields.{Field, number, number_above, get, put, Related, link_related, value_related}
use Rattle.reference.proofs.Represents.{Pair, More, Alike, Represents, root-pair}
use Rattle.reference.proofs.Writes.{rep_hold, rep_put}

-- The same answer, and what is left of the pool represents what is left of the reference model.
pub record Step (p : Outcome × List ℕ) (q : Outcome × Model) : Type 0 where
  pub answer : p.0 ≡ q.0
  pub rep : Represents p.1 q.1

module _ {N : ℕ} {w : List ℕ} {m : Model} (pool : Standing N w) (rep : Represents w m) where
  pub unchanged : (o : Outcome) → Step (o, w) (o, m)
  unchanged o = record { answer = refl; rep = rep }

  -- Does a hold a cell?
  cell-step : (a : ℕ) → a < register_count → (p : ℕ → Outcome × List ℕ) (q : Outcome × Model)
      → (0 < register w a → 0 < held m a → Step (p (register w a)) q) → Step (with_cell N w a p) (on_cell m a (λ e. q))
  cell-step a low p q next = ⊎_elim none one (zero_or_above (held m a))
    where
      nil : (register w a ≡ 0) ↔ (held m a ≡ 0)
      nil = rep.one_to_one.nil (register w a) (held m a) (root-pair rep a low)

      none : held m a ≡ 0 → Step (with_cell N w a p) (on_cell m a (λ e. q))
      none e = rw (on_nil pool a low (nil.1 e) p, eq-eqb (held m a) 0 e) (unchanged (refused 4))

      one : 0 < held m a → Step (with_cell N w a p) (on_cell m a (λ e. q))
      one above =
          let other : register w a ≡ 0 → ⊥ = λ e. omega (arith, nil.0 e) in
          let some : 0 < register w a = omega (arith, other) in
          rw (on_cell_lem pool a low some p, ne_eqb (held m a) 0 (λ e. omega arith)) (next some above)

  -- Does it hold one of this kind?
  kind-step : (point : Bool) (a : ℕ) → a < register_count → (p : ℕ → Outcome × List ℕ) (q : Outcome × Model)
      → (0 < register w a → 0 < held m a → (entry m (held m a)).point ≡ point → Step (p (register w a)) q)
      → Step (with_kind point N w a p) (on_kind point m a (λ e. q))
  kind-step point a low p q next = ⊎_elim none one (zero_or_above (held m a))
    where
      nil : (register w a ≡ 0) ↔ (held m a ≡ 0)
      nil = rep.one_to_one.nil (register w a) (held m a) (root-pair rep a low)

      none : held m a ≡ 0 → Step (with_kind point N w a p) (on_kind point m a (λ e. q))
      none e = rw (on_nil_kind pool a low (nil.1 e) point p, eq-eqb (held m a) 0 e) (unchanged (refused 4))

      one : 0 < held m a → Step (with_kind point N w a p) (on_kind point m a (λ e. q))
      one above =
          let other : register w a ≡ 0 → ⊥ = λ e. omega (arith, nil.0 e) in
          let some : 0 < register w a = omega (arith, other) in
          let kind : is_point_at register_count w (register w a) ≡ (entry m (held m a)).point =
          (rep.alike (register w a) (held m a) (root-pair rep a low) some above).kind in
          rw (on_kind_lem pool a low some point p, ne_eqb (held m a) 0 (λ e. omega arith), kind) (go some above (entry m (held m a)).point refl point refl)
        where
          go : 0 < register w a → 0 < held m a → (s : Bool) → (entry m (held m a)).point ≡ s → (t : Bool) → point ≡ t
              → Step (cond (cond (entry m (held m a)).point point (not point)) (p (register w a)) (refused 13, w))
              (cond (cond (entry m (held m a)).point point (not point)) q (refused 13, m))
          go some above true es true et = rw (es, et) (next some above (es ∙ sym et))
          go some above false es false et = rw (es, et) (next some above (es ∙ sym et))
          go some above true es false et = rw (es, et) (unchanged (refused 13))
          go some above false es true et = rw (es, et) (unchanged (refused 13))

  -- A register gets a link, in both.
  hold-step : (r x y : ℕ) → r < register_count → More (Pair w m) 0 0 x y → Step (answered [], set_register w r x) (done (hold m r y))
  hold-step r x y low link = record { answer = refl; rep = rep_hold pool rep r x y low link }

  -- A field of a's cell is written, in both.
  put_step : (f : Field) (a u v : ℕ) → a < register_count → 0 < register w a → 0 < held m a
      → Related (entry m (held m a)).point (Pair w m) f u v
      → Step (answered [], set_cell register_count w (register w a) (number f) u) (done (replace m (held m a) (put f (entry m (held m a)) v)))
  put_step f a u v low hx hy new = record { answer = refl; rep = rep_put pool rep f (register w a) (held m a) u v (root-pair rep a low) hx hy new }

  -- The cells that a holds are alike.
  alike-held : (a : ℕ) → a < register_count → 0 < register w a → 0 < held m a → Alike (Pair w m) w (register w a) (entry m (held m a))
  alike-held a low hx hy = rep.alike (register w a) (held m a) (root-pair rep a low) hx hy

  pub copy_step : (r a : ℕ) → r < register_count → a < register_count → Step (copy_in N w r a) (done (hold m r (held m a)))
  copy_step r a hr ha = rw (holds_link_lem pool a ha) (hold-step r (register w a) (held m a) hr (inl (root-pair rep a ha)))

  pub clear_step : (r : ℕ) → r < register_count → Step (clear_in w r) (done (hold m r 0))
  clear_step r hr = hold-step r 0 0 hr (inr (refl, refl))

  -- left and right
  pub follow_step : (f : Field) → number f < 3 → (r a : ℕ) → r < register_count → a < register_count
      → Step (follow_in N w (number f) r a) (on_kind false m a (λ e. done (hold m r (get f e))))
  follow_step f link r a hr ha =
      kind-step false a ha _ _ λ hx hy pair.
      let held-alike = alike-held a ha hx hy in
      let next = (link_related (Pair w m) f _ _ link).1 (rw pair at (held-alike.field f)) in
      rw (link_made register_count N w (cell register_count w (register w a) (number f)) (held_link pool a ha hx (held-alike.kind ∙ pair) (number f) (number_above f) link))
      (hold-step r _ _ hr (inl next))

  -- setleft and setright
  pub link-step : (f : Field) → number f < 3 → (a b : ℕ) → a < register_count → b < register_count
      → Step (link_in N w (number f) a b) (on_kind false m a (λ e. done (replace m (held m a) (put f e (held m b)))))
  link-step f link a b ha hb =
      rw (holds_link_lem pool b hb)
      (kind-step false a ha _ _ λ hx hy pair.
      put_step f a (register w b) (held m b) ha hx hy
      (rw pair ((link_related (Pair w m) f _ _ link).0 (root-pair rep b hb))))

  pub set-value_step : (a v : ℕ) → a < register_count
      → Step (set_value_in N w a v) (on_cell m a (λ e. done (replace m (held m a) (put Field.value e v))))
  set-value_step a v ha =
      cell-step a ha _ _ λ hx hy. put_step Field.value a v v ha hx hy ((value_related (entry m (held m a)).point (Pair w m) v v).0 refl)

  pub value-step : (a : ℕ) → a < register_count → Step (value_in N w a) (on_cell m a (λ e. (answered (e.value ∷ []), m)))
  value-step a ha =
      cell-step a ha _ _ λ hx hy.
      rw ((value_related (entry m (held m a)).point (Pair w m) _ _).1 ((alike-held a ha hx hy).field Field.value)) (unchanged _)

  -- east and north
  pub coordinate_step : (f : Field) → (a : ℕ) → a < register_count → Step (coordinate_in N w (number f) a) (on_kind true m a (λ e. (answered (get f e ∷ []), m)))
  coordinate_step f a ha =
      kind-step true a ha _ _ λ hx hy point.
      let same : cell register_count w (register w a) (number f) ≡ get f (entry m (held m a)) = rw point at ((alike-held a ha hx hy).field f) in
      rw same (unchanged _)

  pub same_step : (a b : ℕ) → a < register_count → b < register_count
      → Step (same_in N w a b) (answered (cond (eqb (held m a) (held m b)) 1 0 ∷ []), m)
  same_step a b ha hb = rw (holds_link_lem pool a ha, holds_link_lem pool b hb, alike) (unchanged _)
    where
      alike : eqb (register w a) (register w b) ≡ eqb (held m a) (held m b)
      alike = go (ℕ_discrete (held m a) (held m b))
        where
          go : Dec (held m a ≡ held m b) → eqb (register w a) (register w b) ≡ eqb (held m a) (held m b)
          go (yes e) =
              let one = rep.one_to_one.backward (register w a) (register w b) (held m b)
              (subst (Pair w m (register w a)) e (root-pair rep a ha)) (root-pair rep b hb) in
              rw (eq-eqb (held m a) (held m b) e, eq-eqb (register w a) (register w b) one)
          go (no e) =
              rw (
                ne_eqb (held m a) (held m b) e,
                ne_eqb (register w a) (register w b) (λ k. e (rep.one_to_one.forward (register w b) (held m a) (held m b)
                    (subst (λ (x : ℕ). Pair w m x (held m a)) k (root-pair rep a ha)) (root-pair rep b hb))),
              )
