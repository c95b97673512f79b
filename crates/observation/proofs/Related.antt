-- Two pools whose links are related one-to-one: every read answers alike on both, and keeps the relation.
use Prim.Native.Nat.{ℕ, ◌<◌}
use native.Mathlib.Omega.{arith}
use native.Mathlib.Decide.{ℕ_discrete}
use mathlib.Core.Path.{◌≡◌, refl, sym, ap₂, ◌∙◌}
use mathlib.Core.Logic.{⊎_elim, ◌↔◌}
use mathlib.Core.List.{List, [], ◌∷◌, Memᴰ}
use mathlib.Core.Bool.{Bool, true, false, cond, false≢true}
use lib.Dec.{eqb}
use borrow.Author.Tests.{eq-eqb, ne_eqb}
use Rattle.graph.specs.Compare.{Paired, OneToOne}
use Rattle.graph.proofs.Marks.{zero_or_above}
use Rattle.pool.specs.Layout.{register_count, register, set_register, cell, value, is_point_at, link_of, graph_of, roots_of}
use Rattle.pool.proofs.Laws.{cell-set_register, register_other}
use Rattle.pool.proofs.Links.{link-pair}
use Rattle.questions.proofs.Admission.{Among}
use Rattle.pool.proofs.Sizes.{both}
use Rattle.questions.specs.Questions.{are_registers}
use Rattle.questions.proofs.WellFormed.{Link, link_made}
use Rattle.answers.specs.Outcome.{Outcome, answered, refused}
use Rattle.operations.specs.Operations.{is_of_kind, with_cell, with_kind, follow_in, coordinate_in, same_in}
use Rattle.calls.specs.declared.Call.{Call}
use Rattle.calls.specs.declared.Call.TheVariants as call
use Rattle.calls.specs.Calls.{registers_of, body_of, call_of}
use Rattle.batch.specs.Run.{answers_of}
use Rattle.invariant.proofs.Standing.{Standing, called, holds_link_lem, on_nil, on_cell_lem, on_nil_kind, on_kind_lem, of_kind_lem, held_link, link-set_register, standing_register, standing_set_register}
use Rattle.observation.specs.Reads.{is_read, are_reads}

-- A link of the pool w and one of the pool v, paired from the registers.
abbrev pub PairedLinks : List ℕ → List ℕ → ℕ → ℕ → Type 0
PairedLinks w v = Paired (graph_of register_count w) (roots_of register_count w) (graph_of register_count v) (roots_of register_count v)

-- Fields 1 and 2: the left and the right link of a pair, x and y of a point.
abbrev pub BothFields : ℕ → Type 0
BothFields f = (0 < f) × (f < 3)

-- Two cells of one kind and value; two points have the same in the fields of the set F.
pub record SameContent (F : ℕ → Type 0) (w v : List ℕ) (x y : ℕ) : Type 0 where
  pub kind : is_point_at register_count w x ≡ is_point_at register_count v y
  pub value : value register_count w x ≡ value register_count v y
  pub coordinates : is_point_at register_count w x ≡ true → (f : ℕ) → F f → cell register_count w x f ≡ cell register_count v y f

-- The links of two pools, related by P: nil with nil alone, what the registers of the set S hold, and with two cells, whose content is the same, their links.
pub record Related (S F : ℕ → Type 0) (P : ℕ → ℕ → Type 0) (w v : List ℕ) : Type 0 where
  pub nil : P 0 0
  pub nil_alone : (x y : ℕ) → P x y → (x ≡ 0) ↔ (y ≡ 0)
  pub registers : (k : ℕ) → S k → P (register w k) (register v k)
  pub content : (x y : ℕ) → P x y → 0 < x → 0 < y → SameContent F w v x y
  pub links : (x y : ℕ) → P x y → 0 < x → 0 < y → (f : ℕ) → 0 < f → f < 3 → P (link_of register_count w x f) (link_of register_count v y f)

-- What a read needs to answer alike, beside that the pools are related: east and north the field that they read, same that no two links are related with one.
pub record Needs (F : ℕ → Type 0) (P : ℕ → ℕ → Type 0) (c : Call) : Type 0 where
  pub east : (a : ℕ) → c ≡ call.East a → F 1
  pub north : (a : ℕ) → c ≡ call.North a → F 2
  pub same : (a b : ℕ) → c ≡ call.Same a b → OneToOne P

module _ (S F : ℕ → Type 0) (P : ℕ → ℕ → Type 0) (N M : ℕ) where
  -- The same answer, and what is left are pools that are related still.
  pub record Step (p q : Outcome × List ℕ) : Type 0 where
    pub answer : p.0 ≡ q.0
    pub first : Standing N p.1
    pub second : Standing M q.1
    pub related : Related S F P p.1 q.1

  module _ (low : (k : ℕ) → S k → k < register_count) {w v : List ℕ} (pool : Standing N w) (other : Standing M v) (rel : Related S F P w v) where
    unchanged : (o : Outcome) → Step (o, w) (o, v)
    unchanged o = record { answer = refl; first = pool; second = other; related = rel }

    -- A register gets a link, in both.
    set-step : (r x y : ℕ) → r < register_count → Link register_count N w x → Link register_count M v y → P x y
        → Step (answered [], set_register w r x) (answered [], set_register v r y)
    set-step r x y hr link link' related =
        record {
          answer = refl;
          first = standing_set_register pool r x hr link;
          second = standing_set_register other r y hr link';
          related =
              record {
                nil = rel.nil;
                nil_alone = rel.nil_alone;
                registers = λ k named. registers k named (ℕ_discrete k r);
                content = λ a b p ha hb.
                    let same = rel.content a b p ha hb in
                    record {
                      kind = rw (field w x a 0, field v y b 0) same.kind;
                      value = rw (field w x a 3, field v y b 3) same.value;
                      coordinates = λ point f among. rw (field w x a f, field v y b f) (same.coordinates (rw (field w x a 0) at point) f among);
                    };
                links = λ a b p ha hb f positive below. rw (link-set_register w r x a f hr, link-set_register v r y b f hr) (rel.links a b p ha hb f positive below);
              };
        }
      where
        field : (u : List ℕ) (z i f : ℕ) → cell register_count (set_register u r z) i f ≡ cell register_count u i f
        field u z i f = cell-set_register register_count u r z i f hr

        registers : (k : ℕ) → S k → Dec (k ≡ r) → P (register (set_register w r x) k) (register (set_register v r y) k)
        registers k named (yes same) =
            rw (same, standing_register pool r x hr, standing_register other r y hr) related
        registers k named (no apart) =
            rw (register_other register_count w r x k apart, register_other register_count v r y k apart) (rel.registers k named)

    module _ (a : ℕ) (named : S a) where
      nil-held : (register w a ≡ 0) ↔ (register v a ≡ 0)
      nil-held = rel.nil_alone (register w a) (register v a) (rel.registers a named)

      above_held : 0 < register w a → 0 < register v a
      above_held some = ⊎_elim (λ e. absurd (omega (arith, nil-held.1 e))) (λ h. h) (zero_or_above (register v a))

      same-held : (some : 0 < register w a) → SameContent F w v (register w a) (register v a)
      same-held some = rel.content (register w a) (register v a) (rel.registers a named) some (above_held some)

      -- Does a hold a cell?
      cell-step : (p q : ℕ → Outcome × List ℕ) → (0 < register w a → Step (p (register w a)) (q (register v a))) → Step (with_cell N w a p) (with_cell M v a q)
      cell-step p q next =
          ⊎_elim
          (λ e. rw (on_nil pool a (low a named) e p, on_nil other a (low a named) (nil-held.0 e) q) (unchanged (refused 4)))
          (λ some. rw (on_cell_lem pool a (low a named) some p, on_cell_lem other a (low a named) (above_held some) q) (next some))
          (zero_or_above (register w a))

      -- Does it hold one of this kind?
      kind-step : (point : Bool) (p q : ℕ → Outcome × List ℕ)
          → (0 < register w a → is_of_kind point w (register w a) ≡ true → Step (p (register w a)) (q (register v a)))
          → Step (with_kind point N w a p) (with_kind point M v a q)
      kind-step point p q next =
          ⊎_elim
          (λ e. rw (on_nil_kind pool a (low a named) e point p, on_nil_kind other a (low a named) (nil-held.0 e) point q) (unchanged (refused 4)))
          (λ some.
          rw (on_kind_lem pool a (low a named) some point p, on_kind_lem other a (low a named) (above_held some) point q, sym (same-held some).kind)
          (go (is_of_kind point w (register w a)) (next some)))
          (zero_or_above (register w a))
        where
          go : (t : Bool) → (t ≡ true → Step (p (register w a)) (q (register v a)))
              → Step (cond t (p (register w a)) (refused 13, w)) (cond t (q (register v a)) (refused 13, v))
          go true next = next refl
          go false next = unchanged (refused 13)

    copy_step : (r a : ℕ) → S r → S a → Step (body_of (call.Copy r a) N w) (body_of (call.Copy r a) M v)
    copy_step r a hr ha =
        rw (holds_link_lem pool a (low a ha), holds_link_lem other a (low a ha))
        (set-step r (register w a) (register v a) (low r hr) (pool.well.registers a (low a ha)) (other.well.registers a (low a ha)) (rel.registers a ha))

    -- left and right
    follow_step : (f : ℕ) → 0 < f → f < 3 → (r a : ℕ) → S r → S a → Step (follow_in N w f r a) (follow_in M v f r a)
    follow_step f positive below r a hr ha =
        kind-step a ha false _ _ λ some pair.
        let x = register w a in
        let y = register v a in
        let one : is_point_at register_count w x ≡ false = of_kind_lem false w x pair in
        let two : is_point_at register_count v y ≡ false = sym (same-held a ha some).kind ∙ one in
        let link = held_link pool a (low a ha) some one f positive below in
        let link' = held_link other a (low a ha) (above_held a ha some) two f positive below in
        rw (link_made register_count N w (cell register_count w x f) link, link_made register_count M v (cell register_count v y f) link')
        (set-step r (cell register_count w x f) (cell register_count v y f) (low r hr) link link'
        (rw (link-pair register_count w x f one, link-pair register_count v y f two) at (rel.links x y (rel.registers a ha) some (above_held a ha some) f positive below)))

    value-step : (a : ℕ) → S a → Step (body_of (call.Value a) N w) (body_of (call.Value a) M v)
    value-step a ha = cell-step a ha _ _ λ some. rw (same-held a ha some).value (unchanged _)

    -- east and north
    coordinate_step : (f : ℕ) → F f → (a : ℕ) → S a → Step (coordinate_in N w f a) (coordinate_in M v f a)
    coordinate_step f among a ha =
        kind-step a ha true _ _ λ some point. rw ((same-held a ha some).coordinates (of_kind_lem true w (register w a) point) f among) (unchanged _)

    same_step : OneToOne P → (a b : ℕ) → S a → S b → Step (same_in N w a b) (same_in M v a b)
    same_step one_to_one a b ha hb =
        rw (holds_link_lem pool a (low a ha), holds_link_lem pool b (low b hb), holds_link_lem other a (low a ha), holds_link_lem other b (low b hb), alike (ℕ_discrete (register w a) (register w b)))
        (unchanged _)
      where
        one : P (register w a) (register v a)
        one = rel.registers a ha

        two : P (register w b) (register v b)
        two = rel.registers b hb

        alike : Dec (register w a ≡ register w b) → eqb (register w a) (register w b) ≡ eqb (register v a) (register v b)
        alike (yes e) =
            let met : register v a ≡ register v b = one_to_one.forward (register w b) (register v a) (register v b) (rw e at one) two in
            rw (eq-eqb (register w a) (register w b) e, eq-eqb (register v a) (register v b) met)
        alike (no e) =
            let apart : register v a ≡ register v b → ⊥ = λ k. e (one_to_one.backward (register w a) (register w b) (register v b) (rw k at one) two) in
            rw (ne_eqb (register w a) (register w b) e, ne_eqb (register v a) (register v b) apart)

    body_step : (c : Call) → is_read c ≡ true → Needs F P c → Among S (registers_of c) → Step (body_of c N w) (body_of c M v)
    body_step (call.Copy r a) e n h = copy_step r a h.0 h.1.0
    body_step (call.Clear r) e n h = set-step r 0 0 (low r h.0) (Link.nil refl) (Link.nil refl) rel.nil
    body_step (call.New r a b v) e n h = absurd (false≢true e)
    body_step (call.Left r a) e n h = follow_step 1 (omega arith) (omega arith) r a h.0 h.1.0
    body_step (call.Right r a) e n h = follow_step 2 (omega arith) (omega arith) r a h.0 h.1.0
    body_step (call.SetLeft a b) e n h = absurd (false≢true e)
    body_step (call.SetRight a b) e n h = absurd (false≢true e)
    body_step (call.SetValue a v) e n h = absurd (false≢true e)
    body_step (call.Value a) e n h = value-step a h.0
    body_step (call.Same a b) e n h = same_step (n.same a b refl) a b h.0 h.1.0
    body_step call.Collect e n h = absurd (false≢true e)
    body_step (call.Point r v x y) e n h = absurd (false≢true e)
    body_step (call.East a) e n h = coordinate_step 1 (n.east a refl) a h.0
    body_step (call.North a) e n h = coordinate_step 2 (n.north a refl) a h.0

    -- A read that names registers of the set, or one that there is not.
    call_step : (c : Call) → is_read c ≡ true → Needs F P c → (are_registers (registers_of c) ≡ true → Among S (registers_of c)) → Step (call_of c w) (call_of c v)
    call_step c e n named = rw (called pool c, called other c) (go (are_registers (registers_of c)) named)
      where
        go : (t : Bool) → (t ≡ true → Among S (registers_of c)) → Step (cond t (body_of c N w) (refused 2, w)) (cond t (body_of c M v) (refused 2, v))
        go true there = body_step c e n (there refl)
        go false there = unchanged (refused 2)

  -- So every list of such reads answers alike.
  pub related_answers : (low : (k : ℕ) → S k → k < register_count) (calls : List Call) → are_reads calls ≡ true
      → ((c : Call) → Memᴰ c calls → Needs F P c × (are_registers (registers_of c) ≡ true → Among S (registers_of c))) → {w v : List ℕ} → Standing N w → Standing M v
      → Related S F P w v → answers_of calls w ≡ answers_of calls v
  unfolding are_reads answers_of
  related_answers low [] reads named pool other rel = refl
  related_answers low (c ∷ cs) reads named pool other rel =
      let parts = both (is_read c) (are_reads cs) reads in
      let (needs, there) = named c (Memᴰ.head refl) in
      let next = call_step low pool other rel c parts.0 needs there in
      ap₂ (λ (o : Outcome) (os : List Outcome). o ∷ os) next.answer
      (related_answers low cs parts.1 (λ d mem. named d (Memᴰ.tail mem)) next.first next.second next.related)
