-- Every call does with words behind the cells what it does without them: its body, on the words u of n cells and t behind them.
use Prim.Native.Nat.{ℕ, ◌<◌, ◌≤◌}
use native.Mathlib.Omega.{arith}
use native.Mathlib.Decide.{dec_le}
use mathlib.Core.Path.{◌≡◌, refl, sym, ap, ap₂, subst, ◌∙◌}
use mathlib.Core.List.{List, [], ◌∷◌, ◌++◌}
use mathlib.Core.Bool.{Bool, true, false, cond, ◌&&◌, not}
use lib.ListN.{length}
use lib.Dec.{eqb}
use borrow.Author.Tests.{lt-leb}
use Rattle.answers.specs.declared.Refusal.TheVariants as refusal
use Rattle.answers.specs.Outcome.{Outcome, answered, allocated, refused}
use Rattle.pool.specs.Layout.{register_count, pool_length, head, set_head, register, set_register, cell, set_cell, put_cell, left}
use Rattle.pool.specs.States.{pair_state, point_state}
use Rattle.questions.specs.Validity.{valid_link}
use Rattle.questions.specs.Questions.{holds_link}
use Rattle.pool.proofs.Laws.{length-set_head}
use Rattle.pool.proofs.Node.{length-put_cell}
use Rattle.pool.proofs.Retained.{length-retain}
use Rattle.questions.proofs.WellFormed.{well_formed_read}
use Rattle.questions.proofs.Admission.{Registers}
use Rattle.reversal.specs.Reached.{is_reached}
use Rattle.collector.specs.Collect.{collected, collect_in}
use Rattle.allocator.specs.Allocation.{take, take_collected, good_head, allocate_in, new_in}
use Rattle.allocator.proofs.Allocation.{swept-head, good_bound}
use Rattle.std.proofs.Common.{Result, Ok, Err}
use Rattle.answers.specs.declared.Refusal.{Refusal}
use Rattle.operations.specs.Operations.{held_cell_of, of_kind, held_kind_of, cell_to, with_cell, with_kind, follow_in, link_in, coordinate_in}
use Rattle.operations.proofs.Bodies.{cell_there, kind_there}
use Rattle.calls.specs.declared.Call.{Call}
use Rattle.calls.specs.declared.Call.TheVariants as call
use Rattle.calls.specs.Calls.{registers_of, body_of}
use Rattle.leftovers.proofs.Lengths.{above}
use Rattle.leftovers.proofs.Longer.{head-longer, register-longer, cell-longer, kind-longer, link-longer, well_formed_longer, reached-longer, visits-longer, set-cell_longer, set-head_longer, set-register_longer, collected-longer, put_cell_longer}

-- Of two tests that are the same, what holds of both ways holds.
pub same_test : {A : Type 0} (P : A → A → Type 0) {b' b : Bool} {x' y' x y : A} → b' ≡ b → (b ≡ true → P x' x) → (b ≡ false → P y' y)
    → P (cond b' x' y') (cond b x y)
same_test P {b'} {b} {x'} {y'} {x} {y} e on off = subst (λ (c : Bool). P (cond c x' y') (cond b x y)) (sym e) (go b on off)
  where
    go : (c : Bool) → (c ≡ true → P x' x) → (c ≡ false → P y' y) → P (cond c x' y') (cond c x y)
    go true on off = on refl
    go false on off = off refl

-- The words u of n cells, and t behind them.
module _ (n : ℕ) (u t : List ℕ) (long : length u ≡ pool_length register_count n) (some : 0 < n) where
  -- what a body says and leaves with t is what it says and leaves without
  pub record Behind (x' x : Outcome × List ℕ) : Type 0 where
    pub said : x'.0 ≡ x.0
    pub words : x'.1 ≡ x.1 ++ t

  nothing : (o : Outcome) → Behind (o, u ++ t) (o, u)
  nothing o = record { said = refl; words = refl }

  holds_longer : (a : ℕ) → a < register_count → holds_link n (u ++ t) a ≡ holds_link n u a
  holds_longer a low =
      link-longer register_count n u t long some (register (u ++ t) a)
      ∙ ap (valid_link register_count n u) (register-longer register_count n u t long some a low)

  -- the collection
  pub collect_longer : Behind (collect_in n (u ++ t)) (collect_in n u)
  collect_longer =
      same_test Behind (well_formed_longer register_count n u t long some)
      (λ e.
      let well = well_formed_read register_count n u e in
      let order = reached-longer register_count n u t long some well in
      record {
        said = ap₂ (λ (l : List ℕ) (v : ℕ). answered (length l ∷ v ∷ [])) order (visits-longer register_count n u t long some well);
        words = collected-longer register_count n u t long some well;
      })
      (λ e. nothing (refused 3))

  -- a call on the cell that register a holds, of either kind or of one
  held-longer : (a : ℕ) → a < register_count → held_cell_of n (u ++ t) a ≡ held_cell_of n u a
  held-longer a low = rw (holds_longer a low, register-longer register_count n u t long some a low) refl

  kind-held_longer : (point : Bool) (a : ℕ) → a < register_count → held_kind_of point n (u ++ t) a ≡ held_kind_of point n u a
  kind-held_longer point a low = ap (of_kind point (u ++ t)) (held-longer a low) ∙ go (held_cell_of n u a) refl
    where
      go : (q : Result ℕ Refusal) → held_cell_of n u a ≡ q → of_kind point (u ++ t) q ≡ of_kind point u q
      go (Ok x) e =
          ap (λ (b : Bool). cond (cond b point (not point)) (Ok x) (Err refusal.Kind))
          (kind-longer register_count n u t long some x (cell_there n u a refl e).1)
      go (Err k) e = refl

  cell_to_longer : {q' q : Result ℕ Refusal} → q' ≡ q → ((x : ℕ) → q ≡ Ok x → (0 < x) × (x ≤ n)) → (body' body : ℕ → Outcome × List ℕ)
      → ((x : ℕ) → 0 < x → x ≤ n → Behind (body' x) (body x)) → Behind (cell_to (u ++ t) body' q') (cell_to u body q)
  cell_to_longer {q'} {q} same there body' body on = subst (λ (p : Result ℕ Refusal). Behind (cell_to (u ++ t) body' p) (cell_to u body q)) (sym same) (go q there)
    where
      go : (q : Result ℕ Refusal) → ((x : ℕ) → q ≡ Ok x → (0 < x) × (x ≤ n)) → Behind (cell_to (u ++ t) body' q) (cell_to u body q)
      go (Ok x) within = let here = within x refl in on x here.0 here.1
      go (Err k) within = nothing _

  with_cell_longer : (a : ℕ) → a < register_count → (body' body : ℕ → Outcome × List ℕ) → ((x : ℕ) → 0 < x → x ≤ n → Behind (body' x) (body x))
      → Behind (with_cell n (u ++ t) a body') (with_cell n u a body)
  with_cell_longer a low body' body on = cell_to_longer (held-longer a low) (λ x e. cell_there n u a refl e) body' body on

  with_kind_longer : (point : Bool) (a : ℕ) → a < register_count → (body' body : ℕ → Outcome × List ℕ)
      → ((x : ℕ) → 0 < x → x ≤ n → Behind (body' x) (body x)) → Behind (with_kind point n (u ++ t) a body') (with_kind point n u a body)
  with_kind_longer point a low body' body on = cell_to_longer (kind-held_longer point a low) (λ x e. kind_there point n u a refl e) body' body on

  follow_longer : (field r a : ℕ) → field < 4 → r < register_count → a < register_count → Behind (follow_in n (u ++ t) field r a) (follow_in n u field r a)
  follow_longer field r a few at_r at_a =
      with_kind_longer false a at_a _ _ λ x low high.
      let same = cell-longer register_count n u t long some x field high few in
      same_test Behind (link-longer register_count n u t long some (cell register_count (u ++ t) x field) ∙ ap (valid_link register_count n u) same)
      (λ e. record {
        said = refl;
        words = ap (set_register (u ++ t) r) same ∙ set-register_longer register_count n u t long some r (cell register_count u x field) at_r;
      })
      (λ e. nothing (refused 3))

  link-cell_longer : (field a b : ℕ) → field < 4 → a < register_count → b < register_count → Behind (link_in n (u ++ t) field a b) (link_in n u field a b)
  link-cell_longer field a b few at_a at_b =
      same_test Behind (holds_longer b at_b)
      (λ e. with_kind_longer false a at_a _ _ λ x low high.
      record {
        said = refl;
        words = ap (set_cell register_count (u ++ t) x field) (register-longer register_count n u t long some b at_b)
            ∙ set-cell_longer register_count n u t long some x field (register u b) high few;
      })
      (λ e. nothing (refused 3))

  -- a coordinate
  coordinate_longer : (field a : ℕ) → field < 4 → a < register_count → Behind (coordinate_in n (u ++ t) field a) (coordinate_in n u field a)
  coordinate_longer field a few at_a =
      with_kind_longer true a at_a _ _ λ x low high.
      record { said = ap (λ (v : ℕ). answered (v ∷ [])) (cell-longer register_count n u t long some x field high few); words = refl }

  -- the head cell is taken, with the state c and the words x and y
  take-longer : (r c x y v : ℕ) → r < register_count → 0 < head u → head u ≤ n → take (u ++ t) r c x y v ≡ take u r c x y v ++ t
  take-longer r c x y v at_r low high =
      let i = head u in
      let put = put_cell register_count u i c x y v in
      let next = left register_count u i in
      let long-put : length put ≡ pool_length register_count n = length-put_cell register_count u i low c x y v ∙ long in
      let long-head : length (set_head put next) ≡ pool_length register_count n = length-set_head register_count put next ∙ long-put in
      ap (λ (j : ℕ). set_register (set_head (put_cell register_count (u ++ t) j c x y v) (left register_count (u ++ t) j)) r j)
      (head-longer register_count n u t long some)
      ∙ (ap (λ (l : ℕ). set_register (set_head (put_cell register_count (u ++ t) i c x y v) l) r i)
      (cell-longer register_count n u t long some i 1 high (omega arith))
      ∙ (ap (λ (w : List ℕ). set_register (set_head w next) r i) (put_cell_longer register_count n t some u long i c x y v low high)
      ∙ (ap (λ (w : List ℕ). set_register w r i) (set-head_longer register_count n put t long-put some next)
      ∙ set-register_longer register_count n (set_head put next) t long-head some r i at_r)))

  good_longer : good_head n (u ++ t) ≡ good_head n u
  good_longer = go (dec_le (head u) n)
    where
      same : head (u ++ t) ≡ head u
      same = head-longer register_count n u t long some

      go : Dec (head u ≤ n) → good_head n (u ++ t) ≡ good_head n u
      go (yes high) =
          rw (same, cell-longer register_count n u t long some (head u) 0 high (omega arith), cell-longer register_count n u t long some (head u) 1 high (omega arith)) refl
      go (no past) = rw (same, lt-leb (head u) n (omega arith)) refl

module _ (n : ℕ) (u t : List ℕ) (long : length u ≡ pool_length register_count n) (some : 0 < n) where
  take-collected_longer : (r c x y v : ℕ) → r < register_count
      → Behind n u t long some (take_collected n (u ++ t) r c x y v) (take_collected n u r c x y v)
  take-collected_longer r c x y v at_r =
      same_test (Behind n u t long some) (well_formed_longer register_count n u t long some)
      (λ e.
      let well = well_formed_read register_count n u e in
      let swept = collected register_count n u in
      let words : collected register_count n (u ++ t) ≡ swept ++ t = collected-longer register_count n u t long some well in
      let long-swept : length swept ≡ pool_length register_count n = length-retain register_count n (is_reached register_count n u) u ∙ long in
      let top : head swept ≤ n = swept-head n u (record { well = e; words = refl; visits = refl }) some (omega arith) in
      let same : head (collected register_count n (u ++ t)) ≡ head swept = ap head words ∙ head-longer register_count n swept t long-swept some in
      same_test (Behind n u t long some) (ap (λ (i : ℕ). eqb i 0) same) (λ full. nothing n u t long some (refused 5))
      λ other. record {
        said = ap allocated (visits-longer register_count n u t long some well);
        words = ap (λ (w : List ℕ). take w r c x y v) words ∙ take-longer n swept t long-swept some r c x y v at_r (above (head swept) other) top;
      })
      λ e. nothing n u t long some (refused 3)

  allocate_longer : (r c x y v : ℕ) → r < register_count → Behind n u t long some (allocate_in n (u ++ t) r c x y v) (allocate_in n u r c x y v)
  allocate_longer r c x y v at_r =
      same_test (Behind n u t long some) (ap (λ (i : ℕ). eqb i 0) (head-longer register_count n u t long some))
      (λ nil. take-collected_longer r c x y v at_r)
      λ other. same_test (Behind n u t long some) (good_longer n u t long some)
      (λ good. record { said = refl; words = take-longer n u t long some r c x y v at_r (above (head u) other) (good_bound n u good) })
      λ bad. nothing n u t long some (refused 3)

  new_longer : (r a b v : ℕ) → r < register_count → a < register_count → b < register_count → Behind n u t long some (new_in n (u ++ t) r a b v) (new_in n u r a b v)
  new_longer r a b v at_r at_a at_b =
      let x = register-longer register_count n u t long some a at_a in
      let y = register-longer register_count n u t long some b at_b in
      same_test (Behind n u t long some) (ap₂ (λ (p q : Bool). p && q) (holds_longer n u t long some a at_a) (holds_longer n u t long some b at_b))
      (λ held.
      subst (λ (x' : ℕ). Behind n u t long some (allocate_in n (u ++ t) r pair_state x' (register (u ++ t) b) v) (allocate_in n u r pair_state (register u a) (register u b) v)) (sym x)
      (subst (λ (y' : ℕ). Behind n u t long some (allocate_in n (u ++ t) r pair_state (register u a) y' v) (allocate_in n u r pair_state (register u a) (register u b) v)) (sym y)
      (allocate_longer r pair_state (register u a) (register u b) v at_r)))
      λ bad. nothing n u t long some (refused 3)

  pub body_longer : (c : Call) → Registers (registers_of c) → Behind n u t long some (body_of c n (u ++ t)) (body_of c n u)
  body_longer (call.Copy r a) there =
      same_test (Behind n u t long some) (holds_longer n u t long some a there.1.0)
      (λ e. record {
        said = refl;
        words = ap (set_register (u ++ t) r) (register-longer register_count n u t long some a there.1.0)
            ∙ set-register_longer register_count n u t long some r (register u a) there.0;
      })
      λ e. nothing n u t long some (refused 3)
  body_longer (call.Clear r) there = record { said = refl; words = set-register_longer register_count n u t long some r 0 there.0 }
  body_longer (call.New r a b v) there = new_longer r a b v there.0 there.1.0 there.1.1.0
  body_longer (call.Left r a) there = follow_longer n u t long some 1 r a (omega arith) there.0 there.1.0
  body_longer (call.Right r a) there = follow_longer n u t long some 2 r a (omega arith) there.0 there.1.0
  body_longer (call.SetLeft a b) there = link-cell_longer n u t long some 1 a b (omega arith) there.0 there.1.0
  body_longer (call.SetRight a b) there = link-cell_longer n u t long some 2 a b (omega arith) there.0 there.1.0
  body_longer (call.SetValue a v) there =
      with_cell_longer n u t long some a there.0 _ _ λ x low high.
      record { said = refl; words = set-cell_longer register_count n u t long some x 3 v high (omega arith) }
  body_longer (call.Value a) there =
      with_cell_longer n u t long some a there.0 _ _ λ x low high.
      record { said = ap (λ (v : ℕ). answered (v ∷ [])) (cell-longer register_count n u t long some x 3 high (omega arith)); words = refl }
  body_longer (call.Same a b) there =
      same_test (Behind n u t long some)
      (ap₂ (λ (p q : Bool). p && q) (holds_longer n u t long some a there.0) (holds_longer n u t long some b there.1.0))
      (λ e. record {
        said = ap₂ (λ (p q : ℕ). answered (cond (eqb p q) 1 0 ∷ [])) (register-longer register_count n u t long some a there.0)
            (register-longer register_count n u t long some b there.1.0);
        words = refl;
      })
      λ e. nothing n u t long some (refused 3)
  body_longer call.Collect there = collect_longer n u t long some
  body_longer (call.Point r v x y) there = allocate_longer r point_state x y v there.0
  body_longer (call.East a) there = coordinate_longer n u t long some 1 a (omega arith) there.0
  body_longer (call.North a) there = coordinate_longer n u t long some 2 a (omega arith) there.0
