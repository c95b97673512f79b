-- Every call keeps the invariant, refused or not.
use Prim.Native.Nat.{ℕ, ◌<◌}
use native.Mathlib.Omega.{arith}
use mathlib.Core.Path.{◌≡◌, refl, sym, subst}
use mathlib.Core.Logic.{⊎_elim}
use mathlib.Core.List.{List}
use mathlib.Core.Bool.{Bool, true, false, cond}
use Rattle.graph.proofs.Marks.{zero_or_above}
use Rattle.pool.specs.Layout.{register_count, register, cell, set_cell}
use Rattle.questions.specs.Questions.{are_registers}
use Rattle.answers.specs.Outcome.{Outcome, refused}
use Rattle.questions.proofs.Admission.{Registers, registers_there}
use Rattle.questions.proofs.WellFormed.{Link, link_made, well_formed_made}
use Rattle.operations.specs.Operations.{is_of_kind, with_cell, with_kind, follow_in, link_in}
use Rattle.calls.specs.declared.Call.{Call}
use Rattle.calls.specs.declared.Call.TheVariants as call
use Rattle.calls.specs.Calls.{registers_of, body_of, call_of}
use Rattle.invariant.proofs.Standing.{called, holds_link_lem, on_nil, on_cell_lem, on_nil_kind, on_kind_lem, of_kind_lem, held-used, held_link}
use Rattle.invariant.proofs.Invariant.{Invariant, inv_set_register, inv_set_cell}
use Rattle.invariant.proofs.Rebuilt.{collected_inv}
use Rattle.invariant.proofs.New.{new_inv, point_inv}

module _ {N : ℕ} {w : List ℕ} (inv : Invariant N w) where
  module _ (a : ℕ) (low : a < register_count) where
    cell_inv : (body : ℕ → Outcome × List ℕ) → (0 < register w a → Invariant N (body (register w a)).1) → Invariant N (with_cell N w a body).1
    cell_inv body kept =
        ⊎_elim (λ e. subst (λ (q : Outcome × List ℕ). Invariant N q.1) (sym (on_nil inv.pool a low e body)) inv)
        (λ some. subst (λ (q : Outcome × List ℕ). Invariant N q.1) (sym (on_cell_lem inv.pool a low some body)) (kept some))
        (zero_or_above (register w a))

    kind_inv : (point : Bool) (body : ℕ → Outcome × List ℕ)
        → (0 < register w a → is_of_kind point w (register w a) ≡ true → Invariant N (body (register w a)).1) → Invariant N (with_kind point N w a body).1
    kind_inv point body kept =
        ⊎_elim (λ e. subst (λ (q : Outcome × List ℕ). Invariant N q.1) (sym (on_nil_kind inv.pool a low e point body)) inv)
        (λ some. subst (λ (q : Outcome × List ℕ). Invariant N q.1) (sym (on_kind_lem inv.pool a low some point body)) (go some (is_of_kind point w (register w a)) refl))
        (zero_or_above (register w a))
      where
        go : 0 < register w a → (t : Bool) → is_of_kind point w (register w a) ≡ t → Invariant N (cond t (body (register w a)) (refused 13, w)).1
        go some true e = kept some e
        go some false e = inv

    -- A field of a's cell is written.
    put_inv : (f v : ℕ) → 0 < f → f < 4 → (f < 3 → Link register_count N w v) → 0 < register w a → Invariant N (set_cell register_count w (register w a) f v)
    put_inv f v above below link some =
        let used = held-used inv.pool a low some in
        inv_set_cell inv (register w a) f v some used.bounded used.state above below link

    -- A register gets a link of a's pair.
    follow_inv : (f r : ℕ) → 0 < f → f < 3 → r < register_count → Invariant N (follow_in N w f r a).1
    follow_inv f r above below there =
        kind_inv false _ λ some pair.
        let link = held_link inv.pool a low some (of_kind_lem false w (register w a) pair) f above below in
        rw (link_made register_count N w (cell register_count w (register w a) f) link) (inv_set_register inv r (cell register_count w (register w a) f) there link)

  link_inv : (f a b : ℕ) → 0 < f → f < 3 → a < register_count → b < register_count → Invariant N (link_in N w f a b).1
  link_inv f a b above below ha hb =
      rw (holds_link_lem inv.pool b hb)
      (kind_inv a ha false _ λ some pair. put_inv a ha f (register w b) above (omega arith) (λ link. inv.pool.well.registers b hb) some)

  body_inv : (c : Call) → Registers (registers_of c) → Invariant N (body_of c N w).1
  body_inv (call.Copy r a) h =
      rw (holds_link_lem inv.pool a h.1.0) (inv_set_register inv r (register w a) h.0 (inv.pool.well.registers a h.1.0))
  body_inv (call.Clear r) h = inv_set_register inv r 0 h.0 (Link.nil refl)
  body_inv (call.New r a b v) h = new_inv inv r a b v h.0 h.1.0 h.1.1.0
  body_inv (call.Left r a) h = follow_inv a h.1.0 1 r (omega arith) (omega arith) h.0
  body_inv (call.Right r a) h = follow_inv a h.1.0 2 r (omega arith) (omega arith) h.0
  body_inv (call.SetLeft a b) h = link_inv 1 a b (omega arith) (omega arith) h.0 h.1.0
  body_inv (call.SetRight a b) h = link_inv 2 a b (omega arith) (omega arith) h.0 h.1.0
  body_inv (call.SetValue a v) h = cell_inv a h.0 _ (put_inv a h.0 3 v (omega arith) (omega arith) (λ link. absurd (omega arith)))
  body_inv (call.Value a) h = cell_inv a h.0 _ (λ some. inv)
  body_inv (call.Same a b) h = rw (holds_link_lem inv.pool a h.0, holds_link_lem inv.pool b h.1.0) inv
  body_inv call.Collect h = rw (well_formed_made register_count N w inv.pool.well) (collected_inv inv)
  body_inv (call.Point r v x y) h = point_inv inv r v x y h.0
  body_inv (call.East a) h = kind_inv a h.0 true _ (λ some point. inv)
  body_inv (call.North a) h = kind_inv a h.0 true _ (λ some point. inv)

  pub call_inv : (c : Call) → Invariant N (call_of c w).1
  call_inv c = rw (called inv.pool c) (go (are_registers (registers_of c)) refl)
    where
      go : (t : Bool) → are_registers (registers_of c) ≡ t → Invariant N (cond t (body_of c N w) (refused 2, w)).1
      go true e = body_inv c (registers_there (registers_of c) e)
      go false e = inv
