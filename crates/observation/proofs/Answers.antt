-- Two pools that answer every list of reads alike: what their registers hold is paired one-to-one, and cells that are paired have the same content.
use Prim.Native.Nat.{ℕ, ◌<◌}
use native.Mathlib.Omega.{arith}
use mathlib.Core.Path.{◌≡◌, refl, sym, ap}
use mathlib.Core.Logic.{⊎_elim}
use mathlib.Core.List.{List, [], ◌∷◌}
use mathlib.Core.Bool.{Bool, true, false, cond, false≢true}
use borrow.Author.Tests.{lt-ltb}
use Rattle.graph.proofs.Marks.{zero_or_above}
use Rattle.pool.specs.Layout.{register_count, register, set_register, cell, is_point_at}
use Rattle.questions.proofs.Admission.{Registers}
use Rattle.questions.specs.Questions.{are_registers}
use Rattle.questions.proofs.WellFormed.{Link}
use Rattle.answers.specs.Outcome.{Outcome, answered, refused, status, given}
use Rattle.operations.specs.Operations.{coordinate_in}
use Rattle.calls.specs.declared.Call.{Call}
use Rattle.calls.specs.declared.Call.TheVariants as call
use Rattle.calls.specs.Calls.{registers_of, body_of, call_of}
use Rattle.batch.specs.Run.{answers_of}
use Rattle.invariant.proofs.Standing.{Standing, called, on_nil, on_cell_lem, on_kind_lem, each_link, standing_set_register}
use Rattle.observation.specs.Reads.{is_read, are_reads, AnswerAlike}
use Rattle.observation.proofs.Related.{BothFields, SameContent}

pub record Alike (N M : ℕ) (w v : List ℕ) : Type 0 where
  pub first : Standing N w
  pub second : Standing M v
  pub answers : AnswerAlike w v

pub flip : {N M : ℕ} {w v : List ℕ} → Alike N M w v → Alike M N v w
flip a = record { first = a.second; second = a.first; answers = λ calls reads. sym (a.answers calls reads) }

-- Registers that there are.
pub there : (named : List ℕ) → Registers named → are_registers named ≡ true
there [] h = refl
there (k ∷ rest) h = simp (lt-ltb k register_count h.0) (there rest h.1)

module _ {N M : ℕ} {w v : List ℕ} (a : Alike N M w v) (c : Call) (read : is_read c ≡ true) (asked : are_registers (registers_of c) ≡ true) where
  -- One read is answered alike,
  pub said : (body_of c N w).0 ≡ (body_of c M v).0
  unfolding are_reads answers_of
  said =
      let e = a.answers (c ∷ []) (rw read refl) in
      let first : (call_of c w).0 ≡ (call_of c v).0 = cc in
      rw (called a.first c, called a.second c, asked) at first

  -- and the pools that it leaves answer alike.
  left-alike : (w' v' : List ℕ) → Standing N w' → Standing M v' → (body_of c N w).1 ≡ w' → (body_of c M v).1 ≡ v' → Alike N M w' v'
  unfolding are_reads answers_of
  left-alike w' v' first second e e' =
      record {
        first = first;
        second = second;
        answers = λ calls reads.
            let all = a.answers (c ∷ calls) (rw read reads) in
            let rest : answers_of calls (call_of c w).1 ≡ answers_of calls (call_of c v).1 = cc in
            rw (called a.first c, called a.second c, asked, e, e') at rest;
      }

  -- Of a read that puts links in a register they are these.
  pub set-alike : (t x y : ℕ) → t < register_count → Link register_count N w x → Link register_count M v y
      → body_of c N w ≡ (answered [], set_register w t x) → body_of c M v ≡ (answered [], set_register v t y) → Alike N M (set_register w t x) (set_register v t y)
  set-alike t x y low link link' e e' =
      left-alike (set_register w t x) (set_register v t y) (standing_set_register a.first t x low link) (standing_set_register a.second t y low link')
      (ap (λ (p : Outcome × List ℕ). p.1) e) (ap (λ (p : Outcome × List ℕ). p.1) e')

-- What is said of a coordinate tells the kind, and of a point the number.
told : (s t : Bool) (p q : ℕ) (w v : List ℕ)
    → (cond {A = Outcome × List ℕ} (cond s true false) (answered (p ∷ []), w) (refused 13, w)).0
    ≡ (cond {A = Outcome × List ℕ} (cond t true false) (answered (q ∷ []), v) (refused 13, v)).0
    → (s ≡ t) × (s ≡ true → p ≡ q)
told true true p q w v e = (refl, λ point. ap (λ (o : Outcome). given o 0 0) e)
told true false p q w v e = absurd (omega (arith, ap status e))
told false true p q w v e = absurd (omega (arith, ap status e))
told false false p q w v e = (refl, λ point. absurd (false≢true point))

-- What register k holds: nil in both, or cells with the same content.
module _ {N M : ℕ} {w v : List ℕ} (a : Alike N M w v) (k : ℕ) (low : k < register_count) where
  pub nil_too : register w k ≡ 0 → register v k ≡ 0
  nil_too e =
      ⊎_elim (λ z. z)
      (λ some.
      let answers = said a (call.Value k) refl (there (k ∷ []) (low, tt)) in
      let differ = rw (on_nil a.first k low e _, on_cell_lem a.second k low some _) at answers in
      absurd (omega (arith, ap status differ)))
      (zero_or_above (register v k))

  module _ (some : 0 < register w k) (some' : 0 < register v k) where
    -- East tells of field 1, and north of field 2.
    abbrev Told : ℕ → Type 0
    Told f =
        (is_point_at register_count w (register w k) ≡ is_point_at register_count v (register v k))
        × (is_point_at register_count w (register w k) ≡ true → cell register_count w (register w k) f ≡ cell register_count v (register v k) f)

    coordinate_told : (c : Call) (f : ℕ) → is_read c ≡ true → are_registers (registers_of c) ≡ true → ((n : ℕ) (u : List ℕ) → body_of c n u ≡ coordinate_in n u f k)
        → Told f
    coordinate_told c f read asked does =
        let answers = said a c read asked in
        told _ _ _ _ w v (rw (does N w, does M v, on_kind_lem a.first k low some true _, on_kind_lem a.second k low some' true _) at answers)

    pub held_content : SameContent BothFields w v (register w k) (register v k)
    held_content =
        record {
          kind = east.0;
          value = ap (λ (o : Outcome). given o 0 0)
              (rw (on_cell_lem a.first k low some _, on_cell_lem a.second k low some' _) at (said a (call.Value k) refl (there (k ∷ []) (low, tt))));
          coordinates = λ point f both.
              each_link (λ f. cell register_count w (register w k) f ≡ cell register_count v (register v k) f) (east.1 point)
              ((coordinate_told (call.North k) 2 refl (there (k ∷ []) (low, tt)) (λ n u. refl)).1 point) f both.0 both.1;
        }
      where
        east : Told 1
        east = coordinate_told (call.East k) 1 refl (there (k ∷ []) (low, tt)) λ n u. refl
