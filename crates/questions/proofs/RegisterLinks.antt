-- What the answer of a register read says of the register: a valid link, which leads to nil or to a cell, or something else.
use Prim.Native.Nat.{ℕ, ◌<◌, ◌≤◌}
use native.Mathlib.Omega.{arith}
use mathlib.Core.Path.{◌≡◌, refl, sym, ◌∙◌}
use mathlib.Core.List.{List}
use mathlib.Core.Bool.{Bool, true, false, cond}
use Rattle.pool.specs.Layout.{register_count, register, state}
use Rattle.pool.specs.States.{is_used}
use Rattle.questions.specs.Validity.{valid_link}
use Rattle.questions.specs.Questions.{held_of, holds_link}
use Rattle.std.proofs.Common.{Result, Ok, Err}
use Rattle.answers.specs.declared.Refusal.TheVariants as refusal
use Rattle.answers.specs.declared.Refusal.{Refusal}
use Rattle.questions.proofs.WellFormed.{Link, link-read}

-- the register a holds the valid link x
pub record Holds (n : ℕ) (w : List ℕ) (a x : ℕ) : Type 0 where
  pub link : register w a ≡ x
  pub valid : valid_link register_count n w x ≡ true

module _ (n : ℕ) (w : List ℕ) (a : ℕ) {q : Result ℕ Refusal} (read : q ≡ held_of n w a) where
  pub holds : {x : ℕ} → q ≡ Ok x → Holds n w a x
  holds {x} told = go (valid_link register_count n w (register w a)) refl (sym read ∙ told)
    where
      go : (t : Bool) → valid_link register_count n w (register w a) ≡ t → cond t (Ok (register w a)) (Err refusal.Malformed) ≡ Ok x → Holds n w a x
      go true e same = let link : register w a ≡ x = cc in record { link = link; valid = rw link at e }
      go false e same = let z : ◌≡◌ {A = ℕ} 0 1 = cc in absurd (omega arith)

  pub holds_none : {k : Refusal} → q ≡ Err k → holds_link n w a ≡ false
  holds_none {k} told = go (valid_link register_count n w (register w a)) refl (sym read ∙ told)
    where
      go : (t : Bool) → valid_link register_count n w (register w a) ≡ t → cond t (Ok (register w a)) (Err refusal.Malformed) ≡ Err k
          → holds_link n w a ≡ false
      go true e same = let z : ◌≡◌ {A = ℕ} 0 1 = cc in absurd (omega arith)
      go false e same = e

-- a link that is not nil leads to one of the cells, which is used
pub holds_cell : {n : ℕ} {w : List ℕ} {a x : ℕ} → Holds n w a x → (x ≡ 0 → ⊥) → (0 < x) × (x ≤ n) × (is_used (state register_count w x) ≡ true)
holds_cell {n} {w} {a} {x} h some = go (link-read register_count n w x h.valid)
  where
    go : Link register_count n w x → (0 < x) × (x ≤ n) × (is_used (state register_count w x) ≡ true)
    go (Link.nil e) = absurd (some e)
    go (Link.used low high s) = (low, high, s)
