-- What the answer to the first questions says of the words and of the registers.
use Prim.Native.Nat.{ℕ, ◌<◌}
use native.Mathlib.Omega.{arith}
use mathlib.Core.Path.{◌≡◌, refl, sym, ap, ◌∙◌}
use mathlib.Core.List.{List, [], ◌∷◌}
use mathlib.Core.Bool.{Bool, true, false, cond}
use lib.ListN.{length}
use lib.Dec.{ltb}
use borrow.Author.Tests.{lt-ltb, ltb-true}
use Rattle.answers.specs.Outcome.{refusal_number}
use Rattle.answers.specs.declared.Refusal.{Refusal}
use Rattle.answers.specs.declared.Refusal.TheVariants as refusal
use Rattle.std.proofs.Common.{Result, Ok, Err}
use Rattle.pool.specs.Layout.{register_count, cell_count}
use Rattle.questions.specs.Questions.{sized_of, are_registers, asked_next, admit_of, admitted_to}
use Rattle.pool.proofs.Sizes.{both, Sized, cells_sized}

-- words that are a pool, and that are none
module _ (w : List ℕ) where
  pub sized_some : 0 < cell_count register_count w → sized_of w ≡ Ok (cell_count register_count w)
  sized_some some = simp (lt-ltb 0 (cell_count register_count w) some)

  pub sized_none : cell_count register_count w ≡ 0 → sized_of w ≡ Err refusal.Size
  sized_none none = rw none

  -- admitted by the first question
  pub sized_cells : {n : ℕ} → sized_of w ≡ Ok n → Sized register_count (length w) n × (cell_count register_count w ≡ n)
  sized_cells {n} told = go (ltb 0 (cell_count register_count w)) refl told
    where
      go : (t : Bool) → ltb 0 (cell_count register_count w) ≡ t → cond t (Ok (cell_count register_count w)) (Err refusal.Size) ≡ Ok n
          → Sized register_count (length w) n × (cell_count register_count w ≡ n)
      go true some e =
          let same : cell_count register_count w ≡ n = cc in
          (rw same at (cells_sized register_count w (ltb-true 0 (cell_count register_count w) some)).0, same)
      go false some e = let z : ◌≡◌ {A = ℕ} 0 1 = cc in absurd (omega arith)

-- the registers that a call names are of that set
abbrev pub Among : (ℕ → Type 0) → List ℕ → Type 0
Among S [] = Unit {0}
Among S (k ∷ rest) = S k × Among S rest

-- registers that there are
abbrev pub Registers : List ℕ → Type 0
Registers named = Among (λ k. k < register_count) named

pub registers_there : (named : List ℕ) → are_registers named ≡ true → Registers named
registers_there [] e = tt
registers_there (k ∷ rest) e =
    let parts = both (ltb k register_count) (are_registers rest) e in
    (ltb-true k register_count parts.0, registers_there rest parts.1)

-- admitted by both questions
pub admit_cells : (w : List ℕ) (named : List ℕ) {n : ℕ} → admit_of w named ≡ Ok n
    → (sized_of w ≡ Ok n) × (are_registers named ≡ true)
admit_cells w named {n} told = go (sized_of w) (are_registers named) refl refl told
  where
    go : (q : Result ℕ Refusal) (t : Bool) → sized_of w ≡ q → are_registers named ≡ t → asked_next t q ≡ Ok n
        → (sized_of w ≡ Ok n) × (are_registers named ≡ true)
    go (Ok m) true e there same = (e ∙ same, there)
    go (Ok m) false e there same = let z : ◌≡◌ {A = ℕ} 0 1 = cc in absurd (omega arith)
    go (Err k) t e there same = let z : ◌≡◌ {A = ℕ} 0 1 = cc in absurd (omega arith)

-- an operation behind its questions, by their answer
module _ {A : Type 0} {q read : Result ℕ Refusal} (asked : q ≡ read) (body refusing : ℕ → A) where
  pub went_on : {n : ℕ} {p : A} → q ≡ Ok n → p ≡ body n → p ≡ admitted_to body refusing read
  went_on told done = done ∙ ap (admitted_to body refusing) (sym told ∙ asked)

  pub stopped : {k : Refusal} {p : A} → q ≡ Err k → p ≡ refusing (refusal_number k) → p ≡ admitted_to body refusing read
  stopped told done = done ∙ ap (admitted_to body refusing) (sym told ∙ asked)

-- what holds of an operation's body and of its refusals holds of it behind its questions
pub behind-questions : {A : Type 0} (P : A → Type 0) (q : Result ℕ Refusal) {body refusing : ℕ → A} → ((n : ℕ) → q ≡ Ok n → P (body n))
    → ((k : ℕ) → P (refusing k)) → P (admitted_to body refusing q)
behind-questions P (Ok n) on off = on n refl
behind-questions P (Err k) on off = off _
