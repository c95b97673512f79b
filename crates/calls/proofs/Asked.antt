-- A call behind the first two questions: what its body may rely on, and what the call comes to.
use Prim.Native.Nat.{ℕ}
use mathlib.Core.Path.{◌≡◌, refl, sym, ◌∙◌}
use mathlib.Core.List.{List}
use lib.ListN.{length}
use Rattle.answers.specs.Outcome.{Outcome, refused, refusal_number}
use Rattle.answers.specs.declared.Refusal.{Refusal}
use Rattle.pool.specs.Layout.{register_count}
use Rattle.std.proofs.Common.{Result, Ok, Err}
use Rattle.questions.specs.Questions.{admit_of}
use Rattle.pool.proofs.Sizes.{Sized}
use Rattle.questions.proofs.Admission.{Registers, sized_cells, registers_there, admit_cells, went_on, stopped}
use Rattle.calls.specs.declared.Call.{Call}
use Rattle.calls.specs.Calls.{registers_of, body_of, call_of}

module _ (w : List ℕ) (c : Call) {q : Result ℕ Refusal} (asked : q ≡ admit_of w (registers_of c)) where
  -- The words are as long as n cells need, and the pool has every register that is named.
  pub runs : {n : ℕ} → q ≡ Ok n → Sized register_count (length w) n × Registers (registers_of c)
  runs told =
      let both-are = admit_cells w (registers_of c) (sym asked ∙ told) in
      ((sized_cells w both-are.0).0, registers_there (registers_of c) both-are.1)

  pub ran : {n : ℕ} → q ≡ Ok n → {p : Outcome × List ℕ} → p ≡ body_of c n w → p ≡ call_of c w
  ran told done = went_on asked (λ n. body_of c n w) (λ k. (refused k, w)) told done

  pub refusing : {k : Refusal} → q ≡ Err k → (refused (refusal_number k), w) ≡ call_of c w
  refusing told = stopped asked (λ n. body_of c n w) (λ k. (refused k, w)) told refl
