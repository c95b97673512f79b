-- What is said determines the answer (specs/Outcome.antt): from what is said the answer is found again.
use Prim.Native.Nat.{ℕ, ◌-◌}
use mathlib.Core.Path.{◌≡◌, refl, sym, ap, ◌∙◌}
use mathlib.Core.List.{[], ◌∷◌}
use lib.ListN.{get_or}
use lib.Dec.{eqb}
use mathlib.Core.Bool.{cond}
use Rattle.std.proofs.Common.{Result, Ok, Err}
use Rattle.answers.specs.declared.Refusal.{Refusal}
use Rattle.answers.specs.declared.Refusal.TheVariants as refusal
use Rattle.answers.specs.declared.Answer.{Answer}
use Rattle.answers.specs.declared.Answer.TheVariants as answer
use Rattle.answers.specs.Outcome.{Outcome, answered, allocated, refused, refusal_number, answer_outcome, verdict, RefusalDetermined, AnswerDetermined, VerdictDetermined}

-- whatever can be found again is determined
pub found_again : {A B : Type 0} (says : A → B) (find : B → A) → ((p : A) → find (says p) ≡ p) → (p q : A) → says p ≡ says q → p ≡ q
found_again says find law p q e = sym (law p) ∙ ap find e ∙ law q

-- the refusal of a number, which counts from 1
abbrev pub refusal_of : ℕ → Refusal
refusal_of n =
    get_or (refusal.Size ∷ refusal.Register ∷ refusal.Malformed ∷ refusal.Nil ∷ refusal.Full ∷ refusal.Truncated ∷ refusal.OutOfRange ∷ refusal.LinkRange ∷ refusal.TooManyCells ∷ refusal.NoRoom ∷ refusal.TooLarge ∷ refusal.Padded ∷ refusal.Kind ∷ refusal.KindNumber ∷ []) (n - 1) refusal.Size

pub refusal_again : (k : Refusal) → refusal_of (refusal_number k) ≡ k
refusal_again refusal.Size = refl
refusal_again refusal.Register = refl
refusal_again refusal.Malformed = refl
refusal_again refusal.Nil = refl
refusal_again refusal.Full = refl
refusal_again refusal.Truncated = refl
refusal_again refusal.OutOfRange = refl
refusal_again refusal.LinkRange = refl
refusal_again refusal.TooManyCells = refl
refusal_again refusal.NoRoom = refl
refusal_again refusal.TooLarge = refl
refusal_again refusal.Padded = refl
refusal_again refusal.Kind = refl
refusal_again refusal.KindNumber = refl

pub refusal_determined : RefusalDetermined
refusal_determined = found_again refusal_number refusal_of refusal_again

abbrev answer_found : Outcome → Result Answer Refusal
answer_found (answered []) = Ok answer.Done
answer_found (answered (x ∷ [])) = Ok (answer.Number x)
answer_found (answered (x ∷ y ∷ more)) = Ok (answer.Pair x y)
answer_found (allocated visits) = Ok (answer.Allocated visits)
answer_found (refused k) = Err (refusal_of k)

answer-again : (p : Result Answer Refusal) → answer_found (answer_outcome p) ≡ p
answer-again (Ok answer.Done) = refl
answer-again (Ok (answer.Allocated visits)) = refl
answer-again (Ok (answer.Number x)) = refl
answer-again (Ok (answer.Pair x y)) = refl
answer-again (Err k) = ap Err (refusal_again k)

pub answer_determined : AnswerDetermined
answer_determined = found_again answer_outcome answer_found answer-again

abbrev verdict_found : ℕ → Result (Unit {0}) Refusal
verdict_found n = cond (eqb n 0) (Ok tt) (Err (refusal_of n))

verdict-again : (p : Result (Unit {0}) Refusal) → verdict_found (verdict p) ≡ p
verdict-again (Ok tt) = refl
verdict-again (Err refusal.Size) = refl
verdict-again (Err refusal.Register) = refl
verdict-again (Err refusal.Malformed) = refl
verdict-again (Err refusal.Nil) = refl
verdict-again (Err refusal.Full) = refl
verdict-again (Err refusal.Truncated) = refl
verdict-again (Err refusal.OutOfRange) = refl
verdict-again (Err refusal.LinkRange) = refl
verdict-again (Err refusal.TooManyCells) = refl
verdict-again (Err refusal.NoRoom) = refl
verdict-again (Err refusal.TooLarge) = refl
verdict-again (Err refusal.Padded) = refl
verdict-again (Err refusal.Kind) = refl
verdict-again (Err refusal.KindNumber) = refl

pub verdict_determined : VerdictDetermined
verdict_determined = found_again verdict verdict_found verdict-again
