-- What a collection with a lent stack says determines it.
use mathlib.Core.Path.{◌≡◌, refl, ap}
use mathlib.Core.Bool.{Bool, true, false}
use lib.ListN.{get_or}
use lib.Dec.{eqb}
use Rattle.std.proofs.Common.{Result, Ok, Err}
use Rattle.answers.specs.declared.Refusal.{Refusal}
use Rattle.answers.specs.Outcome.{Outcome, answered, allocated, refused}
use Rattle.answers.proofs.Determined.{found_again, refusal_of, refusal_again}
use Rattle.stack_marker.specs.declared.StackCollection.{StackCollection}
use Rattle.stack_marker.specs.StackCollect.{stack_outcome, StackAnswerDetermined}

abbrev answer_found : Outcome → Result StackCollection Refusal
answer_found (answered xs) = Ok (record { kept = get_or xs 0 0; enough = eqb (get_or xs 1 0) 1; checks = get_or xs 2 0 })
answer_found (allocated visits) = Ok (record { kept = 0; enough = false; checks = 0 })
answer_found (refused k) = Err (refusal_of k)

again : (p : Result StackCollection Refusal) → answer_found (stack_outcome p) ≡ p
again (Ok made) = kept made.enough refl
  where
    kept : (t : Bool) → made.enough ≡ t → answer_found (stack_outcome (Ok made)) ≡ Ok made
    kept true e = rw e refl
    kept false e = rw e refl
again (Err k) = ap Err (refusal_again k)

pub stack-answer_determined : StackAnswerDetermined
stack-answer_determined = found_again stack_outcome answer_found again
