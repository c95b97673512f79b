-- What save says determines it.
use Prim.Native.Nat.{ℕ}
use mathlib.Core.Path.{◌≡◌, refl, ap}
use Rattle.answers.specs.Outcome.{Outcome, answered, allocated, refused}
use Rattle.answers.proofs.Determined.{found_again, refusal_of, refusal_again}
use lib.ListN.{get_or}
use Rattle.std.specs.Prelude.{Result, Ok, Err}
use Rattle.answers.specs.declared.Refusal.{Refusal}
use Rattle.save.specs.Save.{saved_outcome, SavedDetermined}

abbrev saved_found : Outcome → Result ℕ Refusal
saved_found (answered xs) = Ok (get_or xs 0 0)
saved_found (allocated visits) = Ok 0
saved_found (refused k) = Err (refusal_of k)

again : (p : Result ℕ Refusal) → saved_found (saved_outcome p) ≡ p
again (Ok n) = refl
again (Err k) = ap Err (refusal_again k)

pub saved_determined : SavedDetermined
saved_determined = found_again saved_outcome saved_found again
