-- What an operation says, in the numbers of document 01.
use Rattle.std.specs.Prelude.{ℕ, ◌≡◌, List, [], ◌∷◌, get_or, Result, Ok, Err}
use Rattle.answers.specs.declared.Refusal.{Refusal}
use Rattle.answers.specs.declared.Refusal.TheVariants as refusal
use Rattle.answers.specs.declared.Answer.{Answer}
use Rattle.answers.specs.declared.Answer.TheVariants as answer

-- What a call says: the numbers that it gives; or that a cell was allocated, with the visits of the collection that it took ("new" and "point" also report
-- visits, which stand outside the comparison with the ledger); or the number of the refusal.
pub data Outcome : Type 0 where
  answered : List ℕ → Outcome
  allocated : ℕ → Outcome
  refused : ℕ → Outcome

-- 0 for an accepted call, or the number of the refusal.
abbrev pub status : Outcome → ℕ
status (answered xs) = 0
status (allocated visits) = 0
status (refused k) = k

-- Number i of those given, or another where there is none.
abbrev pub given : Outcome → ℕ → ℕ → ℕ
given (answered xs) i other = get_or xs i other
given (allocated visits) i other = get_or (visits ∷ []) i other
given (refused k) i other = other

-- The number of each refusal (01, "Questions, in order"; 12: 02, S-1; 13 and 14: S-8).
abbrev pub refusal_number : Refusal → ℕ
refusal_number refusal.Size = 1
refusal_number refusal.Register = 2
refusal_number refusal.Malformed = 3
refusal_number refusal.Nil = 4
refusal_number refusal.Full = 5
refusal_number refusal.Truncated = 6
refusal_number refusal.OutOfRange = 7
refusal_number refusal.LinkRange = 8
refusal_number refusal.TooManyCells = 9
refusal_number refusal.NoRoom = 10
refusal_number refusal.TooLarge = 11
refusal_number refusal.Padded = 12
refusal_number refusal.Kind = 13
refusal_number refusal.KindNumber = 14

-- 0 where nothing is refused, or the number of the refusal.
abbrev pub verdict : Result (Unit {0}) Refusal → ℕ
verdict (Ok done) = 0
verdict (Err why) = refusal_number why

-- Done gives no number; an allocation is told with its visits; the others give one number or two; a refusal its number.
abbrev pub answer_outcome : Result Answer Refusal → Outcome
answer_outcome (Ok answer.Done) = answered []
answer_outcome (Ok (answer.Allocated visits)) = allocated visits
answer_outcome (Ok (answer.Number x)) = answered (x ∷ [])
answer_outcome (Ok (answer.Pair x y)) = answered (x ∷ y ∷ [])
answer_outcome (Err k) = refused (refusal_number k)

-- What is said determines the answer, its case too: of two answers that say the same, each is the other. So a contract that fixes what is said leaves
-- nothing of the answer free (01, rule a).
abbrev pub Determined : (A : Type 0) → (A → Outcome) → Type 0
Determined A says = (p q : A) → says p ≡ says q → p ≡ q

-- So it is of a refusal.
abbrev pub RefusalDetermined : Type 0
RefusalDetermined = (j k : Refusal) → refusal_number j ≡ refusal_number k → j ≡ k

-- And of an answer.
abbrev pub AnswerDetermined : Type 0
AnswerDetermined = Determined (Result Answer Refusal) answer_outcome

-- And of what is refused or not: its number says why, and whether.
abbrev pub VerdictDetermined : Type 0
VerdictDetermined = (p q : Result (Unit {0}) Refusal) → verdict p ≡ verdict q → p ≡ q
