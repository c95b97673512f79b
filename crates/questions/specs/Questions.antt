-- The first questions of every operation (01, "Questions, in order").
use Rattle.std.specs.Prelude.{ℕ, List, Bool, cond, ltb, Result, Ok, Err}
use Rattle.std.specs.List.{list_all}
use Rattle.answers.specs.declared.Refusal.{Refusal}
use Rattle.answers.specs.declared.Refusal.TheVariants as refusal
use Rattle.pool.specs.Layout.{register_count, cell_count, register}
use Rattle.questions.specs.Validity.{valid_link}
use Rattle.answers.specs.Outcome.{refusal_number}

-- The first question: "Is the length 18 + 4 × N, N within limits, and (in every call but fresh and load) word 0 that N? .. No: 1.", with e from 0 to 3 words
-- more (02, S-6: "The check of length in 01's first question reads so for every call"). It hands on the number of cells.
abbrev pub sized_of : List ℕ → Result ℕ Refusal
sized_of w = cond (ltb 0 (cell_count register_count w)) (Ok (cell_count register_count w)) (Err refusal.Size)

-- The second: "Is every register number below 16? No: 2."
abbrev pub are_registers : List ℕ → Bool
are_registers named = list_all (λ k. ltb k register_count) named

-- Whether the registers are there is asked only of words that are a pool.
abbrev pub asked_next : Bool → Result ℕ Refusal → Result ℕ Refusal
asked_next there (Ok n) = cond there (Ok n) (Err refusal.Register)
asked_next there (Err k) = Err k

-- The first two questions, in order.
abbrev pub admit_of : List ℕ → List ℕ → Result ℕ Refusal
admit_of w named = asked_next (are_registers named) (sized_of w)

-- What follows the questions: the operation on a pool of that many cells, or the refusal with its number.
abbrev pub admitted_to : {A : Type 0} → (ℕ → A) → (ℕ → A) → Result ℕ Refusal → A
admitted_to body refusing (Ok n) = body n
admitted_to body refusing (Err k) = refusing (refusal_number k)

-- "Are the registers read sound? .. No: 3": whether register a holds a valid link.
abbrev pub holds_link : ℕ → List ℕ → ℕ → Bool
holds_link n w a = valid_link register_count n w (register w a)

-- What a read of register a answers: that link, or that it is malformed.
abbrev pub held_of : ℕ → List ℕ → ℕ → Result ℕ Refusal
held_of n w a = cond (holds_link n w a) (Ok (register w a)) (Err refusal.Malformed)
