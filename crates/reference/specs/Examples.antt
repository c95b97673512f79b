-- Lists of calls to which a pool of 2 cells answers as the reference model does, and one to which it does not.
use Rattle.std.specs.Prelude.{ℕ, ◌≡◌, List, [], ◌∷◌, Bool, true, false}
use Rattle.pool.specs.Layout.{register_count}
use Rattle.pool.specs.Retain.{fresh_words}
use Rattle.answers.specs.Outcome.{Outcome, answered, refused}
use Rattle.calls.specs.declared.Call.{Call}
use Rattle.calls.specs.declared.Call.TheVariants as call
use Rattle.reference.specs.Model.{empty}
use Rattle.reference.specs.Equivalence.{pool_answers, model_answers, none_distinguishes}

-- The answers of a pool of N cells, those of the reference model with limit L, and whether no call distinguishes them.
abbrev pub Answers : ℕ → ℕ → List Call → List Outcome → List Outcome → Bool → Type 0
Answers N L calls pool model none =
    (pool_answers calls (fresh_words register_count N []) ≡ pool)
    × (model_answers L calls empty ≡ model)
    × (none_distinguishes N L calls empty ≡ none)

-- The calls behind the third "new" of 01's example, "z 0 / z 1 / n 2 1 1 9 / v 2 / g".
abbrev pub after_third : List Call
after_third = call.Clear 0 ∷ call.Clear 1 ∷ call.New 2 1 1 9 ∷ call.Value 2 ∷ call.Collect ∷ []

-- The calls of that example, "f 2 / n 0 0 0 7 / n 1 0 0 8 / n 2 1 1 9 / z 0 / z 1 / n 2 1 1 9 / v 2 / g", behind its f 2.
abbrev pub crowded : List Call
crowded = call.New 0 0 0 7 ∷ call.New 1 0 0 8 ∷ call.New 2 1 1 9 ∷ after_third

-- The answers behind the refusal, "ok, ok, ok, ok 9, ok 1 3".
abbrev pub after_refusal : List Outcome
after_refusal = answered [] ∷ answered [] ∷ answered [] ∷ answered (9 ∷ []) ∷ answered (1 ∷ 3 ∷ []) ∷ []

-- "ok, ok, ok, no 5, ok, ok, ok, ok 9, ok 1 3", the first of them for f 2: the third "new" finds both cells live. With L = N no call distinguishes the two.
abbrev pub Full : Type 0
Full = Answers 2 2 crowded (answered [] ∷ answered [] ∷ refused 5 ∷ after_refusal) (answered [] ∷ answered [] ∷ refused 5 ∷ after_refusal) true

-- With L = 3 that call does: 2 is at least min(2, 3) and below max(2, 3). The reference model then keeps all three cells, and refuses the last "new".
abbrev pub Apart : Type 0
Apart =
    Answers 2 3 crowded (answered [] ∷ answered [] ∷ refused 5 ∷ after_refusal)
    (answered [] ∷ answered [] ∷ answered [] ∷ answered [] ∷ answered [] ∷ refused 5 ∷ answered (9 ∷ []) ∷ answered (3 ∷ 9 ∷ []) ∷ []) false

-- Without that call no call distinguishes 2 cells from limit 3, though the last "new" takes a cell that was used before.
abbrev pub Alike : Type 0
Alike =
    Answers 2 3 (call.New 0 0 0 7 ∷ call.New 1 0 0 8 ∷ after_third)
    (answered [] ∷ answered [] ∷ after_refusal) (answered [] ∷ answered [] ∷ after_refusal) true
