-- Demand 3, for every list of calls: the pool answers as the reference model does.
use Rattle.std.specs.Prelude.{ℕ, min, max, ◌≡◌, ◌↔◌, Bool, true, ◌&&◌, not, length, leb, ltb}
use mathlib.Core.List.{List, [], ◌∷◌, Memᴰ}
use Rattle.pool.specs.Layout.{register_count}
use Rattle.pool.specs.Lengths.{LengthOf}
use Rattle.questions.specs.Questions.{are_registers}
use Rattle.pool.specs.Retain.{fresh_words}
use Rattle.answers.specs.Outcome.{Outcome, answered, allocated, refused}
use Rattle.calls.specs.declared.Call.{Call}
use Rattle.calls.specs.Calls.{registers_of, allocates, call_of}
use Rattle.reference.specs.Model.{Model, empty, live, model_of}

-- What is observed of a call's answer, and compared with the reference model's: "An answer is done (an accepted "new" too, its visits left out)", and so
-- a "point", "the number or numbers given, or the refusal."
abbrev pub observed : Outcome → Outcome
observed (answered numbers) = answered numbers
observed (allocated visits) = answered []
observed (refused k) = refused k

-- "each call gets what the one before it left, refused or not": what is observed of the pool's answers.
unfoldable pub pool_answers : List Call → List ℕ → List Outcome
pool_answers [] w = []
pool_answers (c ∷ cs) w = observed (call_of c w).0 ∷ pool_answers cs (call_of c w).1

-- The answers of the reference model with limit L.
unfoldable pub model_answers : ℕ → List Call → Model → List Outcome
model_answers L [] m = []
model_answers L (c ∷ cs) m = (model_of L c m).0 ∷ model_answers L cs (model_of L c m).1

-- Does this call distinguish a pool of N cells from a model with limit L? Demand 3: a "new" with valid registers does, and so a "point",
-- "counting as a "new"" (02, S-8), where it finds at least the smaller and fewer than the larger of N and L live cells.
abbrev pub distinguishes : ℕ → ℕ → Call → Model → Bool
distinguishes N L c m = allocates c && are_registers (registers_of c) && leb (min N L) (live m) && ltb (live m) (max N L)

-- No call of the list does, in the run of the reference model.
unfoldable pub none_distinguishes : ℕ → ℕ → List Call → Model → Bool
none_distinguishes N L [] m = true
none_distinguishes N L (c ∷ cs) m = not (distinguishes N L c m) && none_distinguishes N L cs (model_of L c m).1

-- Demand 3: the answers of a pool of N cells equal those of the ledger with limit L exactly when no "new" or "point" with valid registers finds at least
-- the smaller and fewer than the larger of N and L live cells: "lists of all fourteen calls are compared" (02, S-8). One statement about the whole list,
-- for every N, L and list. "Scripts on a pool with leftovers get the ledger's answers for N" (02, S-6): so it is with every e words behind the cells,
-- whatever they hold; with e = 0 there are none.
abbrev pub Equivalence : Type 0
Equivalence =
    (N e L : ℕ) (lent : List ℕ) (calls : List Call) → LengthOf register_count N e (length lent)
    → (pool_answers calls (fresh_words register_count N lent) ≡ model_answers L calls empty) ↔ (none_distinguishes N L calls empty ≡ true)

-- With L = N they are always equal.
abbrev pub EquivalenceAtLimit : Type 0
EquivalenceAtLimit =
    (N e : ℕ) (lent : List ℕ) (calls : List Call) → LengthOf register_count N e (length lent)
    → pool_answers calls (fresh_words register_count N lent) ≡ model_answers N calls empty

-- "Refusals .. 1 and 3 never come": no list of calls on a fresh pool is ever refused with 1 or 3.
abbrev pub NeverMalformed : Type 0
NeverMalformed =
    (N e : ℕ) (lent : List ℕ) (calls : List Call) → LengthOf register_count N e (length lent)
    → (o : Outcome) → Memᴰ o (pool_answers calls (fresh_words register_count N lent))
    → (o ≡ refused 1 → ⊥) × (o ≡ refused 3 → ⊥)
