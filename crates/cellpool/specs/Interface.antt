-- How a call answers through the firmware's interface: 0 or the number of the refusal, and the numbers that it gives in lent places, which a refusal
-- leaves as they were.
use Rattle.std.specs.Prelude.{ℕ, List}
use Rattle.answers.specs.Outcome.{Outcome, status, given, verdict}
use Rattle.tally.specs.declared.Tally.{Tally}
use Rattle.load.specs.declared.Loaded.{Loaded}

-- A call that gives no number: its status, and what it leaves.
abbrev pub giving_none {ℓ} : {A : Type ℓ} → Outcome × A → ℕ × A
giving_none x = (status x.0, x.1)

-- A call that gives one number: the lent place too.
abbrev pub giving {ℓ} : {A : Type ℓ} → Outcome × A → ℕ → ℕ × A × ℕ
giving x old = (status x.0, x.1, given x.0 0 old)

-- A call that gives two: both lent places.
abbrev pub giving_two {ℓ} : {A : Type ℓ} → Outcome × A → ℕ → ℕ → ℕ × A × ℕ × ℕ
giving_two x first second = (status x.0, x.1, given x.0 0 first, given x.0 1 second)

-- The same of the collection with a tally, which is lent as two numbers.
abbrev pub tallying : Outcome × List ℕ × Tally → ℕ → ℕ → ℕ × List ℕ × ℕ × ℕ × ℕ × ℕ
tallying x first second = (status x.0, x.1, x.2.collections, x.2.visits, given x.0 0 first, given x.0 1 second)

-- The collection that is lent a stack: its status, the pool and the stack, and three lent places.
abbrev pub with_stack : Outcome × List ℕ × List ℕ → ℕ → ℕ → ℕ → ℕ × List ℕ × List ℕ × ℕ × ℕ × ℕ
with_stack x first second third = (status x.0, x.1, x.2, given x.0 0 first, given x.0 1 second, given x.0 2 third)

-- An operation that leaves nothing but the number that it gives.
abbrev pub number : Outcome → ℕ → ℕ × ℕ
number o old = (status o, given o 0 old)

-- The same of two numbers.
abbrev pub numbers : Outcome → ℕ → ℕ → ℕ × ℕ × ℕ
numbers o first second = (status o, given o 0 first, given o 1 second)

-- Save leaves scratch and output as its definition says; the pool's words are lent for reading only.
abbrev pub saving : Outcome × List ℕ × List ℕ → ℕ → ℕ × List ℕ × List ℕ × ℕ
saving x old = (status x.0, x.1, x.2, given x.0 0 old)

-- Load gives 0 or the number of the refusal, and the place behind the image, refused too.
abbrev pub loading : Loaded × List ℕ → ℕ × List ℕ × ℕ
loading x = (verdict x.0.verdict, x.1, x.0.end)
