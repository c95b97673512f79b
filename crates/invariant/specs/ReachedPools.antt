-- What the calls keep of a pool, from fresh words on.
use Rattle.std.specs.Prelude.{ℕ, ◌≤◌, ◌<◌, ◌≡◌, true, length}
use mathlib.Core.List.{List, Memᴰ}
use Rattle.graph.specs.Theorems.{Distinct}
use Rattle.pool.specs.Layout.{register_count, cell_count, state}
use Rattle.pool.specs.Lengths.{LengthOf}
use Rattle.pool.specs.States.{is_free}
use Rattle.questions.specs.Validity.{well_formed}
use Rattle.pool.specs.Retain.{fresh_words, free_list}
use Rattle.calls.specs.declared.Call.{Call}
use Rattle.batch.specs.Run.{after_all}

-- The free list has every free cell once, and nothing else.
pub record ExactFreeList (n : ℕ) (w : List ℕ) : Type 0 where
  pub once : Distinct (free_list register_count n w)
  pub free : (i : ℕ) → Memᴰ i (free_list register_count n w) → (0 < i) × (i ≤ n) × (is_free (state register_count w i) ≡ true)
  pub all : (i : ℕ) → 0 < i → i ≤ n → is_free (state register_count w i) ≡ true → Memᴰ i (free_list register_count n w)

-- Every pool that calls lead to from fresh words, whatever e words stand behind its cells, is a pool of N cells, well-formed, and its free list has every
-- free cell once.
abbrev pub ReachedPools : Type 0
ReachedPools =
    (N e : ℕ) (lent : List ℕ) (calls : List Call) → LengthOf register_count N e (length lent)
    → (cell_count register_count (after_all calls (fresh_words register_count N lent)) ≡ N)
    × (well_formed register_count N (after_all calls (fresh_words register_count N lent)) ≡ true)
    × ExactFreeList N (after_all calls (fresh_words register_count N lent))
