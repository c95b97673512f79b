-- What is proved of a collection that marks with a lent stack: a statement.
use Rattle.std.specs.Prelude.{ℕ, ◌<◌, ◌≡◌, ◌↔◌, true, length, replicate}
use mathlib.Core.List.{List, [], ◌∷◌, Memᴰ}
use Rattle.pool.specs.Layout.{register_count, cell_count, graph_of, roots_of}
use Rattle.questions.specs.Validity.{well_formed}
use Rattle.answers.specs.Outcome.{answered}
use Rattle.collector.specs.Collect.{collect_of}
use Rattle.stack_algorithm.specs.Stack.{HoldsAll}
use Rattle.stack_marker.specs.StackCollect.{lent_run, stack_of}

-- Of a collection with a lent stack: "Pool and kept number are those of a long stack", so those of collect, and "the stack words end 0" (01). It answers
-- what collect kept; 1 exactly where "no check found all entries needed", so that each dropped one at least, and 0 exactly where one did; and how many checks
-- ran. None is made exactly where the stack is "enough" in the sense of 01 (`HoldsAll`, with S-2's rule for equal links).
abbrev pub StackCollects : Type 0
StackCollects =
    (n : ℕ) (w stack : List ℕ) → 0 < n → cell_count register_count w ≡ n → well_formed register_count n w ≡ true
    → let dropped = (lent_run n w stack).1 in
    (kept visits enough : ℕ) × (w' : List ℕ)
    × (collect_of w ≡ (answered (kept ∷ visits ∷ []), w'))
    × (stack_of w stack ≡ (answered (kept ∷ enough ∷ length dropped ∷ []), w', replicate (length stack) 0))
    × ((Memᴰ 0 dropped → ⊥) ↔ (enough ≡ 1)) × (Memᴰ 0 dropped ↔ (enough ≡ 0))
    × (HoldsAll (length stack) n (graph_of register_count w) (roots_of register_count w) ↔ (length dropped ≡ 0))
