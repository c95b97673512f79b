-- The reference model (01: the ledger): it never collects, and it is fed the calls and nothing from the pool.
use Rattle.std.specs.Prelude.{ℕ, suc, ◌-◌, List, [], ◌∷◌, ◌++◌, Bool, true, false, cond, not, length, get_or, set, replicate, eqb, leb}
use Rattle.graph.specs.Graph.{Graph}
use Rattle.graph.specs.Preorder.{preorder}
use Rattle.pool.specs.Layout.{register_count}
use Rattle.reversal.specs.Reached.{visits_of}
use Rattle.questions.specs.Questions.{are_registers}
use Rattle.answers.specs.Outcome.{Outcome, answered, refused}
use Rattle.calls.specs.declared.Call.{Call}
use Rattle.calls.specs.declared.Call.TheVariants as call
use Rattle.calls.specs.Calls.{registers_of}

-- One of its "cells (left, right, value)", which "gains kind" (02, S-8): of a point the left and right words are x and y. Its places count from 1, and link
-- 0 is nil.
pub record Entry : Type 0 where
  pub point : Bool
  pub left : ℕ
  pub right : ℕ
  pub value : ℕ

-- "Its state: a list of cells (left, right, value) that only grows, and sixteen registers, each nil or a place in that list."
pub record Model : Type 0 where
  pub cells : List Entry
  pub registers : List ℕ

-- "Fresh is no cells and all nil."
abbrev pub empty : Model
empty = record { cells = []; registers = replicate register_count 0 }

-- What is read at a place where there is no cell.
abbrev pub any_entry : Entry
any_entry = record { point = false; left = 0; right = 0; value = 0 }

-- The cell at place x.
abbrev pub entry : Model → ℕ → Entry
entry m x = get_or m.cells (x - 1) any_entry

-- The model with the cell e at place x.
abbrev pub replace : Model → ℕ → Entry → Model
replace m x e = record { cells = set m.cells (x - 1) e; registers = m.registers }

-- What register k holds.
abbrev pub held : Model → ℕ → ℕ
held m k = get_or m.registers k 0

-- The model in which register k holds x.
abbrev pub hold : Model → ℕ → ℕ → Model
hold m k x = record { cells = m.cells; registers = set m.registers k x }

-- A link of a cell: a point has two nil links.
abbrev pub entry_link : Entry → ℕ → ℕ
entry_link e x = cond e.point 0 x

-- The graph of its cells.
abbrev pub model_graph : Model → Graph
model_graph m = record { left = λ x. entry_link (entry m x) (entry m x).left; right = λ x. entry_link (entry m x) (entry m x).right }

-- The places of the "cells reached from the registers over left and right".
abbrev pub live_places : Model → List ℕ
live_places m = preorder (length m.cells) (model_graph m) m.registers

-- "Live is the number of cells reached from the registers over left and right."
abbrev pub live : Model → ℕ
live m = length (live_places m)

-- "3 × pairs + points" of them (02, S-8).
abbrev pub live_visits : Model → ℕ
live_visits m = visits_of (λ x. (entry m x).point) (live_places m)

-- An accepted "new" or "point": "it appends its cell, and r gets that cell's place".
abbrev pub append : Model → ℕ → Entry → Model
append m r e = record { cells = m.cells ++ (e ∷ []); registers = set m.registers r (suc (length m.cells)) }

-- An accepted call that gives no number.
abbrev pub done : Model → Outcome × Model
done m = (answered [], m)

-- What is done with a's cell: "does a hold a cell? No: 4."
abbrev pub on_cell : Model → ℕ → (Entry → Outcome × Model) → Outcome × Model
on_cell m a body = cond (eqb (held m a) 0) (refused 4, m) (body (entry m (held m a)))

-- And with a cell of one kind: "13 where left, right or a link change meets a point, or east or north a pair, directly after 4" (02, S-8).
abbrev pub on_kind : Bool → Model → ℕ → (Entry → Outcome × Model) → Outcome × Model
on_kind point m a body = on_cell m a λ e. cond (cond e.point point (not point)) (body e) (refused 13, m)

-- "new" with valid registers "finds the live count as it stands before it: it is refused with 5 if that is L or more, .. otherwise it appends its cell"; so
-- does "point".
abbrev pub append_below : ℕ → Model → ℕ → Entry → Outcome × Model
append_below L m r e = cond (leb L (live m)) (refused 5, m) (done (append m r e))

-- A call with valid registers, with the limit L: "Each call does as written above on this list, with a place where the pool has a cell number."
-- "collect answers live and 3 × pairs + points" (02, S-8) "and changes nothing".
abbrev pub model_body : ℕ → Call → Model → Outcome × Model
model_body L (call.Copy r a) m = done (hold m r (held m a))
model_body L (call.Clear r) m = done (hold m r 0)
model_body L (call.New r a b v) m = append_below L m r (record { point = false; left = held m a; right = held m b; value = v })
model_body L (call.Left r a) m = on_kind false m a λ e. done (hold m r e.left)
model_body L (call.Right r a) m = on_kind false m a λ e. done (hold m r e.right)
model_body L (call.SetLeft a b) m =
    on_kind false m a λ e. done (replace m (held m a) (record { point = e.point; left = held m b; right = e.right; value = e.value }))
model_body L (call.SetRight a b) m =
    on_kind false m a λ e. done (replace m (held m a) (record { point = e.point; left = e.left; right = held m b; value = e.value }))
model_body L (call.SetValue a v) m =
    on_cell m a λ e. done (replace m (held m a) (record { point = e.point; left = e.left; right = e.right; value = v }))
model_body L (call.Value a) m = on_cell m a λ e. (answered (e.value ∷ []), m)
model_body L (call.Same a b) m = (answered (cond (eqb (held m a) (held m b)) 1 0 ∷ []), m)
model_body L call.Collect m = (answered (live m ∷ live_visits m ∷ []), m)
model_body L (call.Point r v x y) m = append_below L m r (record { point = true; left = x; right = y; value = v })
model_body L (call.East a) m = on_kind true m a λ e. (answered (e.left ∷ []), m)
model_body L (call.North a) m = on_kind true m a λ e. (answered (e.right ∷ []), m)

-- One call: "A call's registers are valid if all their numbers are below 16", by the pool's own test, and where they are not it is refused with 2. "A
-- refused call changes nothing here."
abbrev pub model_of : ℕ → Call → Model → Outcome × Model
model_of L c m = cond (are_registers (registers_of c)) (model_body L c m) (refused 2, m)
