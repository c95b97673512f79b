-- `stack_check::look` meets its contract: at each return the tests decide the definition's.
use Prim.Native.Nat.{ℕ, ◌≤◌}
use native.Mathlib.Omega.{arith}
use mathlib.Core.Path.{◌≡◌, sym, ◌∙◌}
use mathlib.Core.List.{List}
use lib.ListN.{length}
use Rattle.pool.specs.Layout.{register_count, pool_length, link_of}
use Rattle.stack_check.specs.Steps.{UsedOrMarked}
use Rattle.stack_check.proofs.Marked.{look_made, look_point, look_read, look_equal, look_both}
use Rattle.stack_check.proofs.look.Goals as goal
use Rattle.stack_check.proofs.look.Goals.{After-read_cell-right}

-- the links that were read
left : (c : After-read_cell-right) → c.read_cell-left.result ≡ link_of register_count c.args.words.now c.args.p 1
left c = look_read _ _ _ c.requires.marked_state.0 c.requires.marked_state.1 c.if-state-eq-MARKED_POINT.false 1 c.read_cell-left.ensures

right : (c : After-read_cell-right) → c.read_cell-right.result ≡ link_of register_count c.args.words.now c.args.p 2
right c = look_read _ _ _ c.requires.marked_state.0 c.requires.marked_state.1 c.if-state-eq-MARKED_POINT.false 2 c.read_cell-right.ensures

-- their states may be asked for the bit
asked : (w : List ℕ) {n l x : ℕ} → UsedOrMarked register_count w x → l ≡ x → x ≤ n → pool_length register_count n ≤ length w → (pool_length register_count l ≤ length w) × UsedOrMarked register_count w l
asked w kind same bound room = (omega arith, rw same kind)

pub returns-then-state-eq-MARKED_POINT : goal.returns-then-state-eq-MARKED_POINT
returns-then-state-eq-MARKED_POINT c = look_point _ _ _ c.requires.marked_state.0 c.if-state-eq-MARKED_POINT.true

pub is_open-requires : goal.is_open-requires
is_open-requires c =
    let r = (goal.at.is_open-requires c).After-read_cell-right in
    asked _ c.requires.used_or_marked.0 (left r) c.requires.cells.2 c.requires.cells.4

pub is_open-requires-else-left-right : goal.is_open-requires-else-left-right
is_open-requires-else-left-right c =
    let r = (goal.at.is_open-requires-else-left-right c).After-read_cell-right in
    asked _ c.requires.used_or_marked.1 (right r) c.requires.cells.3 c.requires.cells.4

pub is_open-requires-else-is_open : goal.is_open-requires-else-is_open
is_open-requires-else-is_open c =
    let r = (goal.at.is_open-requires-else-is_open c).After-read_cell-right in
    asked _ c.requires.used_or_marked.1 (right r) c.requires.cells.3 c.requires.cells.4

pub returns-then-left-right : goal.returns-then-left-right
returns-then-left-right c =
    let r = (goal.at.returns-then-left-right c).After-read_cell-right in
    look_equal _ _ _ _ _ (left r) (right r) (sym c.if-is_open.true ∙ c.is_open.ensures) c.if-left-right.true

pub returns-then-is_open-2 : goal.returns-then-is_open-2
returns-then-is_open-2 c =
    let r = (goal.at.returns-then-is_open-2 c).After-read_cell-right in
    look_both _ _ _ _ _ (left r) (right r) (sym c.if-is_open.true ∙ c.is_open.ensures) (sym c.if-is_open-2.true ∙ c.is_open-else-left-right.ensures) c.if-left-right.false

pub returns-else-is_open-2 : goal.returns-else-is_open-2
returns-else-is_open-2 c =
    let r = (goal.at.returns-else-is_open-2 c).After-read_cell-right in
    look_made _ _ _ _ _ (left r) (right r) (sym c.if-is_open.true ∙ c.is_open.ensures) (sym c.if-is_open-2.false ∙ c.is_open-else-left-right.ensures)

pub returns-then-is_open-3 : goal.returns-then-is_open-3
returns-then-is_open-3 c =
    let r = (goal.at.returns-then-is_open-3 c).After-read_cell-right in
    look_made _ _ _ _ _ (left r) (right r) (sym c.if-is_open.false ∙ c.is_open.ensures) (sym c.if-is_open-3.true ∙ c.is_open-else-is_open.ensures)

pub returns-else-is_open-3 : goal.returns-else-is_open-3
returns-else-is_open-3 c =
    let r = (goal.at.returns-else-is_open-3 c).After-read_cell-right in
    look_made _ _ _ _ _ (left r) (right r) (sym c.if-is_open.false ∙ c.is_open.ensures) (sym c.if-is_open-3.false ∙ c.is_open-else-is_open.ensures)
