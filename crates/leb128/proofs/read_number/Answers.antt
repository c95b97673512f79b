-- `leb128::read_number` meets its contract. The loop's invariant: what is left to read gives the answer (`Reading`). The measure is what the weight lacks to
-- that of the fifth group.
use native.Mathlib.Omega.{arith}
use Rattle.std.proofs.lemmas.Result.{err_from_is_err_and}
use Rattle.leb128.proofs.Reading.{none, first, missing, some_left, none_left, turn, fifth}
use Rattle.leb128.proofs.read_number.Goals as goal

pub returns-in_err-first : goal.returns-in_err-first
returns-in_err-first c =
    let p = err_from_is_err_and c.from_residual.result c.from_residual.ensures.1 in
    rw (p.1, p.2, c.in_err-first.ensures.1) (none _ _ c.in_err-first.ensures.0)

pub returns-then-first-lt128 : goal.returns-then-first-lt128
returns-then-first-lt128 c = rw c.in_ok-first.ensures.2 ((first _ _ c.in_ok-first.ensures.0 (omega arith)).ends (omega arith))

pub loop-weight-init : goal.loop-weight-init
loop-weight-init c = (3, rw c.in_ok-first.ensures.2 ((first _ _ c.in_ok-first.ensures.0 (omega arith)).again (omega arith)))

pub returns-in_err-group : goal.returns-in_err-group
returns-in_err-group c =
    let p = err_from_is_err_and c.from_residual-in_err-group.result c.from_residual-in_err-group.ensures.1 in
    rw (p.1, p.2, c.in_err-group.ensures.1) (missing c.loop-weight.invariant.1 c.in_err-group.ensures.0)

pub overflow_mul-value : goal.overflow_mul-value
overflow_mul-value c =
    let some = some_left c.loop-weight.invariant.1 (omega arith) in
    omega (arith, (turn c.loop-weight.invariant.1 some c.in_ok-group.ensures.0 c.in_ok-group.ensures.1 c.in_ok-group.ensures.2).fits)

pub overflow_add-value : goal.overflow_add-value
overflow_add-value c =
    let some = some_left c.loop-weight.invariant.1 (omega arith) in
    omega (arith, (turn c.loop-weight.invariant.1 some c.in_ok-group.ensures.0 c.in_ok-group.ensures.1 c.in_ok-group.ensures.2).fits)

pub returns-then-group-eq0 : goal.returns-then-group-eq0
returns-then-group-eq0 c =
    let some = some_left c.loop-weight.invariant.1 (omega arith) in
    (turn c.loop-weight.invariant.1 some c.in_ok-group.ensures.0 c.in_ok-group.ensures.1 c.in_ok-group.ensures.2).padded c.if-group-eq0.true

pub returns-then-group-lt128 : goal.returns-then-group-lt128
returns-then-group-lt128 c =
    let some = some_left c.loop-weight.invariant.1 (omega arith) in
    (turn c.loop-weight.invariant.1 some c.in_ok-group.ensures.0 c.in_ok-group.ensures.1 c.in_ok-group.ensures.2).ends (omega arith) c.if-group-lt128.true

pub overflow_mul-weight : goal.overflow_mul-weight
overflow_mul-weight c =
    let some = some_left c.loop-weight.invariant.1 (omega arith) in
    omega (arith, (turn c.loop-weight.invariant.1 some c.in_ok-group.ensures.0 c.in_ok-group.ensures.1 c.in_ok-group.ensures.2).next_weight)

pub loop-weight-preserved : goal.loop-weight-preserved
loop-weight-preserved c =
    let some = some_left c.loop-weight.invariant.1 (omega arith) in
    (_, (turn c.loop-weight.invariant.1 some c.in_ok-group.ensures.0 c.in_ok-group.ensures.1 c.in_ok-group.ensures.2).again c.if-group-lt128.false)

pub returns-in_err-fifth : goal.returns-in_err-fifth
returns-in_err-fifth c =
    let p = err_from_is_err_and c.from_residual-in_err-fifth.result c.from_residual-in_err-fifth.ensures.1 in
    rw (p.1, p.2, c.in_err-fifth.ensures.1) (missing c.loop-weight.invariant.1 c.in_err-fifth.ensures.0)

pub returns-then-fifth-ge16 : goal.returns-then-fifth-ge16
returns-then-fifth-ge16 c =
    (fifth c.loop-weight.invariant.1 (none_left c.loop-weight.invariant.1 (omega arith)) c.in_ok-fifth.ensures.0 c.in_ok-fifth.ensures.2).beyond
    c.if-fifth-ge16.true

pub returns-then-fifth-eq0 : goal.returns-then-fifth-eq0
returns-then-fifth-eq0 c =
    (fifth c.loop-weight.invariant.1 (none_left c.loop-weight.invariant.1 (omega arith)) c.in_ok-fifth.ensures.0 c.in_ok-fifth.ensures.2).padded
    c.if-fifth-eq0.true

pub returns : goal.returns
returns c =
    (fifth c.loop-weight.invariant.1 (none_left c.loop-weight.invariant.1 (omega arith)) c.in_ok-fifth.ensures.0 c.in_ok-fifth.ensures.2).ends
    (omega arith) (omega arith)
