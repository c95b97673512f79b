-- `allocator::take_collected` meets its contract: where the head is nil after the collection, nothing has changed.
use native.Mathlib.Omega.{arith}
use Rattle.std.proofs.lemmas.Result.{err_from_is_err_and}
use Rattle.allocator.proofs.Allocation.{swept, swept-head, take-refused, take-full, take_done}
use Rattle.allocator.proofs.take_collected.Goals as goal

pub returns-in_err-collected : goal.returns-in_err-collected
returns-in_err-collected c =
    let p = err_from_is_err_and c.from_residual.result c.from_residual.ensures.1 in
    rw (p.1, p.2) (take-refused _ _ _ c.collect_in.ensures _ _ _ _ _ c.in_err-collected.was)

pub returns-then-free-eq0 : goal.returns-then-free-eq0
returns-then-free-eq0 c =
    let collected = swept _ _ _ c.collect_in.ensures c.in_ok-collected.was in
    take-full _ _ collected _ _ _ _ _ c.requires.1 c.requires.0 c.requires.4 c.read_head-free.ensures (omega (arith, c.if-free-eq0.true))

pub take_head-requires : goal.take_head-requires
take_head-requires c =
    let collected = swept _ _ _ c.collect_in.ensures c.in_ok-collected.was in
    omega (arith, c.read_head-free.ensures, c.if-free-eq0.false, c.collect_in.auto.words, swept-head _ _ collected c.requires.1 c.requires.0)

pub returns : goal.returns
returns c =
    let collected = swept _ _ _ c.collect_in.ensures c.in_ok-collected.was in
    take_done _ _ collected _ _ _ _ _ c.read_head-free.ensures (λ z. omega (arith, c.if-free-eq0.false)) c.take_head.ensures c.second-visits.ensures
