-- `pool::Pool::fresh` meets its contract: the length decides, and the words are blanked and all cells freed.
use native.Mathlib.Omega.{arith}
use Rattle.pool.proofs.Sizes.{counted_sized}
use Rattle.pool.proofs.FreshPool.{fresh_made}
use Rattle.pool.proofs.Pool.fresh.Goals as goal

pub overflow_sub-leftover : goal.overflow_sub-leftover
overflow_sub-leftover c = omega (arith, (counted_sized _ _ c.in-Some.ensures.0 c.in-Some.ensures.1).room)

pub blank-requires : goal.blank-requires
blank-requires c = (counted_sized _ _ c.in-Some.ensures.0 c.in-Some.ensures.1).room

pub free_above-requires : goal.free_above-requires
free_above-requires c =
    let sized = counted_sized _ _ c.in-Some.ensures.0 c.in-Some.ensures.1 in
    (omega arith, omega (arith, sized.room, c.blank.auto.words), λ i low few. absurd (omega arith))

pub returns : goal.returns
returns c = fresh_made _ _ c.in-Some.ensures.0 c.in-Some.ensures.1 _ _ c.blank.ensures c.free_above.ensures
