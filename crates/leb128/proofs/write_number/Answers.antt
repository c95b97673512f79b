-- `leb128::write_number` meets its contract. The loop's invariant: what is left to write gives the bytes of the whole number (`Writing`).
-- The measure is what is left of the number.
use native.Mathlib.Omega.{arith}
use Rattle.leb128.proofs.Encoding.{encode-size}
use Rattle.leb128.proofs.Writing.{turn, written}
use Rattle.leb128.proofs.write_number.Goals as goal

pub bounds-out-i : goal.bounds-out-i
bounds-out-i c = omega (arith, encode-size c.loop-rest.rest)

pub loop-rest-preserved : goal.loop-rest-preserved
loop-rest-preserved c = turn c.loop-rest.invariant (omega arith)

pub bounds-out-i-2 : goal.bounds-out-i-2
bounds-out-i-2 c = omega (arith, encode-size c.loop-rest.rest)

pub returns : goal.returns
returns c = written c.loop-rest.invariant (omega arith) (omega arith)
