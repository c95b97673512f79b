-- `batch::run` meets its contract: what remains to be run gives what the whole run gives (`Running`).
use Prim.Native.Nat.{◌*◌, ◌<◌}
use native.Mathlib.Omega.{arith}
use mathlib.Core.Path.{◌≡◌}
use lib.ListN.{length}
use Rattle.batch.proofs.Loop.{running_malformed, running_no_room, running_more, running_last}
use Rattle.batch.proofs.run.Goals as goal

pub returns-in_default : goal.returns-in_default
returns-in_default c =
    let inside : 5 * c.loop-k.k < length c.args.list.now = omega (arith, c.loop-k-test.true, c.div_ceil-entries.ensures) in
    running_malformed _ c.loop-k.invariant inside c.entry.ensures c.in_default.is

pub returns-then-answers-k : goal.returns-then-answers-k
returns-then-answers-k c =
    let inside : 5 * c.loop-k.k < length c.args.list.now = omega (arith, c.loop-k-test.true, c.div_ceil-entries.ensures) in
    running_no_room _ c.loop-k.invariant inside c.entry.ensures c.in-Some.is c.if-answers-k.true

pub loop-k-preserved : goal.loop-k-preserved
loop-k-preserved c =
    let inside : 5 * c.loop-k.k < length c.args.list.now = omega (arith, c.loop-k-test.true, c.div_ceil-entries.ensures) in
    running_more _ c.loop-k.invariant inside c.entry.ensures c.in-Some.is c.if-answers-k.false c.perform-step.ensures.1 c.perform-step.auto.words c.write_answer.ensures c.write_answer.auto.answers

pub returns : goal.returns
returns c =
    let same : c.div_ceil-entries.result ≡ c.loop-k.k = omega arith in
    rw same (running_last _ c.loop-k.invariant (omega (arith, c.loop-k-test.false, c.div_ceil-entries.ensures)))
