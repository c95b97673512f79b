-- `calls::collect` meets its contract: the first two questions, then the call.
use Rattle.std.proofs.lemmas.Result.{err_from_is_err_and}
use native.Mathlib.Omega.{arith}
use Rattle.calls.specs.declared.Call.TheVariants as call
use Rattle.calls.proofs.Asked.{runs, ran, refusing}
use Rattle.calls.proofs.collect.Goals as goal

pub collect_in-requires : goal.collect_in-requires
collect_in-requires c = omega (arith, runs c.args.words.now (call.Collect) c.admit.ensures c.in_ok-n.was)

pub returns : goal.returns
returns c = ran c.args.words.now (call.Collect) c.admit.ensures c.in_ok-n.was c.collect_in.ensures

pub returns-in_err-n : goal.returns-in_err-n
returns-in_err-n c =
    let p = err_from_is_err_and c.from_residual.result c.from_residual.ensures.1 in
    rw (p.1, p.2) (refusing c.args.words.now (call.Collect) c.admit.ensures c.in_err-n.was)
