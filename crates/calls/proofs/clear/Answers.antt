-- `calls::clear` meets its contract: the first two questions, then the call.
use Rattle.std.proofs.lemmas.Result.{err_from_is_err_and}
use native.Mathlib.Omega.{arith}
use Rattle.calls.specs.declared.Call.TheVariants as call
use Rattle.calls.proofs.Asked.{runs, ran, refusing}
use Rattle.calls.proofs.clear.Goals as goal

pub clear_in-requires : goal.clear_in-requires
clear_in-requires c = omega (arith, runs c.args.words.now (call.Clear c.args.r) c.admit.ensures c.in_ok-admit.was)

pub returns : goal.returns
returns c = ran c.args.words.now (call.Clear c.args.r) c.admit.ensures c.in_ok-admit.was c.clear_in.ensures

pub returns-in_err-admit : goal.returns-in_err-admit
returns-in_err-admit c =
    let p = err_from_is_err_and c.from_residual.result c.from_residual.ensures.1 in
    rw (p.1, p.2) (refusing c.args.words.now (call.Clear c.args.r) c.admit.ensures c.in_err-admit.was)
