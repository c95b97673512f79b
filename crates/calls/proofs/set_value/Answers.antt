-- `calls::set_value` meets its contract: the first two questions, then the call.
use Rattle.std.proofs.lemmas.Result.{err_from_is_err_and}
use native.Mathlib.Omega.{arith}
use Rattle.calls.specs.declared.Call.TheVariants as call
use Rattle.calls.proofs.Asked.{runs, ran, refusing}
use Rattle.calls.proofs.set_value.Goals as goal

pub set_value_in-requires : goal.set_value_in-requires
set_value_in-requires c = omega (arith, runs c.args.words.now (call.SetValue c.args.a c.args.v) c.admit.ensures c.in_ok-n.was)

pub returns : goal.returns
returns c = ran c.args.words.now (call.SetValue c.args.a c.args.v) c.admit.ensures c.in_ok-n.was c.set_value_in.ensures

pub returns-in_err-n : goal.returns-in_err-n
returns-in_err-n c =
    let p = err_from_is_err_and c.from_residual.result c.from_residual.ensures.1 in
    rw (p.1, p.2) (refusing c.args.words.now (call.SetValue c.args.a c.args.v) c.admit.ensures c.in_err-n.was)
