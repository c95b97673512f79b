-- `load::fill_registers` meets its contract: what was read is in its place (`Filling`).
use native.Mathlib.Omega.{arith}
use mathlib.Core.Path.{◌∙◌}
use Rattle.pool.specs.Layout.{set_register}
use Rattle.load.proofs.Filling.{filling_more, filling_last}
use Rattle.load.proofs.fill_registers.Goals as goal

pub loop-j-preserved : goal.loop-j-preserved
loop-j-preserved c = (
  c.fill_register-at.auto.words ∙ c.loop-j.invariant.0,
  λ k. filling_more _ set_register _ _ _ _ _ _ _ _ (c.loop-j.invariant.1 k) _ _ c.loop-j-test.true (c.fill_register-at.ensures k),
)

pub returns : goal.returns
returns c = λ k list end e. filling_last _ set_register _ _ _ _ _ _ _ _ (c.loop-j.invariant.1 k) (omega arith) list end e
