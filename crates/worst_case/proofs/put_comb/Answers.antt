-- `worst_case::put_comb` meets its contract: each turn writes the highest cell that is left.
use Prim.Native.Nat.{ℕ, ◌+◌, ◌-◌}
use native.Mathlib.Omega.{arith}
use mathlib.Core.Path.{◌∙◌}
use Rattle.pool.specs.Layout.{register_count}
use Rattle.stack_algorithm.proofs.Comb.{link_odd, link-even}
use Rattle.worst_case.proofs.Comb.{putting_turn, putting_last}
use Rattle.worst_case.proofs.put_comb.Goals as goal

pub loop-i-preserved-then-cell-eq0 : goal.loop-i-preserved-then-cell-eq0
loop-i-preserved-then-cell-eq0 c =
    let cell : ℕ = c.loop-i.i - 1 + 1 in
    putting_turn register_count _ _ _ _ (0, 0) c.loop-i-test.true
    (rw (link-even c.args.n cell 2 c.if-cell-eq0.true, link-even c.args.n cell 1 c.if-cell-eq0.true)) c.put_cell.ensures ∙ c.loop-i.invariant

pub loop-i-preserved : goal.loop-i-preserved
loop-i-preserved c =
    let cell : ℕ = c.loop-i.i - 1 + 1 in
    putting_turn register_count _ _ _ _ (_, _) c.loop-i-test.true
    (rw (c.or_nil.ensures, c.or_nil-else-cell-eq0.ensures, link_odd c.args.n cell 2 (omega (arith, c.if-cell-eq0.false)), link_odd c.args.n cell 1 (omega (arith, c.if-cell-eq0.false))))
    c.put_cell-else-cell-eq0.ensures ∙ c.loop-i.invariant

pub returns : goal.returns
returns c = putting_last register_count _ _ _ c.loop-i-test.false ∙ c.loop-i.invariant
