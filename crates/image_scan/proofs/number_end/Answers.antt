-- `image_scan::number_end` meets its contract. The loop's invariant: where what is left of the number ends (`further_end`), it ends.
use Prim.Native.Nat.{◌+◌, ◌-◌}
use native.Mathlib.Omega.{arith}
use mathlib.Core.Path.{◌≡◌, ◌∙◌}
use Rattle.image_scan.proofs.Ends.{first_ends, first_goes_on, group_padded, group_ends, group_goes_on, fifth_ends, fifth_beyond}
use Rattle.image_scan.proofs.number_end.Goals as goal

pub returns-then-bytes-at-lt128 : goal.returns-then-bytes-at-lt128
returns-then-bytes-at-lt128 c = first_ends _ c.args.at (omega arith) (c.type_inv.bytes c.args.at).fits c.if-bytes-at-lt128.true

pub loop-i-init : goal.loop-i-init
loop-i-init c =
    let three : c.args.at + 4 - (c.args.at + 1) ≡ 3 = omega arith in
    rw three (first_goes_on _ c.args.at (omega arith) (c.type_inv.bytes c.args.at).fits c.if-bytes-at-lt128.false)

pub returns-then-group-eq0 : goal.returns-then-group-eq0
returns-then-group-eq0 c = group_padded _ c.loop-i.i (omega arith) _ c.if-group-eq0.true ∙ c.loop-i.invariant

pub returns-then-group-lt128 : goal.returns-then-group-lt128
returns-then-group-lt128 c = group_ends _ c.loop-i.i (omega arith) _ (c.args.at + 3 - c.loop-i.i) (omega arith) (omega arith) c.if-group-lt128.true ∙ c.loop-i.invariant

pub loop-i-preserved : goal.loop-i-preserved
loop-i-preserved c = group_goes_on _ c.loop-i.i (omega arith) _ _ (omega arith) c.if-group-lt128.false ∙ c.loop-i.invariant

pub returns-then-fifth-eq0 : goal.returns-then-fifth-eq0
returns-then-fifth-eq0 c =
    let here : c.loop-i.i ≡ c.args.at + 4 = omega arith in
    group_padded _ (c.args.at + 4) (omega arith) _ c.if-fifth-eq0.true ∙ (rw here at c.loop-i.invariant)

pub returns-then-fifth-ge16 : goal.returns-then-fifth-ge16
returns-then-fifth-ge16 c =
    let here : c.loop-i.i ≡ c.args.at + 4 = omega arith in
    fifth_beyond _ (c.args.at + 4) (omega arith) _ (omega arith) c.if-fifth-ge16.true ∙ (rw here at c.loop-i.invariant)

pub returns : goal.returns
returns c =
    let here : c.loop-i.i ≡ c.args.at + 4 = omega arith in
    let behind : c.args.at + 4 + 1 ≡ c.args.at + 5 = omega arith in
    (rw behind at (fifth_ends _ (c.args.at + 4) (omega arith) (c.args.at + 4 - (c.args.at + 4)) (omega arith) (omega arith) c.if-fifth-ge16.false)) ∙ (rw here at c.loop-i.invariant)
