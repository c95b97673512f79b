-- `load::load` meets its contract: what `load_at` answers, with the end turned into the part of the bytes behind it.
use native.Mathlib.Omega.{arith}
use mathlib.Core.Path.{ap}
use Rattle.load.proofs.Loading.{load_end}
use Rattle.load.proofs.load.Goals as goal

pub slice_bounds-result-start : goal.slice_bounds-result-start
slice_bounds-result-start c =
    omega (
      arith,
      ap (λ x. x.0.end) c.load_at-loaded.ensures,
      load_end c.args.words.now c.args.bytes.now (λ i. (c.type_inv.bytes i).fits),
    )

pub slice_bounds-result-count : goal.slice_bounds-result-count
slice_bounds-result-count c =
    omega (
      arith,
      ap (λ x. x.0.end) c.load_at-loaded.ensures,
      load_end c.args.words.now c.args.bytes.now (λ i. (c.type_inv.bytes i).fits),
    )
