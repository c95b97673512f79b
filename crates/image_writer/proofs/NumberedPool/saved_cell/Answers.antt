-- `image_writer::NumberedPool::saved_cell` meets its contract: the pool and the scratch hold what the image does.
use native.Mathlib.Omega.{arith}
use mathlib.Core.Path.{ap, ◌∙◌}
use Rattle.pool.specs.Layout.{register_count}
use Rattle.image_writer.specs.Steps.{word_at}
use Rattle.numbering.proofs.Ordering.{few-kept}
use Rattle.image_writer.proofs.ImageNumber.{cell-used, word_bound, cell-saved}
use Rattle.image_writer.proofs.NumberedPool.saved_cell.Goals as goal

pub bounds-self-self : goal.bounds-self-self
bounds-self-self c =
    let pool = c.args.self.now in
    omega (arith, pool.savable.scratch, pool.counted, few-kept register_count pool.cells pool.words.now pool.scratch.now pool.savable)

pub is_point_at-point-requires : goal.is_point_at-point-requires
is_point_at-point-requires c =
    let pool = c.args.self.now in
    omega (arith, cell-used register_count _ _ pool.scratch.now pool.savable pool.ordered c.args.p (omega (arith, pool.counted)), pool.savable.room)

pub read_cell-left-requires : goal.read_cell-left-requires
read_cell-left-requires c =
    let pool = c.args.self.now in
    omega (arith, cell-used register_count _ _ pool.scratch.now pool.savable pool.ordered c.args.p (omega (arith, pool.counted)), pool.savable.room)

pub read_cell-right-requires : goal.read_cell-right-requires
read_cell-right-requires c =
    let pool = c.args.self.now in
    omega (arith, cell-used register_count _ _ pool.scratch.now pool.savable pool.ordered c.args.p (omega (arith, pool.counted)), pool.savable.room)

pub saved_word-requires : goal.saved_word-requires
saved_word-requires c =
    λ pair.
    let pool = c.args.self.now in
    omega (
      arith,
      c.read_cell-left.ensures,
      word_bound register_count _ pool.words.now pool.scratch.now pool.savable pool.ordered c.args.p (omega (arith, pool.counted)) c.is_point_at-point.ensures
          0 (omega arith) pair,
      pool.savable.scratch,
    )

pub saved_word-requires-2 : goal.saved_word-requires-2
saved_word-requires-2 c =
    λ pair.
    let pool = c.args.self.now in
    omega (
      arith,
      c.read_cell-right.ensures,
      word_bound register_count _ pool.words.now pool.scratch.now pool.savable pool.ordered c.args.p (omega (arith, pool.counted)) c.is_point_at-point.ensures
          1 (omega arith) pair,
      pool.savable.scratch,
    )

pub read_cell-requires : goal.read_cell-requires
read_cell-requires c =
    let pool = c.args.self.now in
    omega (arith, cell-used register_count _ _ pool.scratch.now pool.savable pool.ordered c.args.p (omega (arith, pool.counted)), pool.savable.room)

pub returns : goal.returns
returns c =
    let pool = c.args.self.now in
    let word = word_at c.is_point_at-point.result pool.scratch.now in
    cell-saved register_count _ _ pool.scratch.now pool.savable pool.ordered c.args.p (omega (arith, pool.counted)) _ _ _ _ _
    c.is_point_at-point.ensures c.kind_of.ensures (c.saved_word.ensures ∙ ap word c.read_cell-left.ensures)
    (c.saved_word-2.ensures ∙ ap word c.read_cell-right.ensures) c.read_cell.ensures
