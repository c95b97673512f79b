-- `numbering::order_cells` meets its contract: the scratch is cleared, the cells are numbered, and the order is listed.
use native.Mathlib.Omega.{arith}
use mathlib.Core.Path.{◌∙◌}
use Rattle.pool.specs.Layout.{register_count}
use Rattle.numbering.proofs.Ordering.{savable_length, numbers-within, listed_ordered}
use Rattle.numbering.proofs.order_cells.Goals as goal

pub list_cells-requires : goal.list_cells-requires
list_cells-requires c = (
  omega (arith, c.number_cells-k.auto.scratch, c.clear.auto.words, c.requires.scratch),
  numbers-within register_count _ _ c.number_cells-k.new.scratch (savable_length (c.number_cells-k.auto.scratch ∙ c.clear.auto.words) c.requires) c.number_cells-k.ensures.1,
)

pub returns : goal.returns
returns c = (
  c.number_cells-k.ensures.0,
  listed_ordered register_count _ _ c.number_cells-k.new.scratch (savable_length (c.number_cells-k.auto.scratch ∙ c.clear.auto.words) c.requires) c.number_cells-k.ensures.1 _ c.list_cells.ensures,
)
