-- `load::fill` meets its contract: K is read again, then the registers and the cells are written where they belong.
use mathlib.Core.Path.{sym}
use Rattle.pool.specs.Layout.{register_count}
use Rattle.load.proofs.Loading.{fill_none, fill_made}
use Rattle.load.proofs.fill.Goals as goal

pub returns-in_default : goal.returns-in_default
returns-in_default c = λ i end e. absurd (fill_none register_count _ _ _ (sym c.in_default.ensures) i end e)

pub returns : goal.returns
returns c = fill_made register_count _ _ _ _ _ _ _ _ (sym c.in-Ok.ensures) (c.fill_registers-at.ensures _) c.fill_cells.ensures
