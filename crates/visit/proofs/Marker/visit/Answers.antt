-- `visit::Marker::visit` meets its contract: the addition, the choice of the case and what it does are those of the definition (`Added` in `VisitStep`).
use mathlib.Core.Path.{refl, ◌∙◌}
use Rattle.pool.specs.Layout.{register_count}
use Rattle.visit.proofs.VisitStep.{Added, choosable, visit_made}
use Rattle.visit.proofs.Marker.visit.Goals as goal
use Rattle.visit.proofs.Marker.visit.Goals.{After-write_cell}

added : (c : After-write_cell) → Added register_count c.args.n c.args.self c.args.words.now c.write_cell.new.words
added c = record { visitable = c.requires.0; room = c.requires.1; words = c.write_cell.ensures ∙ rw c.read_cell-mark.ensures refl }

pub choose-case-requires : goal.choose-case-requires
choose-case-requires c = let h = choosable (added (goal.at.choose-case-requires c).After-write_cell) c.write_cell.auto.words in record { pair = h.0; next_link = h.1 }

pub returns : goal.returns
returns c = c.act.ensures ∙ visit_made (added (goal.at.returns c).After-write_cell) _ c.choose-case.ensures
