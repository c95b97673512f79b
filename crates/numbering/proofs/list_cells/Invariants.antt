use Rattle.numbering.proofs.Listing.{Listing}
use Rattle.numbering.proofs.list_cells.Given as goal

abbrev pub invariant-loop-i : goal.invariant-loop-i
invariant-loop-i l = Listing l.n l.initial.scratch l.scratch l.i
