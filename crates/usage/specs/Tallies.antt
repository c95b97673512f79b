-- One tally for two collections (01: "also advances a running tally that is lent by the caller").
use Rattle.std.specs.Prelude.{List, ℕ}
use Rattle.tally.specs.declared.Tally.{Tally}
use Rattle.tally.specs.TallyOf.{tally_of}

-- Both pools afterwards, and the tally: the second collection has the tally that the first left.
abbrev pub both_tallied : List ℕ → List ℕ → Tally → List ℕ × List ℕ × Tally
both_tallied a b t =
    let first = tally_of a t in
    let second = tally_of b first.2 in
    (first.1, second.1, second.2)
