-- A collection that also advances a tally (01, "Marking by reversal": "A second form of collect also advances a running tally that is lent by the
-- caller: collections and visits, 32 bits each, stopping at 4,294,967,295. Its answer is collect's. A refusal leaves the tally.").
use Rattle.std.specs.Prelude.{ℕ, ◌+◌, min, List, [], ◌∷◌}
use Rattle.answers.specs.Outcome.{Outcome, answered, allocated, refused}
use Rattle.collector.specs.Collect.{collect_of}
use Rattle.tally.specs.declared.Tally.{Tally}

-- "stopping at 4,294,967,295"
abbrev pub tally_limit : ℕ
tally_limit = 4294967295

-- A count that is advanced stops at the limit; an addition that would pass it is not skipped.
abbrev pub counted : ℕ → ℕ → ℕ
counted a b = min (a + b) tally_limit

-- One collection more, and its visits.
abbrev pub advanced_of : Tally → ℕ → Tally
advanced_of t visits = record { collections = counted t.collections 1; visits = counted t.visits visits }

-- The tally after a collection's answer: kept and visits; "A refusal leaves the tally".
abbrev pub tally_after : Tally → Outcome → Tally
tally_after t (answered []) = t
tally_after t (answered (kept ∷ [])) = t
tally_after t (answered (kept ∷ visits ∷ more)) = advanced_of t visits
tally_after t (allocated visits) = t
tally_after t (refused k) = t

-- The call: answer and words are collect's, and the tally is the one after that answer.
abbrev pub tally_of : List ℕ → Tally → Outcome × List ℕ × Tally
tally_of w t = ((collect_of w).0, (collect_of w).1, tally_after t (collect_of w).0)
