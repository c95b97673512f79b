-- From where it stands, the reader finds what it finds from the start.
use mathlib.Core.Path.{◌≡◌}
use lib.ListN.{drop}
use Rattle.script.specs.declared.LineReader.TheVariants as reader
use Rattle.script.specs.Scripts.{next_line}
use Rattle.script.proofs.Numbers.digits.Given as goal

abbrev pub invariant-loop-i : goal.invariant-loop-i
invariant-loop-i l = next_line (reader.Numbers l.numbers) (drop l.i l.bytes) l.i ≡ next_line (reader.Numbers l.initial.numbers) (drop l.at l.bytes) l.at
