-- The start and the end of a script that is run in parts.
use mathlib.Core.Path.{◌≡◌, refl}
use mathlib.Core.List.{◌++◌}
use mathlib.Core.Bool.{false}
use lib.ListN.{drop_of_length-le}
use Rattle.script.specs.Reader.{new_reader, begun_of}
use Rattle.script.specs.Scripts.{read_script}
use Rattle.script.proofs.Scanning.{reads_scripts}
use Rattle.interpreter.specs.Execute.{transcript}
use Rattle.runner.specs.Work.{remaining, StartsWhole, PartsJoin, LastLineEnds}

pub starts_whole : StartsWhole
unfolding remaining
starts_whole w bytes more long = rw (reads_scripts (bytes ++ more), long)

pub parts_join : PartsJoin
unfolding remaining
parts_join w bytes following more p past = rw (drop_of_length-le bytes past)

not_begun : begun_of new_reader ≡ false
unfolding begun_of
not_begun = refl

pub last-line_ends : LastLineEnds
unfolding remaining read_script transcript
last-line_ends w p = record { begun = λ begun. rw (begun, not_begun); over = λ over. rw over }
