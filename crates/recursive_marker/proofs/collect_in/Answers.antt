-- `recursive_marker::collect_in` meets its contract: what the marker ensures makes the sweep that of a collection.
use Rattle.std.proofs.Common.{rules}
use Rattle.collector.proofs.CollectTheorem.{collect_made}
use Rattle.recursive_marker.proofs.collect_in.Goals as goal

pub returns : goal.returns
returns c = let h = c.in_ok-kept.ensures in collect_made _ _ h.1.0 _ _ _ h.0 c.requires.0 (search rules) h.1.2
