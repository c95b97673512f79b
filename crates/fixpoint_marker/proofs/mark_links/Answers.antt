-- `fixpoint_marker::mark_links` meets its contract: both links of a marked cell, one after the other.
use native.Mathlib.Omega.{arith}
use Rattle.fixpoint_marker.proofs.Passes.{grown_links}
use Rattle.fixpoint_marker.proofs.mark_links.Goals as goal

pub returns : goal.returns
returns c =
    grown_links c.args.n c.args.words.now c.args.i c.link_of.ensures c.link_of-2.ensures (omega arith)
    c.mark_link-by_left.ensures c.mark_link-by_right.ensures
