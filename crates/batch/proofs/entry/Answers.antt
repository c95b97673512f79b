-- `batch::entry` meets its contract: an entry has five words.
use Prim.Native.Nat.{◌+◌}
use native.Mathlib.Omega.{arith}
use lib.ListN.{length}
use borrow.Author.Tests.{le-leb, lt-leb}
use Rattle.batch.proofs.entry.Goals as goal

pub returns-then-list-at-lt-ENTRY : goal.returns-then-list-at-lt-ENTRY
returns-then-list-at-lt-ENTRY c = simp (lt-leb (c.args.at + 5) (length c.args.list.now) (omega arith))

pub returns : goal.returns
returns c = simp (le-leb (c.args.at + 5) (length c.args.list.now) (omega arith)) c.call_numbered.ensures
