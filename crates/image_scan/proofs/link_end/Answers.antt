-- `image_scan::link_end` meets its contract: at each return the tests that led there say whether the link is refused, and how many bytes it takes.
use native.Mathlib.Omega.{arith}
use Rattle.image_scan.proofs.Ends.{one_byte, one_byte_above, two_bytes, two-bytes_padded, two-bytes_above}
use Rattle.image_scan.proofs.link_end.Goals as goal

pub returns-then-k-first : goal.returns-then-k-first
returns-then-k-first c = (one_byte_above _ _ _ c.requires.1 (λ i. (c.type_inv.bytes i).fits) c.if-first-lt128.true c.if-k-first.true, tt)

pub returns-then-first-lt128 : goal.returns-then-first-lt128
returns-then-first-lt128 c = (one_byte _ _ _ c.requires.1 (λ i. (c.type_inv.bytes i).fits) c.if-first-lt128.true c.if-k-first.false, omega arith)

pub returns-then-second-eq0 : goal.returns-then-second-eq0
returns-then-second-eq0 c = (two-bytes_padded _ _ _ c.requires.1 (λ i. (c.type_inv.bytes i).fits) c.if-first-lt128.false c.if-second-eq0.true, tt)

pub returns-then-k-first-2 : goal.returns-then-k-first-2
returns-then-k-first-2 c = (two-bytes_above _ _ _ c.requires.1 (λ i. (c.type_inv.bytes i).fits) c.if-first-lt128.false (omega arith) c.if-k-first-2.true c.requires.0, tt)

pub returns : goal.returns
returns c = (two_bytes _ _ _ c.requires.1 (λ i. (c.type_inv.bytes i).fits) c.if-first-lt128.false (omega arith) c.if-k-first-2.false c.requires.0, omega arith)
