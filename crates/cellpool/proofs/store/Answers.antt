-- `cellpool::store` meets its contract: what is stored of two numbers, without the second.
use Prim.Native.Nat.{ℕ}
use mathlib.Core.Path.{ap}
use Rattle.cellpool.proofs.store.Goals as goal

pub returns : goal.returns
returns c = ap (λ (x : ℕ × ℕ × ℕ). (x.0, x.1)) c.store_two.ensures
