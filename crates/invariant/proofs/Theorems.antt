-- The proof of the statement of specs/ReachedPools.antt.
use Prim.Native.Nat.{ℕ}
use mathlib.Core.List.{List, [], ◌∷◌}
use Rattle.pool.specs.Layout.{register_count}
use Rattle.pool.specs.Retain.{fresh_words}
use Rattle.questions.proofs.WellFormed.{well_formed_made}
use Rattle.calls.specs.declared.Call.{Call}
use Rattle.batch.specs.Run.{after_all}
use Rattle.invariant.specs.ReachedPools.{ReachedPools}
use Rattle.invariant.proofs.FreeList.{exact-free_list}
use Rattle.invariant.proofs.Standing.{standing_cells}
use Rattle.invariant.proofs.Invariant.{Invariant}
use Rattle.invariant.proofs.Rebuilt.{fresh_inv}
use Rattle.invariant.proofs.Preservation.{call_inv}

-- Every list of calls keeps the invariant.
pub calls_inv : {N : ℕ} (calls : List Call) {w : List ℕ} → Invariant N w → Invariant N (after_all calls w)
unfolding after_all
calls_inv [] inv = inv
calls_inv (c ∷ cs) inv = calls_inv cs (call_inv inv c)

pub reached_pools : ReachedPools
reached_pools N e lent calls fits =
    let inv = calls_inv calls (fresh_inv N e lent fits) in
    (standing_cells inv.pool, well_formed_made register_count N (after_all calls (fresh_words register_count N lent)) inv.pool.well, exact-free_list inv.free)
