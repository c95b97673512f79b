-- The invariant holds of the pools that are rebuilt whole: fresh words, and a collected pool.
use Prim.Native.Nat.{ℕ, ◌≤◌}
use native.Mathlib.Omega.{arith}
use mathlib.Core.Path.{◌∙◌}
use mathlib.Core.List.{List}
use mathlib.Core.Bool.{false}
use lib.ListN.{length}
use Rattle.pool.specs.Layout.{register_count, pool_length}
use Rattle.pool.specs.Lengths.{LengthOf}
use Rattle.pool.specs.Retain.{blank_words, fresh_words}
use Rattle.pool.proofs.Sizes.{sized, cells_sized}
use Rattle.pool.proofs.Retained.{length-retain, retain-count}
use Rattle.questions.proofs.WellFormed.{well_formed_read}
use Rattle.pool.proofs.FreshPool.{blank_length}
use Rattle.questions.proofs.FreshPool.{fresh_is_well_formed}
use Rattle.reversal.specs.Reached.{is_reached}
use Rattle.collector.specs.Collect.{collected}
use Rattle.collector.proofs.Collected.{collected-well_formed}
use Rattle.invariant.proofs.FreeList.{retained_exact}
use Rattle.invariant.proofs.Standing.{standing_room}
use Rattle.invariant.proofs.Invariant.{Invariant}

module _ (N e : ℕ) (lent : List ℕ) (fits : LengthOf register_count N e (length lent)) where
  pub blank_room : pool_length register_count N ≤ length (blank_words register_count N lent)
  blank_room = let room = (sized fits).room in omega (arith, blank_length register_count N lent room)

  pub fresh_inv : Invariant N (fresh_words register_count N lent)
  fresh_inv =
      let facts = fresh_is_well_formed N e lent fits in
      let counted = rw facts.0 at (cells_sized register_count (fresh_words register_count N lent) (omega (arith, fits.least, facts.0))) in
      record {
        pool =
            record {
              sized = counted.0;
              counted = counted.1;
              well = well_formed_read register_count N (fresh_words register_count N lent) facts.1;
            };
        free = retained_exact N (λ i. false) (blank_words register_count N lent) fits.least blank_room;
      }

pub collected_inv : {N : ℕ} {w : List ℕ} → Invariant N w → Invariant N (collected register_count N w)
collected_inv {N} {w} inv =
    let keep = is_reached register_count N w in
    let old = inv.pool in
    let room = standing_room old in
    record {
      pool =
          record {
            sized = rw (length-retain register_count N keep w) old.sized;
            counted = retain-count register_count N keep w room ∙ old.counted;
            well = collected-well_formed register_count N w old.well room;
          };
      free = retained_exact N keep w old.sized.least room;
    }
