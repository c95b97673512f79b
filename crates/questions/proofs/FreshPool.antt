-- Fresh words are a well-formed pool.
use Prim.Native.Nat.{◌≤◌}
use native.Mathlib.Omega.{arith}
use mathlib.Core.Path.{◌≡◌, sym, ◌∙◌}
use mathlib.Core.Bool.{false, false≢true}
use lib.ListN.{length}
use Rattle.pool.specs.Layout.{register_count, pool_length, cell_count_of_length, count}
use Rattle.pool.specs.Retain.{blank_words, fresh_words}
use Rattle.pool.proofs.Sizes.{of_length, sized, same_count}
use Rattle.pool.proofs.Retained.{retain-count}
use Rattle.pool.proofs.FreshPool.{blank_length, fresh-length, blank_count, blank_register}
use Rattle.questions.specs.FreshPool.{FreshIsWellFormed}
use Rattle.questions.proofs.WellFormed.{well_formed_made}
use Rattle.questions.proofs.RetainedPool.{Kept, retained_well_formed}

pub fresh_is_well_formed : FreshIsWellFormed
fresh_is_well_formed n e w fits =
    let room : pool_length register_count n ≤ length w = (sized fits).room in
    let long = blank_length register_count n w room in
    let cells : cell_count_of_length register_count (length (fresh_words register_count n w)) ≡ n =
    rw (fresh-length register_count n w room) (of_length fits) in
    let first : count (fresh_words register_count n w) ≡ n =
    retain-count register_count n (λ i. false) (blank_words register_count n w) (omega (arith, long)) ∙ blank_count register_count n w room in (
      same_count register_count (fresh_words register_count n w) (first ∙ sym cells) ∙ cells,
      well_formed_made register_count n (fresh_words register_count n w)
          (retained_well_formed register_count n (λ i. false) (blank_words register_count n w) (omega (arith, long))
          (λ k low. Kept.nil (blank_register register_count n w room k low))
          λ i low high e. absurd (false≢true e)),
    )
