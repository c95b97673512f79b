-- The equivalence of code that runs follows from that of the calls, and from what a run writes.
use Prim.Native.Nat.{◌*◌}
use mathlib.Core.Path.{refl, ap}
use lib.ListN.{length, drop}
use lib.Seq.{drop_at}
use Rattle.pool.specs.Layout.{register_count}
use Rattle.pool.specs.Retain.{fresh_words}
use Rattle.batch.specs.Run.{answers_of, answer_words}
use Rattle.batch.proofs.Whole.{runs-one_after_the_other, words-length}
use Rattle.reference.specs.RunEquivalence.{RunEquivalence}
use Rattle.invariant.proofs.Rebuilt.{fresh_inv}
use Rattle.reference.proofs.Start.{fresh_rep}
use Rattle.reference.proofs.Runs.{compared, observed-words}

pub run_equivalence : RunEquivalence
run_equivalence N e L lent list out cs fits program room =
    let w = fresh_words register_count N lent in
    let inv = fresh_inv N e lent fits in
    let rep = fresh_rep N e lent fits in
    let both-are = compared N L cs inv rep in
    rw (runs-one_after_the_other list cs w out program room)
    (record {
      all = refl;
      pool = refl;
      behind = drop_at (answer_words (answers_of cs w)) (drop (3 * length cs) out) (3 * length cs) (words-length cs w);
      alike = rw (observed-words N cs inv rep (drop (3 * length cs) out)) (both-are.none, λ e. ap answer_words (both-are.equal e));
    })
