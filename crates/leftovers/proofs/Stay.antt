-- The words behind the cells stay in every operation: it leaves as many words as it is lent, and these are what it leaves without the words behind the cells, and
-- then those.
use Rattle.std.proofs.Common.{Result}
use Prim.Native.Nat.{ℕ, ◌≤◌}
use native.Mathlib.Omega.{arith}
use native.Mathlib.Decide.{dec_le}
use mathlib.Core.Path.{◌≡◌, sym, ap, ◌∙◌}
use mathlib.Core.List.{List, [], ◌++◌}
use lib.ListN.{length, take, drop, length-take, length-append, drop_of_length-le}
use lib.Seq.{drop_at, length-take-le}
use Rattle.answers.specs.Outcome.{Outcome}
use Rattle.pool.specs.Layout.{register_count, pool_length, cell_count_of_length, leftover_words}
use Rattle.load.specs.declared.Loaded.{Loaded}
use Rattle.batch.specs.declared.Stopped.{Stopped}
use Rattle.tally.specs.declared.Tally.{Tally}
use Rattle.leftovers.specs.Leftovers.{Operation, fresh, call, collect_tally, collect_stack, collect_recursive, worst_case, load, run, words_after, LeftoversStay, without_leftover, AsWithout}
use Rattle.leftovers.proofs.Lengths.{operation_length}
use Rattle.leftovers.proofs.Unseen.{leftovers_unseen}

-- what stands behind k words is still there where others stand in their place
behind_others : (k : ℕ) (w v : List ℕ) → length v ≡ length (take k w) → drop k (v ++ drop k w) ≡ drop k w
behind_others k w v long = go (dec_le k (length w))
  where
    go : Dec (k ≤ length w) → drop k (v ++ drop k w) ≡ drop k w
    go (yes room) = drop_at v (drop k w) k (long ∙ length-take-le k w room)
    go (no short) =
        let none : drop k w ≡ [] = drop_of_length-le w {i = k} (omega arith) in
        ap (drop k) (ap (λ (t : List ℕ). v ++ t) none) ∙ drop_of_length-le (v ++ []) {i = k} (omega (arith, length-append v [], long, length-take k w)) ∙ sym none

module _ (w own behind : List ℕ) (unseen : AsWithout w own behind) where
  parted : (o : Operation) → words_after o w ≡ words_after o own ++ behind
  parted fresh = unseen.fresh
  parted (call c) = ap (λ (x : Outcome × List ℕ). x.1) (unseen.call c)
  parted (collect_tally tally) = ap (λ (x : Outcome × List ℕ × Tally). x.1) (unseen.tally tally)
  parted (collect_stack stack) = ap (λ (x : Outcome × List ℕ × List ℕ). x.1) (unseen.stack stack)
  parted collect_recursive = ap (λ (x : Outcome × List ℕ). x.1) unseen.recursive
  parted worst_case = ap (λ (x : Outcome × List ℕ). x.1) unseen.worst_case_behind
  parted (load bytes) = ap (λ (x : Loaded × List ℕ). x.1) (unseen.load bytes)
  parted (run list out) = ap (λ (x : Result ℕ Stopped × List ℕ × List ℕ). x.1) (unseen.run list out)

pub leftovers_stay : LeftoversStay
leftovers_stay o w =
    let end = pool_length register_count (cell_count_of_length register_count (length w)) in
    let own = without_leftover w in
    let behind = leftover_words register_count w in
    let long = operation_length o w in
    (long, rw long (ap (drop end) (parted w own behind (leftovers_unseen w) o) ∙ behind_others end w (words_after o own) (operation_length o own)))
