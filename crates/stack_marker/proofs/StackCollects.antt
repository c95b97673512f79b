-- What a collection with a lent stack answers and leaves, beside `collect`.
use Prim.Native.Nat.{ℕ}
use native.Mathlib.Omega.{arith}
use mathlib.Core.Path.{◌≡◌, refl, sym, ◌∙◌}
use mathlib.Core.Logic.{◌↔◌}
use mathlib.Core.List.{List, Memᴰ}
use mathlib.Core.Bool.{Bool, true, false, true≢false, cond, not}
use lib.ListN.{length}
use borrow.Author.Tests.{lt-ltb}
use Rattle.graph.specs.Preorder.{elem}
use Rattle.graph.proofs.Lists.{has_member, member_has}
use Rattle.pool.specs.Layout.{register_count, graph_of, roots_of}
use Rattle.questions.proofs.WellFormed.{well_formed_read}
use Rattle.questions.proofs.PoolGraph.{pool-within}
use Rattle.reversal.specs.Reached.{reached_count, reached_visits}
use Rattle.collector.specs.Collect.{collected}
use Rattle.stack_algorithm.specs.Check.{is_enough}
use Rattle.stack_algorithm.proofs.NoCheck.{no_check}
use Rattle.stack_marker.specs.StackCollect.{lent_run}
use Rattle.stack_marker.specs.StackTheorem.{StackCollects}

-- 1 where no check dropped none, 0 where one did
yes_or_no : (dropped : List ℕ) → ((Memᴰ 0 dropped → ⊥) ↔ (◌≡◌ {A = ℕ} (cond (not (elem 0 dropped)) 1 0) 1))
    × (Memᴰ 0 dropped ↔ (◌≡◌ {A = ℕ} (cond (not (elem 0 dropped)) 1 0) 0))
yes_or_no dropped = go (elem 0 dropped) refl
  where
    go : (t : Bool) → elem 0 dropped ≡ t → ((Memᴰ 0 dropped → ⊥) ↔ (◌≡◌ {A = ℕ} (cond (not t) 1 0) 1))
        × (Memᴰ 0 dropped ↔ (◌≡◌ {A = ℕ} (cond (not t) 1 0) 0))
    go true e = let mem = member_has 0 dropped e in ((λ out. absurd (out mem), λ k. absurd (omega arith)), (λ k. refl, λ k. mem))
    go false e =
        let out : Memᴰ 0 dropped → ⊥ = λ mem. true≢false (sym (has_member 0 mem) ∙ e) in
        ((λ k. refl, λ k. out), (λ mem. absurd (out mem), λ k. absurd (omega arith)))

pub stack_collects : StackCollects
stack_collects n w stack some cells well =
    let (enough, short) = yes_or_no (lent_run n w stack).1 in
    let fits = no_check (length stack) n (graph_of register_count w) (roots_of register_count w) (pool-within (well_formed_read register_count n w well)) in (
      reached_count register_count n w,
      reached_visits register_count n w,
      cond (is_enough (lent_run n w stack)) 1 0,
      collected register_count n w,
      rw cells (simp (lt-ltb 0 n some, well)),
      rw cells (simp (lt-ltb 0 n some, well)),
      enough,
      short,
      (fits.0.1, fits.0.0),
    )
