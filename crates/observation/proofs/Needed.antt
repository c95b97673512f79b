-- No list without `same`, and none without `north`, tells the pools of specs/Examples.antt apart that these tell apart.
use Prim.Native.Nat.{ℕ, zero, suc, ◌<◌, ◌≤◌}
use native.Mathlib.Omega.{arith}
use mathlib.Core.Path.{◌≡◌, refl, sym, subst, ◌∙◌}
use mathlib.Core.Logic.{◌↔◌}
use mathlib.Core.Bool.{true, false≢true, ◌&&◌}
use mathlib.Core.List.{[], ◌∷◌, Memᴰ}
use lib.ListN.{get_or}
use lib.Dec.{eqb, leb}
use borrow.Author.Tests.{eqb-true, leb-true}
use Rattle.pool.specs.Words.{every}
use Rattle.pool.specs.States.{is_point}
use Rattle.pool.specs.Layout.{register_count, register, cell, link_of}
use Rattle.pool.proofs.Every.{every_each}
use Rattle.pool.proofs.Sizes.{both}
use Rattle.calls.specs.declared.Call.{Call}
use Rattle.invariant.proofs.Standing.{each_link}
use Rattle.observation.specs.Examples.{shared, separate, SameNeeded, point_at, NorthNeeded}
use Rattle.observation.proofs.Related.{BothFields, SameContent, Related}
use Rattle.observation.proofs.Theorems.{related_alike}
use Rattle.observation.proofs.Examples.{shared_example, north_example}

-- The cell of the first pool that each cell of the second stands for: both leaves stand for the one that is shared.
abbrev merged : ℕ → ℕ
merged y = get_or (0 ∷ 1 ∷ 2 ∷ 2 ∷ []) y 0

abbrev Merged : ℕ → ℕ → Type 0
Merged x y = (y ≤ 3) × (x ≡ merged y)

merged_nil : (y : ℕ) → y ≤ 3 → (merged y ≡ 0) ↔ (y ≡ 0)
merged_nil zero h = (λ e. refl, λ e. refl)
merged_nil (suc zero) h = (λ e. absurd (omega arith), λ e. absurd (omega arith))
merged_nil (suc (suc zero)) h = (λ e. absurd (omega arith), λ e. absurd (omega arith))
merged_nil (suc (suc (suc zero))) h = (λ e. absurd (omega arith), λ e. absurd (omega arith))
merged_nil (suc (suc (suc (suc y)))) h = absurd (omega arith)

merged_content : (y : ℕ) → y ≤ 3 → 0 < y → SameContent BothFields shared separate (merged y) y
unfolding cell is_point
merged_content zero h some = absurd (omega arith)
merged_content (suc zero) h some = record { kind = refl; value = refl; coordinates = λ point. absurd (false≢true point) }
merged_content (suc (suc zero)) h some = record { kind = refl; value = refl; coordinates = λ point. absurd (false≢true point) }
merged_content (suc (suc (suc zero))) h some = record { kind = refl; value = refl; coordinates = λ point. absurd (false≢true point) }
merged_content (suc (suc (suc (suc y)))) h some = absurd (omega arith)

merged_links : (y : ℕ) → y ≤ 3 → 0 < y → (f : ℕ) → 0 < f → f < 3 → Merged (link_of register_count shared (merged y) f) (link_of register_count separate y f)
unfolding link_of cell is_point
merged_links zero h some = absurd (omega arith)
merged_links (suc zero) h some =
    let two : 2 ≤ 3 = omega arith in
    let three : 3 ≤ 3 = omega arith in
    each_link (λ f. Merged (link_of register_count shared 1 f) (link_of register_count separate 1 f)) (two, refl) (three, refl)
merged_links (suc (suc zero)) h some =
    let none : 0 ≤ 3 = omega arith in
    each_link (λ f. Merged (link_of register_count shared 2 f) (link_of register_count separate 2 f)) (none, refl) (none, refl)
merged_links (suc (suc (suc zero))) h some =
    let none : 0 ≤ 3 = omega arith in
    each_link (λ f. Merged (link_of register_count shared 2 f) (link_of register_count separate 3 f)) (none, refl) (none, refl)
merged_links (suc (suc (suc (suc y)))) h some = absurd (omega arith)

merged_registers : (k : ℕ) → k < register_count → Merged (register shared k) (register separate k)
unfolding every register
merged_registers k low =
    let all : every register_count (λ k. leb (register separate k) 3 && eqb (register shared k) (merged (register separate k))) ≡ true = refl in
    let here = both _ _ (every_each (λ k. leb (register separate k) 3 && eqb (register shared k) (merged (register separate k))) register_count all k low) in
    (leb-true _ _ here.0, eqb-true _ _ here.1)

merged_related : Related (λ k. k < register_count) BothFields Merged shared separate
merged_related =
    record {
      nil = (omega arith, refl);
      nil_alone = λ x y h. rw h.1 (merged_nil y h.0);
      registers = merged_registers;
      content = λ x y h hx hy. rw h.1 (merged_content y h.0 hy);
      links = λ x y h hx hy. rw h.1 (merged_links y h.0 hy);
    }

pub same_needed : SameNeeded
same_needed calls reads without =
    related_alike BothFields Merged shared_example.whole shared_example.whole' merged_related calls reads λ c mem.
    record {
      east = λ a e. (omega arith, omega arith);
      north = λ a e. (omega arith, omega arith);
      same = λ a b e. absurd (without a b (subst (λ (d : Call). Memᴰ d calls) e mem));
    }

-- Links of the two pools with a point each: nil and nil, cell 1 and cell 1, with the same x.
abbrev SameLink : ℕ → ℕ → Type 0
SameLink x y = (x ≡ y) × (x ≤ 1)

abbrev First : ℕ → Type 0
First f = f ≡ 1

point_content : SameContent First (point_at 9) (point_at 8) 1 1
unfolding cell is_point
point_content = record { kind = refl; value = refl; coordinates = λ point f e. rw e refl }

point-links : (f : ℕ) → SameLink (link_of register_count (point_at 9) 1 f) (link_of register_count (point_at 8) 1 f)
unfolding link_of cell is_point
point-links f = let none : 0 ≤ 1 = omega arith in (refl, none)

point-registers : (k : ℕ) → k < register_count → SameLink (register (point_at 9) k) (register (point_at 8) k)
unfolding every register
point-registers k low =
    let all : every register_count (λ k. eqb (register (point_at 9) k) (register (point_at 8) k) && leb (register (point_at 9) k) 1) ≡ true = refl in
    let here = both _ _ (every_each (λ k. eqb (register (point_at 9) k) (register (point_at 8) k) && leb (register (point_at 9) k) 1) register_count all k low) in
    (eqb-true _ _ here.0, leb-true _ _ here.1)

point_related : Related (λ k. k < register_count) First SameLink (point_at 9) (point_at 8)
point_related =
    record {
      nil = (refl, omega arith);
      nil_alone = λ x y h. rw h.0 (λ e. e, λ e. e);
      registers = point-registers;
      content = λ x y h hx hy. rw (one x hx h.1, one y hy (rw h.0 at h.1)) point_content;
      links = λ x y h hx hy f positive below. rw (one x hx h.1, one y hy (rw h.0 at h.1)) (point-links f);
    }
  where
    one : (z : ℕ) → 0 < z → z ≤ 1 → z ≡ 1
    one z some most = omega arith

pub north_needed : NorthNeeded
north_needed calls reads without =
    related_alike First SameLink north_example.whole north_example.whole' point_related calls reads λ c mem.
    record {
      east = λ a e. refl;
      north = λ a e. absurd (without a (subst (λ (d : Call). Memᴰ d calls) e mem));
      same = λ a b e.
          record {
            nil = point_related.nil_alone;
            forward = λ x y z p q. sym p.0 ∙ q.0;
            backward = λ x y z p q. p.0 ∙ sym q.0;
          };
    }
