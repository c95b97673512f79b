-- A list that is read, each element put in its place: the turns of the loop.
use Prim.Native.Nat.{ℕ, suc, ◌+◌, ◌-◌, ◌<◌, ◌≤◌}
use native.Mathlib.Omega.{arith}
use native.Mathlib.Numerals.{add-one}
use mathlib.Core.Path.{◌≡◌}
use mathlib.Core.List.{List, []}
use Rattle.image.specs.Image.{Parsed, parsed, read_each}
use Rattle.image.proofs.Reading.{each_first}
use Rattle.load.specs.Load.{put_each}
use Rattle.load.specs.Steps.{WhereRead}

module _ {A : Type 0} (read : ℕ → Parsed A) (put : List ℕ → ℕ → A → List ℕ) where
  -- What is left to read of a list that ends at `end`, put in its places from `place` on, makes of the words w what the whole list makes.
  pub record Left (left at place : ℕ) (w : List ℕ) (end : ℕ) (whole : List ℕ) : Type 0 where
    pub others : List A
    pub rest : read_each read left at ≡ parsed others end
    pub same : put_each put place others w ≡ whole

  -- Of so many elements, which stand at `start`, the first i are put; the next one stands at `at` and goes to `place`.
  abbrev pub Filling : (count start first : ℕ) (w₀ w : List ℕ) (i at place : ℕ) → Type 0
  Filling count start first w₀ w i at place =
      (list : List A) (end : ℕ) → read_each read count start ≡ parsed list end → Left (count - i) at place w end (put_each put first list w₀)

  module _ (count start first : ℕ) (w₀ w : List ℕ) (i at place : ℕ) (f : Filling count start first w₀ w i at place) where
    pub filling_more : (next : ℕ) (w' : List ℕ) → i < count → WhereRead (read at) (λ x end. (w' ≡ put w place x) × (next ≡ end))
        → Filling count start first w₀ w' (i + 1) next (place + 1)
    unfolding put_each
    filling_more next w' more step list end e =
        let l = f list end e in
        let fewer : count - i ≡ suc (count - (i + 1)) = omega arith in
        let n = each_first read (count - (i + 1)) at l.others end (rw fewer at l.rest) in
        let put-here = step n.item n.next n.here in
        record {
          others = n.others;
          rest = rw put-here.1 n.rest;
          same = rw (add-one place, put-here.0) (rw n.whole at l.same);
        }

    pub filling_last : count ≤ i → (list : List A) (end : ℕ) → read_each read count start ≡ parsed list end
        → (w ≡ put_each put first list w₀) × (at ≡ end)
    unfolding read_each put_each
    filling_last last list end e =
        let l = f list end e in
        let none : count - i ≡ 0 = omega arith in
        let ended : parsed [] at ≡ parsed l.others end = rw none at l.rest in
        let empty : l.others ≡ [] = cc in
        let behind : at ≡ end = cc in
        (rw empty at l.same, behind)
