-- The turns of the loop that numbers the cells, as its code takes them.
use Prim.Native.Nat.{ℕ, ◌+◌, ◌-◌, ◌*◌, ◌<◌, ◌≤◌}
use native.Mathlib.Omega.{arith}
use mathlib.Core.Path.{◌≡◌, refl, ap, ◌∙◌}
use mathlib.Core.List.{List}
use mathlib.Core.Bool.{Bool, true, false}
use lib.ListN.{length, get_or, set, replicate, length-set}
use Rattle.pool.specs.Layout.{cell_limit, pool_length, register, link_of}
use Rattle.questions.proofs.WellFormed.{WellFormed, well_formed_read}
use Rattle.reversal.specs.Reached.{reached_count}
use Rattle.numbering.specs.Steps.{Savable, Clear, is_new, Numbered}
use Rattle.numbering.proofs.Walking.{Walking, new_cell, walking_first, walking_few, walking_hand, walking_room, walking_take, walking_pop, walking_root, walking_end}

zeros : (m k : ℕ) → get_or {A = ℕ} (replicate m 0) k 0 ≡ 0
zeros ℕ.zero k = refl
zeros (ℕ.suc m) ℕ.zero = refl
zeros (ℕ.suc m) (ℕ.suc k) = zeros m k

pub record Turn (R n : ℕ) (w s₀ s : List ℕ) (hand depth count root : ℕ) : Type 0 where
  pub len : length s ≡ length s₀
  pub walking : Walking R n w s hand depth count root

-- What a turn may rely on: every place is within its bounds.
pub record Bounds (R n : ℕ) (w s : List ℕ) (h d c r : ℕ) : Type 0 where
  pub most : n ≤ cell_limit
  pub words : pool_length R n ≤ length w
  pub scratch : 2 * n ≤ length s
  pub hand : h ≤ n
  pub count : c ≤ n
  pub depth : d ≤ c
  pub root : r ≤ R

module _ (R n : ℕ) (w s₀ : List ℕ) (savable : Savable R n w (length s₀)) where
  well : WellFormed R n w
  well = well_formed_read R n w savable.is_well_formed

  pub turn_first : Clear s₀ → Turn R n w s₀ s₀ 0 0 0 0
  turn_first clear =
      record { len = refl; walking = walking_first R n w well s₀ (λ k. ap (λ (l : List ℕ). get_or l k 0) clear ∙ zeros (length s₀) k) }

  module _ (s : List ℕ) (hand depth count root : ℕ) (t : Turn R n w s₀ s hand depth count root) where
    pub turn_bounds : Bounds R n w s hand depth count root
    turn_bounds =
        record {
          most = savable.most;
          words = savable.room;
          scratch = omega (arith, savable.scratch, t.len);
          hand = walking_hand R n w well s hand depth count root t.walking;
          count = walking_few R n w well s hand depth count root t.walking;
          depth = t.walking.deep;
          root = t.walking.rooted;
        }

    module _ (b : Bool) (is : b ≡ is_new s hand) where
      -- A new cell: there is room for its number and its right link.
      pub turn_room : b ≡ true → (0 < hand) × (count < n)
      turn_room new =
          let cell = new_cell s hand b is new in
          (cell.0, walking_room R n w well s hand depth count root t.walking cell.0 cell.1)

      pub turn_take : (l r : ℕ) → b ≡ true → l ≡ link_of R w hand 1 → r ≡ link_of R w hand 2
          → Turn R n w s₀ (set (set s (hand - 1) (count + 1)) (n + depth) r) l (depth + 1) (count + 1) root
      turn_take l r new el er =
          let cell = new_cell s hand b is new in
          record {
            len = length-set (set s (hand - 1) (count + 1)) (n + depth) r ∙ (length-set s (hand - 1) (count + 1) ∙ t.len);
            walking = rw (el, er) (walking_take R n w well s hand depth count root t.walking cell.0 cell.1 turn_bounds.scratch);
          }

      module _ (old : b ≡ false) where
        pub turn_pop : 0 < depth → Turn R n w s₀ s (get_or s (n + (depth - 1)) 0) (depth - 1) count root
        turn_pop some = record { len = t.len; walking = walking_pop R n w well s hand depth count root t.walking b is old some }

        pub turn_root : (x : ℕ) → depth ≤ 0 → root < R → x ≡ register w root → Turn R n w s₀ s x depth count (root + 1)
        turn_root x none more e =
            record { len = t.len; walking = rw e (walking_root R n w well s hand depth count root t.walking b is old none more) }

        pub turn_end : depth ≤ 0 → R ≤ root → (count ≡ reached_count R n w) × Numbered R n w s
        turn_end none last = walking_end R n w well s hand depth count root t.walking b is old none last
