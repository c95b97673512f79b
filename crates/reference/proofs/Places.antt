-- What holds at every place of a list.
use Prim.Native.Nat.{ℕ, zero, suc}
use mathlib.Core.List.{List, [], ◌∷◌, ◌++◌}
use lib.ListN.{get_or, set}
use Rattle.graph.proofs.Lists.{Each, each_nil, each_cons}

-- It holds of each member.
pub each_place : (P : ℕ → Type 0) (l : List ℕ) → ((k : ℕ) → P (get_or l k 0)) → Each P l
each_place P [] at = each_nil P
each_place P (x ∷ l) at = each_cons P (at 0) (each_place P l (λ k. at (suc k)))

-- It holds of a list with one member changed, or one more, if it holds of that one.
module _ {A : Type 0} (P : A → Type 0) where
  pub set_holds : (l : List A) (i j : ℕ) (v d : A) → P (get_or l j d) → P v → P (get_or (set l i v) j d)
  set_holds [] i j v d old new = old
  set_holds (x ∷ l) zero zero v d old new = new
  set_holds (x ∷ l) zero (suc j) v d old new = old
  set_holds (x ∷ l) (suc i) zero v d old new = old
  set_holds (x ∷ l) (suc i) (suc j) v d old new = set_holds l i j v d old new

  pub append_holds : (l : List A) (j : ℕ) (v d : A) → P (get_or l j d) → P v → P d → P (get_or (l ++ (v ∷ [])) j d)
  append_holds [] zero v d old new none = new
  append_holds [] (suc j) v d old new none = none
  append_holds (x ∷ l) zero v d old new none = old
  append_holds (x ∷ l) (suc j) v d old new none = append_holds l j v d old new none
