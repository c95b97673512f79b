-- What is proved of the depth-first preorder and of every marker.
use Rattle.std.specs.Prelude.{ℕ, ◌<◌, ◌≤◌, ◌≡◌, ◌↔◌, length, get_or}
use mathlib.Core.List.{List, [], ◌∷◌, Memᴰ}
use Rattle.graph.specs.Graph.{Graph, Reach, Within}
use Rattle.graph.specs.Preorder.{preorder}
use Rattle.graph.specs.Marking.{Closure, marked_count, outside}
use Rattle.graph.specs.Compare.{Agree, Paired, OneToOne}

-- No number stands twice in a list.
pub data Distinct : List ℕ → Type 0 where
  none : Distinct []
  more : {x : ℕ} {xs : List ℕ} → (Memᴰ x xs → ⊥) → Distinct xs → Distinct (x ∷ xs)

-- The order holds exactly the cells that the roots reach.
abbrev pub PreorderReached : Type 0
PreorderReached =
    (n : ℕ) (g : Graph) (roots : List ℕ) → Within n g roots → (x : ℕ) → Memᴰ x (preorder n g roots) ↔ Reach g roots x

-- No cell stands twice in the order.
abbrev pub PreorderDistinct : Type 0
PreorderDistinct = (n : ℕ) (g : Graph) (roots : List ℕ) → Within n g roots → Distinct (preorder n g roots)

-- The order is no longer than the graph has cells.
abbrev pub PreorderLength : Type 0
PreorderLength = (n : ℕ) (g : Graph) (roots : List ℕ) → Within n g roots → length (preorder n g roots) ≤ n

-- A bound on the depth that is larger than the number of cells changes nothing.
abbrev pub PreorderDepth : Type 0
PreorderDepth =
    (n : ℕ) (g : Graph) (roots : List ℕ) → Within n g roots → (depth : ℕ) → n ≤ depth → preorder depth g roots ≡ preorder n g roots

-- A marker that has done its work has marked a cell exactly where the roots reach it.
abbrev pub MarkedReached : Type 0
MarkedReached =
    (n : ℕ) (g : Graph) (roots : List ℕ) → Within n g roots → (f : ℕ → ℕ) → Closure g (outside n) roots f
    → (x : ℕ) → 0 < x → x ≤ n → (0 < f x) ↔ Reach g roots x

-- It has marked as many cells as the order has.
abbrev pub MarkedCount : Type 0
MarkedCount =
    (n : ℕ) (g : Graph) (roots : List ℕ) → Within n g roots → (f : ℕ → ℕ) → Closure g (outside n) roots f
    → marked_count n f ≡ length (preorder n g roots)

-- A change of the links of cells that are not reached changes nothing of what is reached.
abbrev pub ReachAgree : Type 0
ReachAgree =
    (g h : Graph) (roots : List ℕ) → ((x : ℕ) → Reach g roots x → Agree g h x) → (x : ℕ) → Reach g roots x ↔ Reach h roots x

-- Nor does it change the order.
abbrev pub PreorderAgree : Type 0
PreorderAgree =
    (n : ℕ) (g h : Graph) (roots : List ℕ) → Within n g roots → ((x : ℕ) → Reach g roots x → Agree g h x)
    → preorder n g roots ≡ preorder n h roots

-- Two graphs with root lists of one length, whose pairing is one-to-one, have orders of one length.
abbrev pub LengthPaired : Type 0
LengthPaired =
    (n : ℕ) (g : Graph) (rs : List ℕ) (k : ℕ) (h : Graph) (ss : List ℕ) → Within n g rs → Within k h ss → length rs ≡ length ss
    → OneToOne (Paired g rs h ss) → length (preorder n g rs) ≡ length (preorder k h ss)

-- What stands at the same place of the two orders is paired.
abbrev pub PreorderPaired : Type 0
PreorderPaired =
    (n : ℕ) (g : Graph) (rs : List ℕ) (k : ℕ) (h : Graph) (ss : List ℕ) → Within n g rs → Within k h ss → length rs ≡ length ss
    → OneToOne (Paired g rs h ss) → (i : ℕ) → i < length (preorder n g rs)
    → Paired g rs h ss (get_or (preorder n g rs) i 0) (get_or (preorder k h ss) i 0)

-- The pairing is one-to-one where a relation is that holds of the roots, place by place, and with two cells of their links. So it stays
-- one-to-one when a root or a link is changed to what such a relation allows.
abbrev pub PairingKept : Type 1
PairingKept =
    (g : Graph) (rs : List ℕ) (h : Graph) (ss : List ℕ) (P : ℕ → ℕ → Type 0) → OneToOne P
    → ((i : ℕ) → i < length rs → P (get_or rs i 0) (get_or ss i 0))
    → ((x y : ℕ) → P x y → 0 < x → 0 < y → P (g.left x) (h.left y) × P (g.right x) (h.right y))
    → OneToOne (Paired g rs h ss)
