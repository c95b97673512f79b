-- What is so between the turns of the marker.
use Rattle.std.specs.Prelude.{ℕ, suc, ◌*◌, ◌<◌, ◌≤◌, ◌⊎◌, length}
use mathlib.Core.List.{List, Memᴰ}
use Rattle.graph.specs.Graph.{Graph, Reach}
use Rattle.graph.specs.Theorems.{Distinct}

-- The links of a cell are nil or marked.
abbrev pub LinksSeen : Graph → List ℕ → ℕ → Type 0
LinksSeen g seen x = (0 < g.left x → Memᴰ (g.left x) seen) × (0 < g.right x → Memᴰ (g.right x) seen)

-- Between two turns: what is marked is reached, and none of it twice; what is pending (the cell in hand and the entries of the stack) is marked, and so are
-- the links of every marked cell that is not pending; a push marks two cells for one entry, and the first cell is marked without one.
pub record Going (g : Graph) (roots seen pending : List ℕ) : Type 0 where
  pub cells : (x : ℕ) → Memᴰ x seen → Reach g roots x
  pub distinct : Distinct seen
  pub held : (x : ℕ) → Memᴰ x pending → Memᴰ x seen
  pub closed : (x : ℕ) → Memᴰ x seen → Memᴰ x pending ⊎ LinksSeen g seen x
  pub few : 2 * length pending ≤ suc (length seen)
