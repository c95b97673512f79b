-- A graph of numbered cells with two links each, and which of its cells a list of links reaches: "reached from the registers over left and right"
-- (01, "The ledger").
use Rattle.std.specs.Prelude.{ℕ, ◌<◌, ◌≤◌}
use mathlib.Core.List.{List, Memᴰ}

-- The left and the right link of each cell. A link is a cell's number, or 0 for nil.
pub record Graph : Type 0 where
  pub left : ℕ → ℕ
  pub right : ℕ → ℕ

-- The cells that the roots reach over left and right: a root that is a cell, and a link, that is a cell, of a cell reached.
pub data Reach (g : Graph) (roots : List ℕ) : ℕ → Type 0 where
  root : {x : ℕ} → Memᴰ x roots → 0 < x → Reach g roots x
  left : {x : ℕ} → Reach g roots x → 0 < g.left x → Reach g roots (g.left x)
  right : {x : ℕ} → Reach g roots x → 0 < g.right x → Reach g roots (g.right x)

-- A graph of n cells: no link that can be reached leads past n.
pub record Within (n : ℕ) (g : Graph) (roots : List ℕ) : Type 0 where
  pub root : (x : ℕ) → Memᴰ x roots → x ≤ n
  pub left : (x : ℕ) → Reach g roots x → g.left x ≤ n
  pub right : (x : ℕ) → Reach g roots x → g.right x ≤ n
