-- Two graphs compared: with the same links at a cell, and paired from their roots.
use Rattle.std.specs.Prelude.{ℕ, ◌<◌, ◌≡◌, ◌↔◌, List, length, get_or}
use Rattle.graph.specs.Graph.{Graph}

-- Two graphs have the same links at a cell.
pub record Agree (g h : Graph) (x : ℕ) : Type 0 where
  pub left : g.left x ≡ h.left x
  pub right : g.right x ≡ h.right x

-- A link x of the graph g and a link y of the graph h are paired: they stand at the same place of the root lists rs and ss, or are both
-- the left links, or both the right links, of two cells that are paired.
pub data Paired (g : Graph) (rs : List ℕ) (h : Graph) (ss : List ℕ) : ℕ → ℕ → Type 0 where
  root : (i : ℕ) → i < length rs → Paired g rs h ss (get_or rs i 0) (get_or ss i 0)
  left : {x y : ℕ} → Paired g rs h ss x y → 0 < x → 0 < y → Paired g rs h ss (g.left x) (h.left y)
  right : {x y : ℕ} → Paired g rs h ss x y → 0 < x → 0 < y → Paired g rs h ss (g.right x) (h.right y)

-- A relation between links is one-to-one: it relates nil with nil only, and no link with two.
pub record OneToOne (P : ℕ → ℕ → Type 0) : Type 0 where
  pub nil : (x y : ℕ) → P x y → (x ≡ 0) ↔ (y ≡ 0)
  pub forward : (x y z : ℕ) → P x y → P x z → y ≡ z
  pub backward : (x y z : ℕ) → P x z → P y z → x ≡ y
