-- The visit of a link as a relation between the marks before it and the cells that it newly marks. A mark above 0 is marked; whoever
-- uses it counts nil, and every number that is no cell, as marked.
use Rattle.std.specs.Prelude.{ℕ, ◌<◌, ◌≡◌, List, [], ◌∷◌, ◌++◌, cond, eqb}
use Rattle.graph.specs.Graph.{Graph}

-- The marks m with x marked too.
unfoldable pub mark : (ℕ → ℕ) → ℕ → ℕ → ℕ
mark m x y = cond (eqb y x) 1 (m y)

-- The marks m with each cell of a list marked too.
unfoldable pub marks : (ℕ → ℕ) → List ℕ → ℕ → ℕ
marks m [] = m
marks m (x ∷ xs) = marks (mark m x) xs

-- `Dfs g m p t`: where m is marked, the visit of the link p newly marks the cells t, in this order.
pub data Dfs (g : Graph) : (ℕ → ℕ) → ℕ → List ℕ → Type 0 where
  stop : {m : ℕ → ℕ} {p : ℕ} → 0 < m p → Dfs g m p []
  step : {m : ℕ → ℕ} {p : ℕ} {t u : List ℕ} → m p ≡ 0 → Dfs g (mark m p) (g.left p) t → Dfs g (marks (mark m p) t) (g.right p) u
      → Dfs g m p (p ∷ (t ++ u))

-- The visits of several links, one after the other.
pub data DfsAll (g : Graph) : (ℕ → ℕ) → List ℕ → List ℕ → Type 0 where
  none : {m : ℕ → ℕ} → DfsAll g m [] []
  next : {m : ℕ → ℕ} {p : ℕ} {ps t u : List ℕ} → Dfs g m p t → DfsAll g (marks m t) ps u → DfsAll g m (p ∷ ps) (t ++ u)
