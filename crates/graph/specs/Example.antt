-- A graph of four cells, worked out by hand.
use Rattle.std.specs.Prelude.{◌≡◌, [], ◌∷◌, get_or}
use Rattle.graph.specs.Graph.{Graph}
use Rattle.graph.specs.Preorder.{preorder}

-- The links of the cells 1 to 4, nil's in front: cell 1 leads to 2 and 3, cell 2 to 4 on the right, cell 3 to 4 and back to 1.
abbrev pub four_cells : Graph
four_cells = record { left = λ x. get_or (0 ∷ 2 ∷ 0 ∷ 4 ∷ 0 ∷ []) x 0; right = λ x. get_or (0 ∷ 3 ∷ 4 ∷ 1 ∷ 0 ∷ []) x 0 }

-- From the roots nil, 1 and 4 the order is 1, 2, 4, 3: cell 4 comes from cell 2 before cell 3 is visited.
abbrev pub PreorderExample : Type 0
PreorderExample = preorder 4 four_cells (0 ∷ 1 ∷ 4 ∷ []) ≡ 1 ∷ 2 ∷ 4 ∷ 3 ∷ []
