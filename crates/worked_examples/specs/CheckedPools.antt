-- How a pool is made of links, and two pools more than `stack_algorithm/specs/CheckExample` has, for lent stacks that are checked (02, S-5). All cells are used and
-- reached, and their values are 0.
use Rattle.std.specs.Prelude.{ℕ, List, [], ◌∷◌, ◌++◌, length, replicate}

-- The words of cells with these links, left and right.
abbrev pub cells_of : List (ℕ × ℕ) → List ℕ
cells_of [] = []
cells_of (links ∷ more) = 0 ∷ links.0 ∷ links.1 ∷ 0 ∷ cells_of more

-- The pool of these cells, with registers 0 and 1 leading to these, and the others nil.
abbrev pub pool_from : ℕ → ℕ → List (ℕ × ℕ) → List ℕ
pool_from first second links = (length links ∷ 0 ∷ first ∷ second ∷ []) ++ replicate 14 0 ++ cells_of links

-- A comb of nine cells. With one word, a check at 3, at 5 and at 7, each of which drops a leaf.
abbrev pub comb_links : List (ℕ × ℕ)
comb_links = (3, 2) ∷ (0, 0) ∷ (5, 4) ∷ (0, 0) ∷ (7, 6) ∷ (0, 0) ∷ (9, 8) ∷ (0, 0) ∷ (0, 0) ∷ []

-- Two combs of five cells, from cells 1 and 6. With one word: a check at 3, which drops 2, and one at 8, which drops 7.
abbrev pub two_comb_links : List (ℕ × ℕ)
two_comb_links = (3, 2) ∷ (0, 0) ∷ (5, 4) ∷ (0, 0) ∷ (0, 0) ∷ (8, 7) ∷ (0, 0) ∷ (10, 9) ∷ (0, 0) ∷ (0, 0) ∷ []
