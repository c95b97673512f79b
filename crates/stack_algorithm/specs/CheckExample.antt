-- Checks of a full stack (02, S-5), worked out by hand on graphs of a few cells. The root is cell 1, from which all cells are reached; the links are those of the
-- list.
use Rattle.std.specs.Prelude.{ℕ, ◌≡◌, List, [], ◌∷◌, false, length, get_or}
use Rattle.graph.specs.Graph.{Graph}
use Rattle.stack_algorithm.specs.Check.{check, is_enough, check_count, limited_run}

-- The graph with these links, left and right, of cells 1, 2 and so on.
abbrev pub linked : List (ℕ × ℕ) → Graph
linked links = record { left = λ x. (get_or ((0, 0) ∷ links) x (0, 0)).0; right = λ x. (get_or ((0, 0) ∷ links) x (0, 0)).1 }

-- The run from cell 1 with so many words of stack, and how many entries each of its checks drops.
abbrev pub run_of : ℕ → List (ℕ × ℕ) → List ℕ × List ℕ
run_of room links = limited_run room (length links) (linked links) (1 ∷ [])

abbrev pub dropped : ℕ → List (ℕ × ℕ) → List ℕ
dropped room links = (run_of room links).1

-- A balanced tree: 1 leads to 2 and 3, 2 to 4 and 5, 3 to 6 and 7. With one word: at 2 the word holds 3. From 3 two ways lead on: it is needed, and the check was
-- in vain.
abbrev pub tree_links : List (ℕ × ℕ)
tree_links = (2, 3) ∷ (4, 5) ∷ (6, 7) ∷ (0, 0) ∷ (0, 0) ∷ (0, 0) ∷ (0, 0) ∷ []

-- Both links of cell 3 lead to 6. With one word: at 2 the word holds 3; the check goes on to 6, a leaf, and drops the entry; 5 is pushed. At 4 the word holds 5, a
-- leaf, which the second check drops; 8 is pushed.
abbrev pub equal_links : List (ℕ × ℕ)
equal_links = (2, 3) ∷ (4, 5) ∷ (6, 6) ∷ (7, 8) ∷ (0, 0) ∷ (0, 0) ∷ (0, 0) ∷ (0, 0) ∷ []

-- The same, with two leaves at each of 7 and 8. With one word: at 7, after these two checks, the word holds 8, from which two ways lead on; the third check was in
-- vain.
abbrev pub vain_links : List (ℕ × ℕ)
vain_links = (2, 3) ∷ (4, 5) ∷ (6, 6) ∷ (7, 8) ∷ (0, 0) ∷ (0, 0) ∷ (9, 10) ∷ (11, 12) ∷ (0, 0) ∷ (0, 0) ∷ (0, 0) ∷ (0, 0) ∷ []

-- With two words: at 4 the words hold 5, on top, and 3. From 5 the check marks 8 and goes there; two ways lead on, to 10 and 11, so 8 takes the place of 5. From 3
-- it marks 9, a leaf, as 8 is marked now: 3 is dropped. (From bottom to top 3 would come first, two ways would lead on from it, and nothing would be dropped.)
abbrev pub order_links : List (ℕ × ℕ)
order_links = (2, 3) ∷ (4, 5) ∷ (8, 9) ∷ (6, 7) ∷ (8, 0) ∷ (0, 0) ∷ (0, 0) ∷ (10, 11) ∷ (0, 0) ∷ (0, 0) ∷ (0, 0) ∷ []

-- A longer stack can make more checks. With one word: at 6, with 9 and 7 marked, it holds 3; the check goes on to 4, 5 and 10 and drops 3; no further check is made.
-- With two: at 9, with 11 and 5 marked, they hold 7, on top, and 3. From 7 two ways lead on, to 8 and 4; from 3 the check marks 4, and drops 3. At 11, with 2 and 10
-- marked, they hold 5 and 7, and the second check drops both.
abbrev pub eleven_links : List (ℕ × ℕ)
eleven_links = (6, 3) ∷ (0, 4) ∷ (4, 9) ∷ (7, 5) ∷ (6, 10) ∷ (9, 7) ∷ (8, 4) ∷ (6, 2) ∷ (11, 5) ∷ (1, 7) ∷ (2, 10) ∷ []

-- And a shorter stack can be enough where a longer one is not. With two words: at 3, with 4 and 13 marked, they hold 14, a leaf, and 15; 14 is dropped, and from 15
-- the check marks 5, from which two ways lead on, and which takes its place. At 12, with 10 and 11 marked, they hold 13, which is dropped, and 5, which stays. With
-- three words: at 4, with 5 and 12 marked, they hold 13, 14 and 15, of which 13 stays. At 6, with 7 and 8 marked, they hold 9, 12 and 13, from each of which two ways
-- lead on, to 10 and 11: the second check was in vain.
abbrev pub fifteen_links : List (ℕ × ℕ)
fifteen_links =
    (2, 15) ∷ (3, 14) ∷ (4, 13) ∷ (5, 12) ∷ (6, 9) ∷ (7, 8) ∷ (0, 0) ∷ (0, 0) ∷ (10, 11) ∷ (0, 0) ∷ (0, 0) ∷ (10, 11) ∷ (10, 11) ∷ (0, 0) ∷ (5, 0) ∷ []

-- All of this.
pub record CheckExamples : Type 0 where
  pub tree : dropped 1 tree_links ≡ 0 ∷ []
  pub equal : dropped 1 equal_links ≡ 1 ∷ 1 ∷ []
  pub vain : dropped 1 vain_links ≡ 1 ∷ 1 ∷ 0 ∷ []
  -- "a last vain one too" is counted, and says that the stack was not enough
  pub answer : (is_enough (run_of 1 vain_links) ≡ false) × (check_count (run_of 1 vain_links) ≡ 3)
  -- the one check of `order_links`: 8 and 9 are marked, 8 is left, and its links stay unmarked
  pub left : check 11 (linked order_links) (1 ∷ 2 ∷ 3 ∷ 4 ∷ 5 ∷ 6 ∷ 7 ∷ []) (5 ∷ 3 ∷ []) ≡ (1 ∷ 2 ∷ 3 ∷ 4 ∷ 5 ∷ 6 ∷ 7 ∷ 8 ∷ 9 ∷ [], 8 ∷ [])
  pub order : dropped 2 order_links ≡ 1 ∷ []
  -- the entries that are left keep their order: where no link of 12 and of 13 is marked these stay, and 14, a leaf, goes
  pub gaps : check 15 (linked fifteen_links) (12 ∷ 13 ∷ 14 ∷ []) (12 ∷ 14 ∷ 13 ∷ []) ≡ (12 ∷ 13 ∷ 14 ∷ [], 12 ∷ 13 ∷ [])
  pub more_checks : (dropped 1 eleven_links ≡ 1 ∷ []) × (dropped 2 eleven_links ≡ 1 ∷ 2 ∷ [])
  pub not_enough : (dropped 2 fifteen_links ≡ 1 ∷ 1 ∷ []) × (dropped 3 fifteen_links ≡ 2 ∷ 0 ∷ [])
