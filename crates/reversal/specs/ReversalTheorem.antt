-- What marking by link reversal does (Gries 2006; Fokkinga and Jansen): the statements of its theorems.
use Rattle.std.specs.Prelude.{ℕ, ◌+◌, ◌<◌, ◌≤◌, ◌≡◌, Bool, true, false, length}
use mathlib.Core.List.{List, [], ◌∷◌, Memᴰ}
use Rattle.graph.specs.Graph.{Graph}
use Rattle.graph.specs.Dfs.{Dfs, DfsAll}
use Rattle.pool.specs.Layout.{pool_length, state, mark_cell, is_point_at, link_of, roots_of}
use Rattle.pool.specs.States.{is_used}
use Rattle.questions.specs.Validity.{well_formed}
use Rattle.visit.specs.Visit.{marker}
use Rattle.reversal.specs.Reversal.{Visits, MarkRoots}
use Rattle.reversal.specs.Reached.{reached_cells, visits_of, reached_visits}

-- The words with every cell of a list marked.
unfoldable pub mark_all : ℕ → List ℕ → List ℕ → List ℕ
mark_all R w [] = w
mark_all R w (x ∷ xs) = mark_all R (mark_cell R w x) xs

-- What the words have to say of an unmarked cell x of the graph g of n cells, of which `point` tells which are points: it is used, of that kind, and has the
-- links of the graph, which are nil or cells.
pub record Untouched (R n : ℕ) (g : Graph) (point : ℕ → Bool) (w : List ℕ) (x : ℕ) : Type 0 where
  pub state : is_used (state R w x) ≡ true
  pub kind : is_point_at R w x ≡ point x
  pub left : link_of R w x 1 ≡ g.left x
  pub right : link_of R w x 2 ≡ g.right x
  pub left_bound : g.left x ≤ n
  pub right_bound : g.right x ≤ n

-- The words w hold the n cells of the graph g, of which m marks some (above 0 is marked): everything that is no cell is marked, an unmarked
-- cell is as the graph has it, and the state of a marked cell is not that of a used one. Nothing is said of the links of a marked cell: it may lie on the path
-- from the virtual root to the cell in hand, where its links are rotated.
pub record Agreement (R n : ℕ) (g : Graph) (point : ℕ → Bool) (m : ℕ → ℕ) (w : List ℕ) : Type 0 where
  pub room : pool_length R n ≤ length w
  pub nil : 0 < m 0
  pub past : (x : ℕ) → n < x → 0 < m x
  pub unmarked : (x : ℕ) → m x ≡ 0 → Untouched R n g point w x
  pub marked : (x : ℕ) → 0 < x → x ≤ n → 0 < m x → is_used (state R w x) ≡ false

-- Where p is unmarked and the depth-first visit of p newly marks the cells t, three visits for each pair of them and one for each point lead from (p, q)
-- to (q, p), whatever q is: every cell of t is marked then, all links, and a point's words, are as before, and no other word is changed. As Fokkinga and
-- Jansen state it, this holds of every link that the marking follows, not of the roots alone: the words may hold marked cells on the path from the
-- virtual root to p, their links rotated.
abbrev pub RunFromLink : Type 0
RunFromLink =
    (R n : ℕ) (g : Graph) (point : ℕ → Bool) (m : ℕ → ℕ) (p : ℕ) (t w : List ℕ) → Agreement R n g point m w → Dfs g m p t → m p ≡ 0 → (q c : ℕ)
    → Visits R n (visits_of point t) (marker p q c, w) (marker q p (c + visits_of point t), mark_all R w t)

-- Where the depth-first visits of the roots' links newly mark the cells t, the runs over the roots make three visits for each pair of t and one for each
-- point, mark exactly these cells, and change no other word: all links are restored.
abbrev pub RunFromRoots : Type 0
RunFromRoots =
    (R n : ℕ) (g : Graph) (point : ℕ → Bool) (m : ℕ → ℕ) (ps t w : List ℕ) → Agreement R n g point m w → DfsAll g m ps t → ((x : ℕ) → Memᴰ x ps → x ≤ n) → (c : ℕ)
    → MarkRoots R n ps (c, w) (c + visits_of point t, mark_all R w t)

-- What marking a pool of n cells makes of it: three visits for each reached pair and one for each reached point, and exactly these are marked.
abbrev pub marked_of : ℕ → ℕ → List ℕ → ℕ × List ℕ
marked_of R n w = (reached_visits R n w, mark_all R w (reached_cells R n w))

-- The same of a well-formed pool and its registers: the runs make three visits for each reached pair and one for each reached point, mark exactly these,
-- and change no other word. (A free cell counts as marked, since its state is not that of a used one; but no free cell is reached.)
abbrev pub RunOverPool : Type 0
RunOverPool =
    (R n : ℕ) (w : List ℕ) → pool_length R n ≤ length w → well_formed R n w ≡ true → MarkRoots R n (roots_of R w) (0, w) (marked_of R n w)
