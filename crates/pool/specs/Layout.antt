-- Where everything stands in the words of a pool (01, "The pool's words"). R is the number of registers; in the pool that is built it is 16.
use Rattle.std.specs.Prelude.{ℕ, ◌+◌, ◌*◌, ◌-◌, ◌/◌, ◌%◌, List, Bool, cond, ◌&&◌, length, get_or, set, drop, eqb, leb}
use Rattle.graph.specs.Graph.{Graph}
use Rattle.pool.specs.Words.{tabulate}
use Rattle.pool.specs.States.{is_point, as_marked, as_used}

-- "N from 1 to 4,000"
abbrev pub cell_limit : ℕ
cell_limit = 4000

-- "Words 2 to 17 are registers 0 to 15"
abbrev pub register_count : ℕ
register_count = 16

-- The first register's word.
abbrev pub first_register : ℕ
first_register = 2

-- The first cell's word, behind the registers: "from word 18".
abbrev pub first_cell : ℕ → ℕ
first_cell R = first_register + R

-- "18 + 4 × N": the words of a pool of n cells, without those behind its cells.
abbrev pub pool_length : ℕ → ℕ → ℕ
pool_length R n = first_cell R + 4 * n

-- "18 + 4 × N + e, with e from 0 to 3" (02, S-6): the most words that a pool has behind its cells.
abbrev pub leftover_limit : ℕ
leftover_limit = 3

-- N "from the length alone": the number of cells of a pool of that many words, 0 where no pool has that length.
unfoldable pub cell_count_of_length : ℕ → ℕ → ℕ
cell_count_of_length R len = cond (leb (pool_length R 1) len && leb len (pool_length R cell_limit + leftover_limit)) ((len - first_cell R) / 4) 0

-- And e: the number of words behind its cells.
abbrev pub leftover_of_length : ℕ → ℕ → ℕ
leftover_of_length R len = (len - first_cell R) % 4

-- "the e words at the end": the words behind the cells. (Of a length that no pool has, all from the first cell's word on.)
abbrev pub leftover_words : ℕ → List ℕ → List ℕ
leftover_words R w = drop (pool_length R (cell_count_of_length R (length w))) w

-- "Word 0 is N."
unfoldable pub count : List ℕ → ℕ
count w = get_or w 0 0

-- The words with another word 0.
unfoldable pub set_count : List ℕ → ℕ → List ℕ
set_count w n = set w 0 n

-- The first question: "Is the length 18 + 4 × N, N within limits, and .. word 0 that N?", the length as 02, S-6, has it. The number of cells of the pool, 0
-- where the words are no pool.
unfoldable pub cell_count : ℕ → List ℕ → ℕ
cell_count R w = let n = cell_count_of_length R (length w) in cond (eqb (count w) n) n 0

-- "Word 1 is the head of the free chain, 0 for none."
unfoldable pub head : List ℕ → ℕ
head w = get_or w 1 0

-- The words with another head.
unfoldable pub set_head : List ℕ → ℕ → List ℕ
set_head w v = set w 1 v

-- "Words 2 to 17 are registers 0 to 15": what register k holds.
unfoldable pub register : List ℕ → ℕ → ℕ
register w k = get_or w (first_register + k) 0

-- The words in which register k holds v.
unfoldable pub set_register : List ℕ → ℕ → ℕ → List ℕ
set_register w k v = set w (first_register + k) v

-- "Cell i (1 to N) has four words from word 18 + 4 × (i − 1): state, left, right, value." Field 0 is the state, 1 left, 2 right, 3 the value.
abbrev pub cell_at : ℕ → ℕ → ℕ → ℕ
cell_at R i f = first_cell R + 4 * (i - 1) + f

-- Field f of cell i.
unfoldable pub cell : ℕ → List ℕ → ℕ → ℕ → ℕ
cell R w i f = get_or w (cell_at R i f) 0

-- The words with another value in field f of cell i.
unfoldable pub set_cell : ℕ → List ℕ → ℕ → ℕ → ℕ → List ℕ
set_cell R w i f v = set w (cell_at R i f) v

-- The state of cell i.
abbrev pub state : ℕ → List ℕ → ℕ → ℕ
state R w i = cell R w i 0

-- Its left word: a pair's left link, a point's x.
abbrev pub left : ℕ → List ℕ → ℕ → ℕ
left R w i = cell R w i 1

-- Its right word: a pair's right link, a point's y.
abbrev pub right : ℕ → List ℕ → ℕ → ℕ
right R w i = cell R w i 2

-- Its value.
abbrev pub value : ℕ → List ℕ → ℕ → ℕ
value R w i = cell R w i 3

-- State s, left l and right r written to cell i.
abbrev pub set_node : ℕ → List ℕ → ℕ → ℕ → ℕ → ℕ → List ℕ
set_node R w i s l r = set_cell R (set_cell R (set_cell R w i 0 s) i 1 l) i 2 r

-- With them the value v: all four words of cell i written.
abbrev pub put_cell : ℕ → List ℕ → ℕ → ℕ → ℕ → ℕ → ℕ → List ℕ
put_cell R w i s l r v = set_cell R (set_node R w i s l r) i 3 v

-- Cell i marked.
abbrev pub mark_cell : ℕ → List ℕ → ℕ → List ℕ
mark_cell R w i = set_cell R w i 0 (as_marked (state R w i))

-- Cell i made used again.
abbrev pub unmark_cell : ℕ → List ℕ → ℕ → List ℕ
unmark_cell R w i = set_cell R w i 0 (as_used (state R w i))

-- Is cell i a point, marked or not?
abbrev pub is_point_at : ℕ → List ℕ → ℕ → Bool
is_point_at R w i = is_point (state R w i)

-- A link of a cell, left (1) or right (2): the field of a pair; a point's "left and right words are plain numbers and no links" (02, S-8), so it counts
-- "as a cell with two nil links".
unfoldable pub link_of : ℕ → List ℕ → ℕ → ℕ → ℕ
link_of R w i f = cond (is_point_at R w i) 0 (cell R w i f)

-- The graph that the words hold.
abbrev pub graph_of : ℕ → List ℕ → Graph
graph_of R w = record { left = λ i. link_of R w i 1; right = λ i. link_of R w i 2 }

-- The links that its registers hold, in order.
abbrev pub roots_of : ℕ → List ℕ → List ℕ
roots_of R w = tabulate R (λ k. register w k)
