-- The starred cases of document 01 ("Strips flown on paper") and its lengths, those that 02 names, and examples of its S-5 to S-8, as one table, and the
-- sentence that every case of it holds.
use Rattle.std.specs.Prelude.{ℕ, ◌≡◌, List, [], ◌∷◌, ◌++◌, replicate}
use Rattle.leb128.specs.Leb128.{encode}
use Rattle.pool.specs.Layout.{register_count, pool_length}
use Rattle.pool.specs.Fresh.{fresh_of}
use Rattle.answers.specs.Outcome.{answered, refused, verdict}
use Rattle.occupancy.specs.Occupancy.{occupancy_of}
use Rattle.collector.specs.Collect.{collect_of}
use Rattle.stack_algorithm.specs.CheckExample.{tree_links, equal_links, vain_links, order_links, eleven_links}
use Rattle.stack_marker.specs.StackCollect.{stack_of}
use Rattle.stack_marker.specs.StackExample.{leaf_pool, fork_pool}
use Rattle.worst_case.specs.WorstCase.{worst_case_of}
use Rattle.worst_case.specs.Example.{four_pool, five_pool}
use Rattle.image_scan.specs.Check.{check_of}
use Rattle.worked_examples.specs.CheckedPools.{pool_from, comb_links, two_comb_links}

-- A case: the bytes of a number; bytes, and what the check of them as an image for a pool of one cell answers; a pool, and what its collection keeps and
-- visits; a pool and a number of stack words, and what the collection with them keeps, whether they are enough (1) or not (0), and how many checks run; a number of
-- cells, and what the builder of the worst case for the stack answers; how many cells are kept, of how many, and the percent; a number of words, and how many cells fresh makes of them
-- and how many words are left over; and a number of words of which it makes no pool.
pub data Case : Type 0 where
  number : ℕ → List ℕ → Case
  checked : List ℕ → ℕ → Case
  collection : List ℕ → ℕ → ℕ → Case
  stack : List ℕ → ℕ → ℕ → ℕ → ℕ → Case
  entries : ℕ → ℕ → Case
  percent : ℕ → ℕ → ℕ → Case
  cells : ℕ → ℕ → ℕ → Case
  no_pool : ℕ → Case

-- What a case claims, by the definitions that the contracts cite.
abbrev pub Holds : Case → Type 0
Holds (number v bytes) = encode v ≡ bytes
Holds (checked bytes k) = verdict (check_of bytes 1) ≡ k
Holds (collection w kept visits) = (collect_of w).0 ≡ answered (kept ∷ visits ∷ [])
Holds (stack w size kept enough checks) = (stack_of w (replicate size 0)).0 ≡ answered (kept ∷ enough ∷ checks ∷ [])
Holds (entries n most) = (worst_case_of (replicate (pool_length register_count n) 9)).0 ≡ answered (most ∷ [])
Holds (percent kept n p) = occupancy_of kept n ≡ answered (p ∷ [])
Holds (cells words n e) = (fresh_of (replicate words 9)).0 ≡ answered (n ∷ e ∷ [])
Holds (no_pool words) = (fresh_of (replicate words 9)).0 ≡ refused 1

-- A pool of one used cell that is linked to itself, with register 0 leading to it.
abbrev pub self_linked : List ℕ
self_linked = (1 ∷ 0 ∷ 1 ∷ []) ++ replicate 15 0 ++ (0 ∷ 1 ∷ 1 ∷ 7 ∷ [])

-- A pool of two used cells, one linked to the other, with all registers nil.
abbrev pub unreached : List ℕ
unreached = (2 ∷ 0 ∷ []) ++ replicate 16 0 ++ (0 ∷ 2 ∷ 0 ∷ 7 ∷ []) ++ (0 ∷ 0 ∷ 0 ∷ 8 ∷ [])

-- 02, S-8: a pool of one point, with register 0 leading to it, whose x is the greatest number.
abbrev pub one_point : List ℕ
one_point = (1 ∷ 0 ∷ 1 ∷ []) ++ replicate 15 0 ++ (5 ∷ 4294967295 ∷ 12 ∷ 7 ∷ [])

-- A pair with a point on each side, whose x are numbers of cells, and register 0 leading to the pair.
abbrev pub between_points : List ℕ
between_points = (3 ∷ 0 ∷ 1 ∷ []) ++ replicate 15 0 ++ (0 ∷ 2 ∷ 3 ∷ 7 ∷ []) ++ (5 ∷ 1 ∷ 9 ∷ 8 ∷ []) ++ (5 ∷ 3 ∷ 2 ∷ 9 ∷ [])

-- What stands before the cells in an image of one cell, which register 0 holds: K and the registers.
abbrev pub before_cells : List ℕ
before_cells = (0x01 ∷ 0x01 ∷ []) ++ replicate 15 0x00

abbrev pub table : List Case
table =
    -- "127 is 7F", "128 is 80 01", "300 is AC 02", "4294967295 is FF FF FF FF 0F", "a fifth byte 10 is refused 7"
    number 127 (0x7F ∷ [])
    ∷ number 128 (0x80 ∷ 0x01 ∷ [])
    ∷ number 300 (0xAC ∷ 0x02 ∷ [])
    ∷ number 4294967295 (0xFF ∷ 0xFF ∷ 0xFF ∷ 0xFF ∷ 0x0F ∷ [])
    ∷ checked (0xFF ∷ 0xFF ∷ 0xFF ∷ 0xFF ∷ 0x10 ∷ []) 7
    -- 02, S-1: "A number whose last group is 0 is .. accepted only if it is the single byte 00", and 85 00, at the place of K; 12 comes after 6 and 7, and
    -- before 9
    ∷ checked (0x85 ∷ 0x00 ∷ []) 12
    ∷ checked (0x80 ∷ 0x00 ∷ []) 12
    ∷ checked (0x80 ∷ 0x80 ∷ 0x80 ∷ 0x80 ∷ 0x00 ∷ []) 12
    ∷ checked (0x80 ∷ 0x80 ∷ 0x80 ∷ 0x80 ∷ 0x80 ∷ []) 7
    ∷ checked (0x80 ∷ []) 6
    ∷ checked (replicate 17 0x00) 0
    -- "N = 1, one cell linked to itself: kept 1, visits 3", "All registers nil: 0, 0"
    ∷ collection self_linked 1 3
    ∷ collection unreached 0 0
    -- 02, S-8: "A point is marked by one visit, so visits are 3 × pairs + points"
    ∷ collection one_point 1 1
    ∷ collection between_points 3 5
    -- 02, S-8: "In an image each cell begins with kind 0 or 1 (1 a point)", a point's x and y are any numbers and a pair's links are not, "14 for another
    -- kind number, after 12", and "an image saved before, with cells and no byte behind it, is refused"
    ∷ checked (before_cells ++ (0x01 ∷ 0xFF ∷ 0xFF ∷ 0xFF ∷ 0xFF ∷ 0x0F ∷ 0x02 ∷ 0x07 ∷ [])) 0
    ∷ checked (before_cells ++ (0x00 ∷ 0x01 ∷ 0x02 ∷ 0x07 ∷ [])) 8
    ∷ checked (before_cells ++ (0x02 ∷ 0x00 ∷ 0x00 ∷ 0x07 ∷ [])) 14
    ∷ checked (before_cells ++ (0x82 ∷ 0x00 ∷ 0x00 ∷ 0x00 ∷ 0x07 ∷ [])) 12
    ∷ checked (before_cells ++ (0x00 ∷ 0x00 ∷ 0x01 ∷ [])) 6
    -- "A cell with both links to one leaf: one stack word is enough", and 02, S-2: "the case of the leaf with two equal links becomes enough with none"
    ∷ stack leaf_pool 1 2 1 0
    ∷ stack leaf_pool 0 2 1 0
    -- links to two leaves: one stack word is enough, none is not; 02, S-5: "A check is one such pass, even over no entries"
    ∷ stack fork_pool 1 3 1 0
    ∷ stack fork_pool 0 3 0 1
    -- 02, S-3: "That number is (N − 1) / 2 rounded down, and it is answered"; on the pool that is built so many stack words need no check, and one less makes one
    ∷ entries 1 0
    ∷ entries 2 0
    ∷ entries 3 1
    ∷ entries 4 1
    ∷ entries 5 2
    ∷ stack four_pool 1 4 1 0
    ∷ stack four_pool 0 4 0 1
    ∷ stack five_pool 2 5 1 0
    ∷ stack five_pool 1 5 1 1
    -- 02, S-5: one check, in vain; two; three, the last of them in vain, and three that each dropped an entry; checks of one register after another; an entry
    -- that is kept, with another cell, above one that is dropped
    ∷ stack (pool_from 1 0 tree_links) 1 7 0 1
    ∷ stack (pool_from 1 0 equal_links) 1 8 1 2
    ∷ stack (pool_from 1 0 vain_links) 1 12 0 3
    ∷ stack (pool_from 1 0 comb_links) 1 9 1 3
    ∷ stack (pool_from 1 6 two_comb_links) 1 10 1 2
    ∷ stack (pool_from 1 0 order_links) 2 11 1 1
    -- nothing is promised of longer stacks: two words make more checks than one
    ∷ stack (pool_from 1 0 eleven_links) 1 11 1 1
    ∷ stack (pool_from 1 0 eleven_links) 2 11 1 2
    -- "Gauge 1 of 3: 33", and 02, S-7: "The percent goes to the nearest whole number, and an exact half to the even one. 1 of 200 shows 0, 3 of 200 shows 2, 1 of 3
    -- shows 33, 2 of 3 shows 67"; 2.5 and 7.5 percent, and all of the largest pool
    ∷ percent 1 200 0
    ∷ percent 3 200 2
    ∷ percent 1 3 33
    ∷ percent 2 3 67
    ∷ percent 1 40 2
    ∷ percent 3 40 8
    ∷ percent 4000 4000 100
    -- "Length 18: refused 1; 22: N = 1; 16,018: N = 4,000; 16,022: refused 1", and 02, S-6: "The length may now be 18 + 4 × N + e, with e from 0 to 3"
    ∷ no_pool 18
    ∷ no_pool 21
    ∷ cells 22 1 0
    ∷ cells 23 1 1
    ∷ cells 24 1 2
    ∷ cells 25 1 3
    ∷ cells 26 2 0
    ∷ cells 16018 4000 0
    ∷ cells 16021 4000 3
    ∷ no_pool 16022
    ∷ []

-- Every case of a list holds.
unfoldable pub All : List Case → Type 0
All [] = Unit {0}
All (c ∷ cs) = Holds c × All cs

-- Every case of the table holds.
abbrev pub WorkedExamples : Type 0
WorkedExamples = All table
