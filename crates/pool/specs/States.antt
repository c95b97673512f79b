-- The states of a cell (01, "The pool's words"; 02, S-8). A used cell is a pair of links or a point.
use Rattle.std.specs.Prelude.{ℕ, Bool, cond, ◌||◌, eqb, true, false}
use Rattle.pool.specs.declared.Kind.{Kind}
use Rattle.pool.specs.declared.Kind.TheVariants as kind

-- "State 0 is used, 4 is free; 1, 2 and 3 stand only inside a collection.": 0 is the state of a pair.
abbrev pub pair_state : ℕ
pair_state = 0

-- A marked pair has state 3.
abbrev pub marked_pair_state : ℕ
marked_pair_state = 3

-- "4 is free"
abbrev pub free_state : ℕ
free_state = 4

-- "A used cell may now be a point: state 5" (02, S-8).
abbrev pub point_state : ℕ
point_state = 5

-- A marked point has state 6, which stands only inside a collection.
abbrev pub marked_point_state : ℕ
marked_point_state = 6

-- Is it the state of a point, marked or not?
unfoldable pub is_point : ℕ → Bool
is_point s = eqb s point_state || eqb s marked_point_state

-- Is it the state of a used cell, a pair or a point?
unfoldable pub is_used : ℕ → Bool
is_used s = eqb s pair_state || eqb s point_state

-- Of a marked one?
unfoldable pub is_marked : ℕ → Bool
is_marked s = eqb s marked_pair_state || eqb s marked_point_state

-- Of a free one?
abbrev pub is_free : ℕ → Bool
is_free s = eqb s free_state

-- What marking makes of the state of a used cell.
unfoldable pub as_marked : ℕ → ℕ
as_marked s = cond (is_point s) marked_point_state marked_pair_state

-- What the sweep makes of the state of a marked cell: "The sweep sets state 3 to 0", and "a collection leaves it at state 5" (02, S-8) of a point.
unfoldable pub as_used : ℕ → ℕ
as_used s = cond (is_point s) point_state pair_state

-- Is it the kind of a point?
abbrev pub is_point_kind : Kind → Bool
is_point_kind kind.Pair = false
is_point_kind kind.Point = true
