-- What "new" and "point" answer and leave behind the first two questions (01, "The eleven calls" and "Questions, in order"; 02, S-8): on the words of a pool
-- of n cells, for valid registers.
use Rattle.std.specs.Prelude.{ℕ, List, Bool, cond, ◌&&◌, eqb, leb}
use Rattle.pool.specs.Layout.{register_count, head, set_head, register, set_register, put_cell, state, left}
use Rattle.questions.specs.Validity.{well_formed}
use Rattle.pool.specs.States.{pair_state, point_state, is_free}
use Rattle.questions.specs.Questions.{holds_link}
use Rattle.answers.specs.Outcome.{Outcome, allocated, refused}
use Rattle.reversal.specs.Reached.{reached_visits}
use Rattle.collector.specs.Collect.{collected}

-- "a used cell with left from a, right from b, value v; r gets it. It takes the head cell, and the head becomes that cell's left." The cell is a pair or a
-- point: s is its state, x and y are its left and right words.
abbrev pub take : List ℕ → ℕ → ℕ → ℕ → ℕ → ℕ → List ℕ
take w r s x y v =
    let i = head w in
    set_register (set_head (put_cell register_count w i s x y v) (left register_count w i)) r i

-- "new with another head: is it 1 to N and free, its left at most N? No: 3."
abbrev pub good_head : ℕ → List ℕ → Bool
good_head n w = leb (head w) n && is_free (state register_count w (head w)) && leb (left register_count w (head w)) n

-- "Where the head is 0 it collects first, with r's old content still a root", if the pool is whole (3), and takes the head cell that it finds then.
-- "new, after collecting: is a cell free? No: 5", and nothing has changed.
abbrev pub take_collected : ℕ → List ℕ → ℕ → ℕ → ℕ → ℕ → ℕ → Outcome × List ℕ
take_collected n w r s x y v =
    cond (well_formed register_count n w)
    (cond (eqb (head (collected register_count n w)) 0)
    (refused 5, w)
    (allocated (reached_visits register_count n w), take (collected register_count n w) r s x y v))
    (refused 3, w)

-- Where it is not 0, the head cell is taken, if it may be (3).
abbrev pub take_free : ℕ → List ℕ → ℕ → ℕ → ℕ → ℕ → ℕ → Outcome × List ℕ
take_free n w r s x y v = cond (good_head n w) (allocated 0, take w r s x y v) (refused 3, w)

-- r gets a new cell. It "also reports visits": 0, or those of the collection.
abbrev pub allocate_in : ℕ → List ℕ → ℕ → ℕ → ℕ → ℕ → ℕ → Outcome × List ℕ
allocate_in n w r s x y v = cond (eqb (head w) 0) (take_collected n w r s x y v) (take_free n w r s x y v)

-- "new r a b v": a pair, whose links are what a and b hold, which must be sound (3).
abbrev pub new_in : ℕ → List ℕ → ℕ → ℕ → ℕ → ℕ → Outcome × List ℕ
new_in n w r a b v =
    cond (holds_link n w a && holds_link n w b) (allocate_in n w r pair_state (register w a) (register w b) v) (refused 3, w)

-- "point r v x y" makes a point, "under the checks and limit of "new", and reports visits as "new" does" (02, S-8). It reads no register.
abbrev pub point_in : ℕ → List ℕ → ℕ → ℕ → ℕ → ℕ → Outcome × List ℕ
point_in n w r v x y = allocate_in n w r point_state x y v
