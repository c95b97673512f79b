-- The bodies of the calls but `new`, `point` and `collect`: what each call answers and leaves behind the first two questions, on a pool of n cells (01,
-- "The eleven calls" and "Questions, in order"; 02, S-8).
use Rattle.std.specs.Prelude.{ℕ, List, [], ◌∷◌, Bool, true, false, cond, ◌&&◌, not, eqb, Result, Ok, Err}
use Rattle.pool.specs.Layout.{register_count, register, set_register, cell, set_cell, value, is_point_at}
use Rattle.questions.specs.Validity.{valid_link}
use Rattle.questions.specs.Questions.{holds_link}
use Rattle.answers.specs.declared.Refusal.{Refusal}
use Rattle.answers.specs.declared.Refusal.TheVariants as refusal
use Rattle.answers.specs.Outcome.{Outcome, answered, refused, refusal_number}

-- "copy r a": r gets what a holds, which must be sound (3).
abbrev pub copy_in : ℕ → List ℕ → ℕ → ℕ → Outcome × List ℕ
copy_in n w r a = cond (holds_link n w a) (answered [], set_register w r (register w a)) (refused 3, w)

-- "clear r (nil)": it reads no register.
abbrev pub clear_in : List ℕ → ℕ → Outcome × List ℕ
clear_in w r = (answered [], set_register w r 0)

-- The cell that a holds: "Are the registers read sound? .. No: 3", and then "does a hold a cell? No: 4."
abbrev pub held_cell_of : ℕ → List ℕ → ℕ → Result ℕ Refusal
held_cell_of n w a =
    cond (holds_link n w a) (cond (eqb (register w a) 0) (Err refusal.Nil) (Ok (register w a))) (Err refusal.Malformed)

-- Is cell x of the kind that is asked for, a point or a pair?
abbrev pub is_of_kind : Bool → List ℕ → ℕ → Bool
is_of_kind point w x = cond (is_point_at register_count w x) point (not point)

-- "13 where left, right or a link change meets a point, or east or north a pair, directly after 4" (02, S-8).
abbrev pub of_kind : Bool → List ℕ → Result ℕ Refusal → Result ℕ Refusal
of_kind point w (Ok x) = cond (is_of_kind point w x) (Ok x) (Err refusal.Kind)
of_kind point w (Err k) = Err k

-- The cell that a holds, where it is of that kind.
abbrev pub held_kind_of : Bool → ℕ → List ℕ → ℕ → Result ℕ Refusal
held_kind_of point n w a = of_kind point w (held_cell_of n w a)

-- The body runs on a cell; where there is none, "A refusal gives its number alone .. and changes nothing".
abbrev pub cell_to : List ℕ → (ℕ → Outcome × List ℕ) → Result ℕ Refusal → Outcome × List ℕ
cell_to w body (Ok x) = body x
cell_to w body (Err k) = (refused (refusal_number k), w)

-- The body runs on the cell that a holds.
abbrev pub with_cell : ℕ → List ℕ → ℕ → (ℕ → Outcome × List ℕ) → Outcome × List ℕ
with_cell n w a body = cell_to w body (held_cell_of n w a)

-- The body runs on the cell that a holds, which must be of that kind.
abbrev pub with_kind : Bool → ℕ → List ℕ → ℕ → (ℕ → Outcome × List ℕ) → Outcome × List ℕ
with_kind point n w a body = cell_to w body (held_kind_of point n w a)

-- "left r a, right r a: r gets that link of a's cell", a pair, and the link must be sound (3). Field 1 is left, 2 is right.
abbrev pub follow_in : ℕ → List ℕ → ℕ → ℕ → ℕ → Outcome × List ℕ
follow_in n w field r a =
    with_kind false n w a λ x.
    cond (valid_link register_count n w (cell register_count w x field))
    (answered [], set_register w r (cell register_count w x field))
    (refused 3, w)

-- "setleft a b, setright a b": both registers are judged sound (3) before it is asked whether a holds a cell (4), and of a cell whether it is a pair (13).
abbrev pub link_in : ℕ → List ℕ → ℕ → ℕ → ℕ → Outcome × List ℕ
link_in n w field a b =
    cond (holds_link n w b)
    (with_kind false n w a λ x. (answered [], set_cell register_count w x field (register w b)))
    (refused 3, w)

-- "setvalue a v": a's cell gets the value v.
abbrev pub set_value_in : ℕ → List ℕ → ℕ → ℕ → Outcome × List ℕ
set_value_in n w a v = with_cell n w a λ x. (answered [], set_cell register_count w x 3 v)

-- "value a answers the value"
abbrev pub value_in : ℕ → List ℕ → ℕ → Outcome × List ℕ
value_in n w a = with_cell n w a λ x. (answered (value register_count w x ∷ []), w)

-- "east a" and "north a" answer x and y (02, S-8) of a's cell, a point. Field 1 is x, 2 is y.
abbrev pub coordinate_in : ℕ → List ℕ → ℕ → ℕ → Outcome × List ℕ
coordinate_in n w field a = with_kind true n w a λ x. (answered (cell register_count w x field ∷ []), w)

-- "same a b answers 1 if both hold the same link (two nils are the same), else 0"
abbrev pub same_in : ℕ → List ℕ → ℕ → ℕ → Outcome × List ℕ
same_in n w a b =
    cond (holds_link n w a && holds_link n w b)
    (answered (cond (eqb (register w a) (register w b)) 1 0 ∷ []), w)
    (refused 3, w)
