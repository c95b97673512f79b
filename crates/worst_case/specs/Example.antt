-- The pool that fills the stack (02, S-3), worked out by hand.
use Rattle.std.specs.Prelude.{◌≡◌, List, [], ◌∷◌, ◌++◌, ℕ, replicate}
use Rattle.answers.specs.Outcome.{answered, refused}
use Rattle.worst_case.specs.WorstCase.{worst_case_of}

-- Five cells: 1 leads to 3 and 2, 3 leads to 5 and 4. With 5 in hand, 4 and 2 are held.
abbrev pub five_pool : List ℕ
five_pool =
    (5 ∷ 0 ∷ 1 ∷ [])
    ++ replicate 15 0
    ++ (0 ∷ 3 ∷ 2 ∷ 0 ∷ [])
    ++ (0 ∷ 0 ∷ 0 ∷ 0 ∷ [])
    ++ (0 ∷ 5 ∷ 4 ∷ 0 ∷ [])
    ++ (0 ∷ 0 ∷ 0 ∷ 0 ∷ [])
    ++ (0 ∷ 0 ∷ 0 ∷ 0 ∷ [])

-- Four cells: 3 leads to 4 only, since there is no cell 5. With 3 in hand, 2 is held.
abbrev pub four_pool : List ℕ
four_pool = (4 ∷ 0 ∷ 1 ∷ []) ++ replicate 15 0 ++ (0 ∷ 3 ∷ 2 ∷ 0 ∷ []) ++ (0 ∷ 0 ∷ 0 ∷ 0 ∷ []) ++ (0 ∷ 0 ∷ 4 ∷ 0 ∷ []) ++ (0 ∷ 0 ∷ 0 ∷ 0 ∷ [])

-- Built in words of any content; words of no pool's length are refused with 1, and stay.
abbrev pub WorstCaseExample : Type 0
WorstCaseExample =
    (worst_case_of (replicate 38 9) ≡ (answered (2 ∷ []), five_pool))
    × (worst_case_of (replicate 34 9) ≡ (answered (1 ∷ []), four_pool))
    × (worst_case_of (replicate 18 9) ≡ (refused 1, replicate 18 9))
