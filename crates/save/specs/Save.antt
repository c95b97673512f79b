-- Save (01, "Images" and "Questions, in order"): what it answers and leaves, for every pool, scratch and output.
use Rattle.std.specs.Prelude.{ℕ, ◌*◌, List, [], ◌∷◌, ◌++◌, cond, length, drop, replicate, leb, Result, Ok, Err}
use Rattle.pool.specs.Layout.{register_count}
use Rattle.questions.specs.Validity.{well_formed}
use Rattle.questions.specs.Questions.{sized_of, admitted_to}
use Rattle.answers.specs.Outcome.{Outcome, answered, refused, refusal_number, Determined}
use Rattle.image.specs.Image.{image_of}
use Rattle.answers.specs.declared.Refusal.{Refusal}

-- What `save` says: the byte count.
abbrev pub saved_outcome : Result ℕ Refusal → Outcome
saved_outcome (Ok size) = answered (size ∷ [])
saved_outcome (Err why) = refused (refusal_number why)

-- What is said determines the answer, its case too.
abbrev pub SavedDetermined : Type 0
SavedDetermined = Determined (Result ℕ Refusal) saved_outcome

-- The answer, the scratch and the output afterwards, for a well-formed pool: "does the output hold the image? No: 10."; "once save has found
-- the pool whole all its scratch is 0, refused or not"; "output past the image stays".
abbrev pub save_image : List ℕ → List ℕ → List ℕ → Outcome × List ℕ × List ℕ
save_image image s out =
    cond (leb (length image) (length out)) (answered (length image ∷ []), replicate (length s) 0, image ++ drop (length image) out)
    (refused 10, replicate (length s) 0, out)

-- Save of a pool w of n cells: "scratch 2 × N words or more? No: 10."; "is the pool whole? .. No: 3."; then the output. The pool is only read: "Save
-- changes no pool word".
abbrev pub save_in : ℕ → List ℕ → List ℕ → List ℕ → Outcome × List ℕ × List ℕ
save_in n w s out =
    cond (leb (2 * n) (length s))
    (cond (well_formed register_count n w) (save_image (image_of register_count n w) s out) (refused 3, s, out))
    (refused 10, s, out)

-- Save: the first question (1), then the others.
abbrev pub save_of : List ℕ → List ℕ → List ℕ → Outcome × List ℕ × List ℕ
save_of w s out = admitted_to (λ n. save_in n w s out) (λ k. (refused k, s, out)) (sized_of w)
