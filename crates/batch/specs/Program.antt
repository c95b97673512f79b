-- A list of calls as words: five words a call, its code and then its arguments; what follows them among the five is ignored.
use Rattle.std.specs.Prelude.{ℕ, List, [], ◌∷◌, ◌++◌, cond, eqb, Option, Some, None}
use Rattle.calls.specs.declared.Call.{Call}
use Rattle.calls.specs.declared.Call.TheVariants as call

-- The call of a code and four words: 0 copy, 1 clear, 2 new, 3 left, 4 right, 5 setleft, 6 setright, 7 setvalue, 8 value, 9 same, 10 collect,
-- 11 point, 12 east, 13 north.
abbrev pub call_numbered : ℕ → ℕ → ℕ → ℕ → ℕ → Option Call
call_numbered code x y z u =
    cond (eqb code 0) (Some (call.Copy x y))
    (cond (eqb code 1) (Some (call.Clear x))
    (cond (eqb code 2) (Some (call.New x y z u))
    (cond (eqb code 3) (Some (call.Left x y))
    (cond (eqb code 4) (Some (call.Right x y))
    (cond (eqb code 5) (Some (call.SetLeft x y))
    (cond (eqb code 6) (Some (call.SetRight x y))
    (cond (eqb code 7) (Some (call.SetValue x y))
    (cond (eqb code 8) (Some (call.Value x))
    (cond (eqb code 9) (Some (call.Same x y))
    (cond (eqb code 10) (Some call.Collect)
    (cond (eqb code 11) (Some (call.Point x y z u))
    (cond (eqb code 12) (Some (call.East x))
    (cond (eqb code 13) (Some (call.North x)) None)))))))))))))

-- A program: calls, to the end of the list or to the first entry that is no call, one of fewer than five words or of an unknown code.
pub data Program : Type 0 where
  ended : Program
  malformed : Program
  then : Call → Program → Program

-- An entry, and the program behind it.
abbrev pub then_decoded : Option Call → Program → Program
then_decoded (Some c) rest = then c rest
then_decoded None rest = malformed

-- The program that these words hold.
unfoldable pub program_of : List ℕ → Program
program_of [] = ended
program_of (code ∷ x ∷ y ∷ z ∷ u ∷ rest) = then_decoded (call_numbered code x y z u) (program_of rest)
program_of (code ∷ []) = malformed
program_of (code ∷ x ∷ []) = malformed
program_of (code ∷ x ∷ y ∷ []) = malformed
program_of (code ∷ x ∷ y ∷ z ∷ []) = malformed

-- The program of these calls, to the end of the list.
unfoldable pub program_of_calls : List Call → Program
program_of_calls [] = ended
program_of_calls (c ∷ cs) = then c (program_of_calls cs)

-- The five words of a call.
abbrev pub call_words : Call → List ℕ
call_words (call.Copy r a) = 0 ∷ r ∷ a ∷ 0 ∷ 0 ∷ []
call_words (call.Clear r) = 1 ∷ r ∷ 0 ∷ 0 ∷ 0 ∷ []
call_words (call.New r a b v) = 2 ∷ r ∷ a ∷ b ∷ v ∷ []
call_words (call.Left r a) = 3 ∷ r ∷ a ∷ 0 ∷ 0 ∷ []
call_words (call.Right r a) = 4 ∷ r ∷ a ∷ 0 ∷ 0 ∷ []
call_words (call.SetLeft a b) = 5 ∷ a ∷ b ∷ 0 ∷ 0 ∷ []
call_words (call.SetRight a b) = 6 ∷ a ∷ b ∷ 0 ∷ 0 ∷ []
call_words (call.SetValue a v) = 7 ∷ a ∷ v ∷ 0 ∷ 0 ∷ []
call_words (call.Value a) = 8 ∷ a ∷ 0 ∷ 0 ∷ 0 ∷ []
call_words (call.Same a b) = 9 ∷ a ∷ b ∷ 0 ∷ 0 ∷ []
call_words call.Collect = 10 ∷ 0 ∷ 0 ∷ 0 ∷ 0 ∷ []
call_words (call.Point r v x y) = 11 ∷ r ∷ v ∷ x ∷ y ∷ []
call_words (call.East a) = 12 ∷ a ∷ 0 ∷ 0 ∷ 0 ∷ []
call_words (call.North a) = 13 ∷ a ∷ 0 ∷ 0 ∷ 0 ∷ []

-- The words of a list of calls.
unfoldable pub program_words : List Call → List ℕ
program_words [] = []
program_words (c ∷ cs) = call_words c ++ program_words cs
