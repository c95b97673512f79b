-- What each of the fourteen calls answers and leaves, on every list of words (01, "The eleven calls" and "Questions, in order"; 02, S-8).
use Rattle.std.specs.Prelude.{ℕ, List, [], ◌∷◌, Bool, true, false}
use Rattle.answers.specs.Outcome.{Outcome, refused}
use Rattle.questions.specs.Questions.{admit_of, admitted_to}
use Rattle.collector.specs.Collect.{collect_in}
use Rattle.allocator.specs.Allocation.{new_in, point_in}
use Rattle.operations.specs.Operations.{copy_in, clear_in, follow_in, link_in, set_value_in, value_in, coordinate_in, same_in}
use Rattle.calls.specs.declared.Call.{Call}
use Rattle.calls.specs.declared.Call.TheVariants as call

-- The registers that each call names: "Is every register number below 16?" asks about all of them.
abbrev pub registers_of : Call → List ℕ
registers_of (call.Copy r a) = r ∷ a ∷ []
registers_of (call.Clear r) = r ∷ []
registers_of (call.New r a b v) = r ∷ a ∷ b ∷ []
registers_of (call.Left r a) = r ∷ a ∷ []
registers_of (call.Right r a) = r ∷ a ∷ []
registers_of (call.SetLeft a b) = a ∷ b ∷ []
registers_of (call.SetRight a b) = a ∷ b ∷ []
registers_of (call.SetValue a v) = a ∷ []
registers_of (call.Value a) = a ∷ []
registers_of (call.Same a b) = a ∷ b ∷ []
registers_of call.Collect = []
registers_of (call.Point r v x y) = r ∷ []
registers_of (call.East a) = a ∷ []
registers_of (call.North a) = a ∷ []

-- A call behind its first two questions, on a pool of n cells: "a call is one of eleven cases", and 02, S-8, adds three.
abbrev pub body_of : Call → ℕ → List ℕ → Outcome × List ℕ
body_of (call.Copy r a) n w = copy_in n w r a
body_of (call.Clear r) n w = clear_in w r
body_of (call.New r a b v) n w = new_in n w r a b v
body_of (call.Left r a) n w = follow_in n w 1 r a
body_of (call.Right r a) n w = follow_in n w 2 r a
body_of (call.SetLeft a b) n w = link_in n w 1 a b
body_of (call.SetRight a b) n w = link_in n w 2 a b
body_of (call.SetValue a v) n w = set_value_in n w a v
body_of (call.Value a) n w = value_in n w a
body_of (call.Same a b) n w = same_in n w a b
body_of call.Collect n w = collect_in n w
body_of (call.Point r v x y) n w = point_in n w r v x y
body_of (call.East a) n w = coordinate_in n w 1 a
body_of (call.North a) n w = coordinate_in n w 2 a

-- A call: the first two questions, and then its body; "A refusal gives its number alone .. and changes nothing".
abbrev pub call_of : Call → List ℕ → Outcome × List ℕ
call_of c w = admitted_to (λ n. body_of c n w) (λ k. (refused k, w)) (admit_of w (registers_of c))

-- Does the call allocate a cell? "new" does, and "point", "counting as a "new"" (02, S-8); no other.
abbrev pub allocates : Call → Bool
allocates (call.Copy r a) = false
allocates (call.Clear r) = false
allocates (call.New r a b v) = true
allocates (call.Left r a) = false
allocates (call.Right r a) = false
allocates (call.SetLeft a b) = false
allocates (call.SetRight a b) = false
allocates (call.SetValue a v) = false
allocates (call.Value a) = false
allocates (call.Same a b) = false
allocates call.Collect = false
allocates (call.Point r v x y) = true
allocates (call.East a) = false
allocates (call.North a) = false
