-- The reads, and pools that no list of them tells apart (02, S-9).
use Rattle.std.specs.Prelude.{ℕ, ◌≡◌, List, [], ◌∷◌, Bool, true, false, ◌&&◌}
use Rattle.calls.specs.declared.Call.{Call}
use Rattle.calls.specs.declared.Call.TheVariants as call
use Rattle.batch.specs.Run.{answers_of}

-- Is the call one of "copy, clear, left, right, value, east, north and same"? These write no word of a cell, and the others may.
abbrev pub is_read : Call → Bool
is_read (call.Copy r a) = true
is_read (call.Clear r) = true
is_read (call.New r a b v) = false
is_read (call.Left r a) = true
is_read (call.Right r a) = true
is_read (call.SetLeft a b) = false
is_read (call.SetRight a b) = false
is_read (call.SetValue a v) = false
is_read (call.Value a) = true
is_read (call.Same a b) = true
is_read call.Collect = false
is_read (call.Point r v x y) = false
is_read (call.East a) = true
is_read (call.North a) = true

-- Is every call of the list?
unfoldable pub are_reads : List Call → Bool
are_reads [] = true
are_reads (c ∷ cs) = is_read c && are_reads cs

-- "every list of copy, clear, left, right, value, east, north and same gives equal answers on both, each started from its pool as it was": whatever numbers of
-- registers it names, with the numbers of its refusals.
abbrev pub AnswerAlike : List ℕ → List ℕ → Type 0
AnswerAlike w v = (calls : List Call) → are_reads calls ≡ true → answers_of calls w ≡ answers_of calls v
