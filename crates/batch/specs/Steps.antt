-- What the functions below `batch::run` do: no other definition rests on it.
use Rattle.std.specs.Prelude.{ℕ, ◌+◌, List, cond, length, get_or, leb, Option, None}
use Rattle.calls.specs.declared.Call.{Call}
use Rattle.batch.specs.Program.{call_numbered}

-- The entry that begins at a word of the list; unknown where fewer than five words are left.
abbrev pub entry_at : List ℕ → ℕ → Option Call
entry_at list at =
    cond (leb (at + 5) (length list))
    (call_numbered (get_or list at 0) (get_or list (at + 1) 0) (get_or list (at + 2) 0) (get_or list (at + 3) 0) (get_or list (at + 4) 0))
    None
