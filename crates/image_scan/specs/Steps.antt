-- The steps of a scan: what its functions answer, as what they read.
use Rattle.std.specs.Prelude.{ℕ, List, cond, length, get_or, eqb, Option, Some, None, Result, Ok, Err}
use Rattle.image.specs.Image.{Image, Parsed, parsed, fault, read_cell}
use Rattle.answers.specs.declared.Refusal.{Refusal}
use Rattle.image_scan.specs.declared.Scanned.{Scanned}

-- Of anything that was read, the place behind it; or why it is refused.
abbrev pub place_of : {A : Type 0} → Parsed A → Result ℕ Refusal
place_of (parsed x next) = Ok next
place_of (fault why) = Err why

-- The same, where nothing is said of why.
abbrev pub end_of : {A : Type 0} → Parsed A → Option ℕ
end_of (parsed x next) = Some next
end_of (fault why) = None

-- The place behind the pair at a place of the bytes, of an image of K cells, if 0, the kind of a pair, begins there, and it is not refused.
abbrev pub pair_end : ℕ → List ℕ → ℕ → Option ℕ
pair_end K bytes at = cond (eqb (get_or bytes at 0) 0) (end_of (read_cell K bytes at)) None

-- Of an image, the number of its cells and its end.
abbrev pub scan_of : Parsed Image → Result Scanned Refusal
scan_of (parsed i end) = Ok (record { cells = length i.cells; end = end })
scan_of (fault why) = Err why
