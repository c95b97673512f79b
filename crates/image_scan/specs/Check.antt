-- The check of an image (01: judge): what it answers, for every bytes and N.
use Rattle.std.specs.Prelude.{ℕ, List, cond, ◌&&◌, leb, Result, Ok, Err}
use Rattle.pool.specs.Layout.{register_count, cell_limit}
use Rattle.answers.specs.declared.Refusal.{Refusal}
use Rattle.answers.specs.declared.Refusal.TheVariants as refusal
use Rattle.image.specs.Image.{Parsed, parsed, fault, Image, read_image}

-- Nothing refuses an image; else there is why.
abbrev pub verdict_of : Parsed Image → Result (Unit {0}) Refusal
verdict_of (parsed i end) = Ok tt
verdict_of (fault why) = Err why

-- "0 or the number that load would give" (the numbers are `verdict` in `answers/specs/Outcome`); "For gauge and judge: is N within limits .. No: 1."
abbrev pub check_of : List ℕ → ℕ → Result (Unit {0}) Refusal
check_of bytes n = cond (leb 1 n && leb n cell_limit) (verdict_of (read_image register_count n bytes)) (Err refusal.Size)
