-- A reader over the bytes of an image (01: "A reader is laid over the image and advances number by number").
use Rattle.std.specs.Prelude.{ℕ, Ok, Err}
use Rattle.leb128.specs.Leb128.{Found}
use Rattle.leb128.specs.declared.NumberError.TheVariants as number

-- The place behind a number that was read at `at`; where there was none, the reader stays.
abbrev pub place_behind : Found → ℕ → ℕ
place_behind (Ok number) at = number.next
place_behind (Err number.Missing) at = at
place_behind (Err number.OutOfRange) at = at
place_behind (Err number.Padded) at = at
