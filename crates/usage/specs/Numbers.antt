-- A reader that reads two numbers (01: "A reader is laid over the image and advances number by number").
use Rattle.std.specs.Prelude.{List, ℕ}
use Rattle.leb128.specs.Leb128.{read_at}
use Rattle.reader.specs.Reading.{place_behind}
use Rattle.usage.specs.declared.numbers.Two.{Two}

-- The second is read at the place behind the first; the reader stands behind the second.
abbrev pub two_numbers : List ℕ → ℕ → Two
two_numbers bytes at =
    let first = read_at bytes at in
    let behind = place_behind first at in
    let second = read_at bytes behind in
    record { first = first; second = second; at = place_behind second behind }
