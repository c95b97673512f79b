-- Images of a pair and a point, worked out by hand, with two registers for brevity.
use Rattle.std.specs.Prelude.{ℕ, ◌≡◌, List, [], ◌∷◌}
use Rattle.answers.specs.declared.Refusal.TheVariants as refusal
use Rattle.pool.specs.declared.Kind.TheVariants as kind
use Rattle.image.specs.Image.{Image, image_of, parsed, fault, read_image}

-- Register 0 holds cell 2, a pair, which leads left to itself and right to cell 1 and has the value 300; cell 1 is a point at x = 3, y = 128 with the value 7;
-- nothing leads to cell 3.
abbrev pub two_cells : List ℕ
two_cells = 3 ∷ 0 ∷ 2 ∷ 0 ∷ 5 ∷ 3 ∷ 128 ∷ 7 ∷ 0 ∷ 2 ∷ 1 ∷ 300 ∷ 0 ∷ 0 ∷ 0 ∷ 9 ∷ []

-- Cell 2 is visited first, so it is 1 in the image, and cell 1 is 2. The point's x, no link, leads to no cell, and is 3 still.
abbrev pub two_cells_image : Image
two_cells_image =
    record {
      registers = 1 ∷ 0 ∷ [];
      cells = record { kind = kind.Pair; left = 1; right = 2; value = 300 } ∷ record { kind = kind.Point; left = 3; right = 128; value = 7 } ∷ [];
    }

-- 300 takes two bytes, 172, 2 (AC 02), and so does 128: 128, 1 (80 01).
abbrev pub two_cells_bytes : List ℕ
two_cells_bytes = 2 ∷ 1 ∷ 0 ∷ 0 ∷ 1 ∷ 2 ∷ 172 ∷ 2 ∷ 1 ∷ 3 ∷ 128 ∷ 1 ∷ 7 ∷ []

-- The image of the two cells.
abbrev pub ImageExample : Type 0
ImageExample = image_of 2 3 two_cells ≡ two_cells_bytes

-- It is read back; with the last byte missing it is refused, and so is it for a pool of one cell, even if nothing follows K.
abbrev pub ReadExample : Type 0
ReadExample = read_image 2 2 two_cells_bytes ≡ parsed two_cells_image 13

-- Without its last byte.
abbrev pub TruncatedExample : Type 0
TruncatedExample = read_image 2 2 (2 ∷ 1 ∷ 0 ∷ 0 ∷ 1 ∷ 2 ∷ 172 ∷ 2 ∷ 1 ∷ 3 ∷ 128 ∷ 1 ∷ []) ≡ fault refusal.Truncated

-- For a pool of one cell.
abbrev pub TooManyCellsExample : Type 0
TooManyCellsExample = read_image 2 1 (2 ∷ []) ≡ fault refusal.TooManyCells

-- A link of K + 1 is refused, though the pool has room for more cells; the fault that comes first decides.
abbrev pub LinkRangeExample : Type 0
LinkRangeExample = read_image 2 9 (2 ∷ 3 ∷ 128 ∷ []) ≡ fault refusal.LinkRange

-- A padded number is refused as such, though it is above K too: 12 comes "after 7 and before 9" (02, S-1), and so before 8.
abbrev pub PaddedExample : Type 0
PaddedExample = read_image 2 9 (2 ∷ 0x83 ∷ 0x00 ∷ []) ≡ fault refusal.Padded

-- A kind of 2 is refused (02, S-8: "14 for another kind number, after 12"), a padded one as padded; and so it is known before the numbers behind it are read.
abbrev pub KindExample : Type 0
KindExample =
    (read_image 2 9 (1 ∷ 0 ∷ 0 ∷ 2 ∷ []) ≡ fault refusal.KindNumber) × (read_image 2 9 (1 ∷ 0 ∷ 0 ∷ 0x82 ∷ 0x00 ∷ []) ≡ fault refusal.Padded)
