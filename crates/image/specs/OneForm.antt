-- One plan makes one file (02, S-1): what is proved of the bytes of an image that is accepted.
use Rattle.std.specs.Prelude.{ℕ, ◌≡◌, List, take}
use Rattle.leb128.specs.Leb128.{Bytes, Between}
use Rattle.image.specs.Image.{Image, image_bytes, parsed, read_image}

-- The bytes of an accepted image, up to its end, are the encoding of its numbers: "A number whose last group is 0 is from now on accepted only if it
-- is the single byte 00."
abbrev pub ReadsImageBytes : Type 0
ReadsImageBytes =
    (R n : ℕ) (bytes : List ℕ) (i : Image) (end : ℕ) → Bytes bytes → read_image R n bytes ≡ parsed i end → Between bytes 0 end (image_bytes i)

-- So two byte strings that are accepted with the same numbers, each for a pool of its own size, have the same image bytes.
abbrev pub OneImage : Type 0
OneImage =
    (R n m : ℕ) (bytes other : List ℕ) (i : Image) (end end' : ℕ) → Bytes bytes → Bytes other → read_image R n bytes ≡ parsed i end
    → read_image R m other ≡ parsed i end' → take end bytes ≡ take end' other
