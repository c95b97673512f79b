-- Images in the form of before 02, S-8: "bytes are read in the newest form alone; an image saved before, with cells and no byte behind it, is refused".
use Rattle.std.specs.Prelude.{ℕ, ◌^◌, ◌<◌, ◌≤◌, ◌≡◌, length}
use mathlib.Core.List.{List, ◌++◌, flat_map, Memᴰ}
use Rattle.leb128.specs.Leb128.{encode}
use Rattle.answers.specs.declared.Refusal.{Refusal}
use Rattle.image.specs.Image.{fault, read_image}

-- A cell of such an image: "left, right, value" (01, "Images"), and no kind.
pub record OldCell : Type 0 where
  pub left : ℕ
  pub right : ℕ
  pub value : ℕ

-- Its bytes.
abbrev pub old_cell_bytes : OldCell → List ℕ
old_cell_bytes c = encode c.left ++ encode c.right ++ encode c.value

-- "An image is K, sixteen registers, then left, right, value for K cells" (01, "Images").
abbrev pub old_image_bytes : List ℕ → List OldCell → List ℕ
old_image_bytes registers cells = encode (length cells) ++ flat_map encode registers ++ flat_map old_cell_bytes cells

-- All of its numbers have 32 bits; nothing else is asked of them, not even that links are at most K.
pub record OldNumbers (links : List ℕ) (list : List OldCell) : Type 0 where
  pub count : length list < 2 ^ 32
  pub registers : (x : ℕ) → Memᴰ x links → x < 2 ^ 32
  pub cells : (c : OldCell) → Memᴰ c list → (c.left < 2 ^ 32) × (c.right < 2 ^ 32) × (c.value < 2 ^ 32)

-- Such an image with one cell or more, and nothing behind it, is refused for every size of pool: its numbers are read at the same places, and there are K too
-- few. (Without cells the two forms are the same.)
abbrev pub OldImageRefused : Type 0
OldImageRefused =
    (R n : ℕ) (registers : List ℕ) (cells : List OldCell) → length registers ≡ R → 1 ≤ length cells → OldNumbers registers cells
    → (why : Refusal) × (read_image R n (old_image_bytes registers cells) ≡ fault why)
