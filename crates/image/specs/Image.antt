-- Saved images (01, "Images"; 02, S-8): what an image holds, the image of a pool, its bytes, and how bytes are read as an image. R is the number of registers.
use Rattle.std.specs.Prelude.{ℕ, zero, suc, Bool, true, false, cond, length, eqb, leb, Ok, Err}
use mathlib.Core.List.{List, [], ◌∷◌, ◌++◌, map, flat_map}
use Rattle.leb128.specs.Leb128.{Found, encode, read_at}
use Rattle.leb128.specs.declared.NumberError.{NumberError}
use Rattle.leb128.specs.declared.NumberError.TheVariants as number
use Rattle.pool.specs.Layout.{left, right, value, is_point_at, roots_of}
use Rattle.answers.specs.declared.Refusal.{Refusal}
use Rattle.answers.specs.declared.Refusal.TheVariants as refusal
use Rattle.reversal.specs.Reached.{reached_cells}
use Rattle.pool.specs.States.{is_point_kind}
use Rattle.image.specs.declared.ImageCell.{ImageCell}
use Rattle.pool.specs.declared.Kind.{Kind}
use Rattle.image.specs.Kinds.{kind_number, kind_of, kind_numbered}

-- "An image is K, sixteen registers, then left, right, value for K cells", each of which begins with its kind: K is the number of its cells, and a cell is the
-- code's `ImageCell`.
pub record Image : Type 0 where
  pub registers : List ℕ
  pub cells : List ImageCell

-- The place of x in a list whose first place has the number `from`; 0 where x is not in the list.
unfoldable pub place_from : ℕ → List ℕ → ℕ → ℕ
place_from from [] x = 0
place_from from (y ∷ ys) x = elim (eqb x y) [ true ↦ from | false ↦ place_from (suc from) ys x ]

-- "Save numbers reached cells from 1 by first depth-first visit": the number that stands for the link x. Nil is in no order: 0.
abbrev pub number_in : List ℕ → ℕ → ℕ
number_in order x = place_from 1 order x

-- What it holds for a cell's left or right word: the number of a pair's link; a point's words "are plain numbers and no links" (02, S-8), and stay.
abbrev pub saved_word : Bool → List ℕ → ℕ → ℕ
saved_word point order x = cond point x (number_in order x)

-- What an image holds for the cell x of the words w, whose reached cells in order of first visit are `order`.
abbrev pub saved_cell : ℕ → List ℕ → List ℕ → ℕ → ImageCell
saved_cell R w order x =
    let point = is_point_at R w x in
    record { kind = kind_of point; left = saved_word point order (left R w x); right = saved_word point order (right R w x); value = value R w x }

-- The image of these words.
abbrev pub saved_image : ℕ → List ℕ → List ℕ → Image
saved_image R w order = record { registers = map (number_in order) (roots_of R w); cells = map (saved_cell R w order) order }

-- The bytes of a cell, its kind and then "left, right, value", and those of an image.
abbrev pub cell_bytes : ImageCell → List ℕ
cell_bytes c = encode (kind_number c.kind) ++ encode c.left ++ encode c.right ++ encode c.value

-- "K, sixteen registers, then left, right, value for K cells", each with its kind before them.
abbrev pub image_bytes : Image → List ℕ
image_bytes i = encode (length i.cells) ++ flat_map encode i.registers ++ flat_map cell_bytes i.cells

-- The bytes of the image of a pool of n cells.
abbrev pub image_of : ℕ → ℕ → List ℕ → List ℕ
image_of R n w = image_bytes (saved_image R w (reached_cells R n w))

-- What was read at a place of the bytes, and the place behind it; or why it is refused.
pub data Parsed (A : Type 0) : Type 0 where
  parsed : A → ℕ → Parsed A
  fault : Refusal → Parsed A

-- "number by number, the first fault deciding": one thing is read, then another behind it.
abbrev pub and_then : {A B : Type 0} → Parsed A → (A → ℕ → Parsed B) → Parsed B
and_then (parsed x next) rest = rest x next
and_then (fault why) rest = fault why

-- Why no number is there: "are all its bytes there, the first five at most? No: 6. Is it below 2^32 in five groups? No: 7."
-- "12 for a padded number, after 7 and before 9" (02, S-1).
abbrev pub refusal_of : NumberError → Refusal
refusal_of number.Missing = refusal.Truncated
refusal_of number.OutOfRange = refusal.OutOfRange
refusal_of number.Padded = refusal.Padded

-- Any number.
abbrev pub any_number : Found → Parsed ℕ
any_number (Ok n) = parsed n.value n.next
any_number (Err why) = fault (refusal_of why)

-- The number at a place of the bytes.
abbrev pub read_number : List ℕ → ℕ → Parsed ℕ
read_number bytes at = any_number (read_at bytes at)

-- A number that is refused above `most`.
abbrev pub at_most : ℕ → Refusal → Parsed ℕ → Parsed ℕ
at_most most over read = and_then read λ v next. cond (leb v most) (parsed v next) (fault over)

-- "Is K at most N? No: 9."
abbrev pub read_count : ℕ → List ℕ → Parsed ℕ
read_count n bytes = at_most n refusal.TooManyCells (read_number bytes 0)

-- "Are registers and links at most K? No: 8."
abbrev pub read_link : ℕ → List ℕ → ℕ → Parsed ℕ
read_link K bytes at = at_most K refusal.LinkRange (read_number bytes at)

-- "14 for another kind number, after 12" (02, S-8).
abbrev pub read_kind : List ℕ → ℕ → Parsed Kind
read_kind bytes at = and_then (at_most 1 refusal.KindNumber (read_number bytes at)) λ k next. parsed (kind_numbered k) next

-- The left or right number of a cell of that kind: a link of a pair, any number of a point.
abbrev pub read_word : ℕ → Kind → List ℕ → ℕ → Parsed ℕ
read_word K kind bytes at = cond (is_point_kind kind) (read_number bytes at) (read_link K bytes at)

-- Its kind and then "left, right, value": the numbers of a cell.
abbrev pub read_cell : ℕ → List ℕ → ℕ → Parsed ImageCell
read_cell K bytes at =
    and_then (read_kind bytes at) λ kind behind-kind.
    and_then (read_word K kind bytes behind-kind) λ l behind-left.
    and_then (read_word K kind bytes behind-left) λ r behind-right.
    and_then (read_number bytes behind-right) λ v behind.
    parsed (record { kind = kind; left = l; right = r; value = v }) behind

-- So many things that are read alike, one behind the other.
unfoldable pub read_each : {A : Type 0} → (ℕ → Parsed A) → ℕ → ℕ → Parsed (List A)
read_each read zero at = parsed [] at
read_each read (suc more) at = and_then (read at) λ x next. and_then (read_each read more next) λ xs end. parsed (x ∷ xs) end

-- The image at the start of the bytes, for a pool of n cells.
unfoldable pub read_image : ℕ → ℕ → List ℕ → Parsed Image
read_image R n bytes =
    and_then (read_count n bytes) λ K behind-count.
    and_then (read_each (read_link K bytes) R behind-count) λ links behind-registers.
    and_then (read_each (read_cell K bytes) K behind-registers) λ list end.
    parsed (record { registers = links; cells = list }) end
