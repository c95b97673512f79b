-- The bytes of an image are read as the image, whatever stands behind them.
use Prim.Native.Nat.{ℕ, ◌+◌, ◌<◌, ◌≤◌, ◌^◌}
use native.Mathlib.Omega.{arith}
use mathlib.Core.Path.{◌≡◌, refl, sym, ap, ◌∙◌}
use mathlib.Core.List.{List, [], ◌∷◌, ◌++◌, append_assoc, flat_map}
use mathlib.Core.Bool.{Bool, true, false, cond}
use lib.ListN.{length, drop, length-append}
use lib.Seq.{drop-append_seam, drop-drop}
use borrow.Author.Tests.{le-leb}
use Rattle.leb128.specs.Leb128.{encode, Between}
use Rattle.leb128.proofs.Theorems.{encoding_read}
use Rattle.answers.specs.declared.Refusal.{Refusal}
use Rattle.pool.specs.States.{is_point_kind}
use Rattle.image.specs.declared.ImageCell.{ImageCell}
use Rattle.pool.specs.declared.Kind.{Kind}
use Rattle.image.specs.Kinds.{kind_number}
use Rattle.image.specs.Image.{Image, cell_bytes, image_bytes, Parsed, parsed, any_number, read_number, at_most, read_link, read_word, read_cell, read_each, read_image}
use Rattle.image.proofs.Reading.{then-parsed, Each}
use Rattle.image.proofs.Images.{kind_renumbered, kind_low, Linked, LinksWithin, cell-parsed, image-parsed}

-- The numbers of a cell have 32 bits.
pub record Fits (c : ImageCell) : Type 0 where
  pub left : c.left < 2 ^ 32
  pub right : c.right < 2 ^ 32
  pub value : c.value < 2 ^ 32

-- What stands behind bytes that stand at a place.
pub behind : (bytes : List ℕ) (at : ℕ) (here after : List ℕ) → drop at bytes ≡ here ++ after → drop (at + length here) bytes ≡ after
behind bytes at here after e = sym (drop-drop (length here) at bytes) ∙ (ap (drop (length here)) e ∙ drop-append_seam here after)

module _ (bytes : List ℕ) where
  -- An encoding at a place is read as its number.
  pub number-encoded : (v at : ℕ) (after : List ℕ) → v < 2 ^ 32 → drop at bytes ≡ encode v ++ after
      → read_number bytes at ≡ parsed v (at + length (encode v))
  number-encoded v at after fits e =
      let rest = behind bytes at (encode v) after e in
      let here : Between bytes at (at + length (encode v)) (encode v) = record { behind = refl; from = rw rest e } in
      ap any_number (encoding_read bytes at v (at + length (encode v)) fits here)

  bounded-encoded : (most : ℕ) (over : Refusal) (v at : ℕ) (after : List ℕ) → v ≤ most → v < 2 ^ 32 → drop at bytes ≡ encode v ++ after
      → at_most most over (read_number bytes at) ≡ parsed v (at + length (encode v))
  bounded-encoded most over v at after low fits e =
      ap (at_most most over) (number-encoded v at after fits e) ∙ rw (le-leb v most low)

  -- A left or right number of a cell: of a pair it is at most K.
  word-encoded : (K : ℕ) (kind : Kind) (v at : ℕ) (after : List ℕ) → (is_point_kind kind ≡ false → v ≤ K) → v < 2 ^ 32 → drop at bytes ≡ encode v ++ after
      → read_word K kind bytes at ≡ parsed v (at + length (encode v))
  word-encoded K kind v at after low fits e = go (is_point_kind kind) low
    where
      go : (t : Bool) → (t ≡ false → v ≤ K) → cond t (read_number bytes at) (read_link K bytes at) ≡ parsed v (at + length (encode v))
      go true h = number-encoded v at after fits e
      go false h = bounded-encoded K _ v at after (h refl) fits e

  -- So is a cell, and a list of things of which each one is read.
  cell-encoded : (K : ℕ) (c : ImageCell) (at : ℕ) (after : List ℕ) → Linked K c → Fits c → drop at bytes ≡ cell_bytes c ++ after
      → read_cell K bytes at ≡ parsed c (at + length (cell_bytes c))
  cell-encoded K c at after linked fits e =
      let k = encode (kind_number c.kind) in
      let l = encode c.left in
      let r = encode c.right in
      let v = encode c.value in
      let first : drop at bytes ≡ k ++ (l ++ (r ++ (v ++ after))) = e ∙ simp append_assoc in
      let second = behind bytes at k (l ++ (r ++ (v ++ after))) first in
      let third = behind bytes (at + length k) l (r ++ (v ++ after)) second in
      let fourth = behind bytes (at + length k + length l) r (v ++ after) third in
      let end : at + length k + length l + length r + length v ≡ at + length (cell_bytes c) =
      omega (arith, length-append ((k ++ l) ++ r) v, length-append (k ++ l) r, length-append k l) in
      cell-parsed K bytes c at (at + length k) (at + length k + length l) (at + length k + length l + length r) (at + length (cell_bytes c))
      (then-parsed _ (bounded-encoded 1 _ (kind_number c.kind) at (l ++ (r ++ (v ++ after))) (kind_low c.kind) (omega (arith, kind_low c.kind)) first)
      ∙ ap (λ (k : Kind). parsed k (at + length (encode (kind_number c.kind)))) (kind_renumbered c.kind))
      (word-encoded K c.kind c.left (at + length k) (r ++ (v ++ after)) linked.left-most fits.left second)
      (word-encoded K c.kind c.right (at + length k + length l) (v ++ after) linked.right-most fits.right third)
      (number-encoded c.value (at + length k + length l + length r) after fits.value fourth ∙ ap (parsed c.value) end)

  module _ {A : Type 0} (code : A → List ℕ) (read : ℕ → Parsed A) (P : A → Type 0)
      (decodes : (x : A) (at : ℕ) (after : List ℕ) → P x → drop at bytes ≡ code x ++ after → read at ≡ parsed x (at + length (code x))) where
    each_encoded : {xs : List A} → Each P xs → (at : ℕ) (after : List ℕ) → drop at bytes ≡ flat_map code xs ++ after
        → read_each read (length xs) at ≡ parsed xs (at + length (flat_map code xs))
    unfolding read_each flat_map
    each_encoded Each.none at after e = let here : at ≡ at + 0 = omega arith in ap (parsed []) here
    each_encoded (Each.more {x = x} {xs = xs} h hs) at after e =
        let first : drop at bytes ≡ code x ++ (flat_map code xs ++ after) = e ∙ append_assoc (code x) (flat_map code xs) after in
        let rest = each_encoded hs (at + length (code x)) after (behind bytes at (code x) (flat_map code xs ++ after) first) in
        let end : at + length (code x) + length (flat_map code xs) ≡ at + length (code x ++ flat_map code xs) =
        omega (arith, length-append (code x) (flat_map code xs)) in
        then-parsed _ (decodes x at (flat_map code xs ++ after) h first)
        ∙ (then-parsed (λ l next. parsed (x ∷ l) next) rest ∙ ap (parsed (x ∷ xs)) end)

-- The numbers of an image that has bytes: links within it, and all of 32 bits.
pub record Encodable (i : Image) : Type 0 where
  pub small : length i.cells < 2 ^ 32
  pub registers : Each (λ (x : ℕ). x ≤ length i.cells) i.registers
  pub cells : Each (λ (c : ImageCell). Linked (length i.cells) c × Fits c) i.cells

pub encodable_links : {i : Image} → Encodable i → LinksWithin i
encodable_links e = record { registers = e.registers; cells = firsts e.cells }
  where
    firsts : {A : Type 0} {P Q : A → Type 0} {xs : List A} → Each (λ (x : A). P x × Q x) xs → Each P xs
    firsts Each.none = Each.none
    firsts (Each.more h hs) = Each.more h.0 (firsts hs)

pub image-encoded : (R n : ℕ) (i : Image) (after : List ℕ) → length i.cells ≤ n → length i.registers ≡ R → Encodable i
    → read_image R n (image_bytes i ++ after) ≡ parsed i (length (image_bytes i))
image-encoded R n i after few all e =
    let K = length i.cells in
    let bytes = image_bytes i ++ after in
    let count = encode K in
    let links = flat_map encode i.registers in
    let list = flat_map cell_bytes i.cells in
    let first : drop 0 bytes ≡ count ++ (links ++ (list ++ after)) = simp append_assoc in
    let second = behind bytes 0 count (links ++ (list ++ after)) first in
    let third = behind bytes (0 + length count) links (list ++ after) second in
    let registers : read_each (read_link K bytes) R (0 + length count) ≡ parsed i.registers (0 + length count + length links) =
    rw (← all)
    (each_encoded bytes encode (read_link K bytes) (λ (x : ℕ). x ≤ K)
    (λ x at rest low h. bounded-encoded bytes K _ x at rest low (omega (arith, e.small)) h) e.registers (0 + length count) (list ++ after) second) in
    let cells = each_encoded bytes cell_bytes (read_cell K bytes) (λ (c : ImageCell). Linked K c × Fits c)
    (λ c at rest h there. cell-encoded bytes K c at rest h.0 h.1 there) e.cells (0 + length count + length links) after third in
    let end : 0 + length count + length links + length list ≡ length (image_bytes i) =
    omega (arith, length-append (count ++ links) list, length-append count links) in
    image-parsed R n bytes i (0 + length count) (0 + length count + length links) (length (image_bytes i))
    (bounded-encoded bytes n _ K 0 (links ++ (list ++ after)) few e.small first) registers (cells ∙ ap (parsed i.cells) end)
