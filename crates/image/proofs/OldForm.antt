-- An image in the form of before has too few numbers: each number that is read takes one of those that are there.
use Prim.Native.Nat.{ℕ, zero, suc, ◌+◌, ◌*◌, ◌^◌, ◌<◌}
use native.Mathlib.Omega.{arith}
use mathlib.Core.Path.{◌≡◌, refl, sym, subst, ◌∙◌}
use mathlib.Core.Bool.{Bool, true, false, cond}
use mathlib.Core.List.{List, [], ◌∷◌, ◌++◌, append_assoc, flat_map, Memᴰ}
use lib.ListN.{length, drop}
use Rattle.leb128.specs.Leb128.{encode, read_groups, read_at}
use Rattle.answers.specs.declared.Refusal.{Refusal}
use Rattle.answers.specs.declared.Refusal.TheVariants as refusal
use Rattle.pool.specs.States.{is_point_kind}
use Rattle.image.specs.declared.ImageCell.{ImageCell}
use Rattle.pool.specs.declared.Kind.{Kind}
use Rattle.image.specs.Kinds.{kind_number}
use Rattle.image.specs.Image.{Image, Parsed, parsed, fault, read_number, read_link, read_word, read_cell, read_each, read_image}
use Rattle.image.specs.OldForm.{OldCell, old_cell_bytes, old_image_bytes, OldNumbers, OldImageRefused}
use Rattle.image.proofs.Reading.{each_first}
use Rattle.image.proofs.Images.{bounded, kind_bounded, cell-read, image-read}
use Rattle.image.proofs.Decoding.{behind, number-encoded}

-- From a place on the bytes are so many numbers, and nothing more.
data Numbers (bytes : List ℕ) : ℕ → ℕ → Type 0 where
  none : {at : ℕ} → drop at bytes ≡ [] → Numbers bytes 0 at
  more : {k at : ℕ} (v : ℕ) (after : List ℕ) → v < 2 ^ 32 → drop at bytes ≡ encode v ++ after → Numbers bytes k (at + length (encode v))
      → Numbers bytes (suc k) at

-- What is left of so many numbers after some were read.
record Left (bytes : List ℕ) (k taken next : ℕ) : Type 0 where
  rest : ℕ
  count : k ≡ taken + rest
  there : Numbers bytes rest next

module _ (bytes : List ℕ) where
  -- At the end of the bytes no number is read.
  ended : (at : ℕ) → drop at bytes ≡ [] → read_number bytes at ≡ fault refusal.Truncated
  unfolding read_at read_groups
  ended at e = rw e refl

  number_takes : {k at : ℕ} → Numbers bytes k at → (x next : ℕ) → read_number bytes at ≡ parsed x next → Left bytes k 1 next
  number_takes {at = at} (Numbers.none e) x next read =
      let never : fault refusal.Truncated ≡ parsed x next = sym (ended at e) ∙ read in
      let z : ◌≡◌ {A = ℕ} 0 1 = cc in absurd (omega arith)
  number_takes {at = at} (Numbers.more {k = k} v after fits e rest) x next read =
      let same : parsed v (at + length (encode v)) ≡ parsed x next = sym (number-encoded bytes v at after fits e) ∙ read in
      let place : at + length (encode v) ≡ next = cc in
      record { rest = k; count = omega arith; there = rw place at rest }

  -- What one reading takes, and another behind it.
  both-take : {k first second at next : ℕ} → (l : Left bytes k first at) → Left bytes l.rest second next → Left bytes k (first + second) next
  both-take a b = record { rest = b.rest; count = omega (arith, a.count, b.count); there = b.there }

  module _ (K : ℕ) where
    link_takes : {k at : ℕ} → Numbers bytes k at → (x next : ℕ) → read_link K bytes at ≡ parsed x next → Left bytes k 1 next
    link_takes {at = at} n x next read = number_takes n x next (bounded K _ (read_number bytes at) x next read).there

    word_takes : (kind : Kind) {k at : ℕ} → Numbers bytes k at → (x next : ℕ) → read_word K kind bytes at ≡ parsed x next → Left bytes k 1 next
    word_takes kind {k} {at} n x next read = go (is_point_kind kind) read
      where
        go : (t : Bool) → cond t (read_number bytes at) (read_link K bytes at) ≡ parsed x next → Left bytes k 1 next
        go true h = number_takes n x next h
        go false h = link_takes n x next h

    -- A cell takes four.
    cell_takes : {k at : ℕ} → Numbers bytes k at → (c : ImageCell) (next : ℕ) → read_cell K bytes at ≡ parsed c next → Left bytes k 4 next
    cell_takes {at = at} n c next read =
        let r = cell-read K bytes at c next read in
        let first = number_takes n (kind_number c.kind) r.left (kind_bounded bytes at c.kind r.left r.kind_there) in
        let second = word_takes c.kind first.there c.left r.right r.left_there in
        let third = word_takes c.kind second.there c.right r.value r.right_there in
        let fourth = number_takes third.there c.value next r.value_there in
        both-take first (both-take second (both-take third fourth))

  -- So many things take so many times what one takes.
  each_takes : {A : Type 0} (read : ℕ → Parsed A) (per : ℕ) → ((k at : ℕ) → Numbers bytes k at → (x : A) (next : ℕ) → read at ≡ parsed x next → Left bytes k per next)
      → (count : ℕ) {k at : ℕ} → Numbers bytes k at → (list : List A) (end : ℕ) → read_each read count at ≡ parsed list end → Left bytes k (count * per) end
  unfolding read_each
  each_takes read per takes zero {k} {at} n list end e =
      let place : at ≡ end = cc in record { rest = k; count = omega arith; there = rw place at n }
  each_takes read per takes (suc count) {k} {at} n list end e =
      let f = each_first read count at list end e in
      let first = takes k at n f.item f.next f.here in
      let others = each_takes read per takes count first.there f.others end f.rest in
      let all = both-take first others in
      record { rest = all.rest; count = all.count ∙ omega arith; there = all.there }

  -- The numbers of the cells, and of the registers before them.
  cells_there : (cells : List OldCell) → ((c : OldCell) → Memᴰ c cells → (c.left < 2 ^ 32) × (c.right < 2 ^ 32) × (c.value < 2 ^ 32))
      → (at : ℕ) → drop at bytes ≡ flat_map old_cell_bytes cells → Numbers bytes (length cells * 3) at
  unfolding flat_map
  cells_there [] fits at e = Numbers.none e
  cells_there (c ∷ cells) fits at e =
      let l = encode c.left in
      let r = encode c.right in
      let v = encode c.value in
      let more = flat_map old_cell_bytes cells in
      let small = fits c (Memᴰ.head refl) in
      let first : drop at bytes ≡ l ++ (r ++ (v ++ more)) = e ∙ simp append_assoc in
      let second = behind bytes at l (r ++ (v ++ more)) first in
      let third = behind bytes (at + length l) r (v ++ more) second in
      let rest = cells_there cells (λ d mem. fits d (Memᴰ.tail mem)) (at + length l + length r + length v) (behind bytes (at + length l + length r) v more third) in
      let count : suc (suc (suc (length cells * 3))) ≡ suc (length cells) * 3 = omega arith in
      subst (λ (k : ℕ). Numbers bytes k at) count
      (Numbers.more c.left (r ++ (v ++ more)) small.0 first (Numbers.more c.right (v ++ more) small.1 second (Numbers.more c.value more small.2 third rest)))

  registers_there : (registers : List ℕ) (cells : List OldCell) → OldNumbers registers cells → (at : ℕ)
      → drop at bytes ≡ flat_map encode registers ++ flat_map old_cell_bytes cells → Numbers bytes (length registers + length cells * 3) at
  unfolding flat_map
  registers_there [] cells old at e =
      let count : length cells * 3 ≡ 0 + length cells * 3 = omega arith in
      subst (λ (k : ℕ). Numbers bytes k at) count (cells_there cells old.cells at e)
  registers_there (x ∷ registers) cells old at e =
      let more = flat_map encode registers ++ flat_map old_cell_bytes cells in
      let first : drop at bytes ≡ encode x ++ more = e ∙ append_assoc (encode x) (flat_map encode registers) (flat_map old_cell_bytes cells) in
      let fewer : OldNumbers registers cells = record { count = old.count; registers = λ y mem. old.registers y (Memᴰ.tail mem); cells = old.cells } in
      let count : suc (length registers + length cells * 3) ≡ suc (length registers) + length cells * 3 = omega arith in
      subst (λ (k : ℕ). Numbers bytes k at) count
      (Numbers.more x more (old.registers x (Memᴰ.head refl)) first (registers_there registers cells fewer (at + length (encode x)) (behind bytes at (encode x) more first)))

pub old-image_refused : OldImageRefused
old-image_refused R n registers cells all some old = go (read_image R n bytes) refl
  where
    bytes : List ℕ
    bytes = old_image_bytes registers cells

    first : drop 0 bytes ≡ encode (length cells) ++ (flat_map encode registers ++ flat_map old_cell_bytes cells)
    first = append_assoc (encode (length cells)) (flat_map encode registers) (flat_map old_cell_bytes cells)

    there : Numbers bytes (suc (length registers + length cells * 3)) 0
    there =
        Numbers.more (length cells) (flat_map encode registers ++ flat_map old_cell_bytes cells) old.count first
        (registers_there bytes registers cells old (0 + length (encode (length cells))) (behind bytes 0 (encode (length cells)) (flat_map encode registers ++ flat_map old_cell_bytes cells) first))

    never : (i : Image) (end : ℕ) → read_image R n bytes ≡ parsed i end → ⊥
    never i end e =
        let r = image-read R n bytes i end e in
        let K = length i.cells in
        let counted = (bounded n _ (read_number bytes 0) K r.start r.counted).there in
        let same : parsed (length cells) (0 + length (encode (length cells))) ≡ parsed K r.start =
        sym (number-encoded bytes (length cells) 0 (flat_map encode registers ++ flat_map old_cell_bytes cells) old.count first) ∙ counted in
        let number : length cells ≡ K = cc in
        let one = number_takes bytes there K r.start counted in
        let links = each_takes bytes (read_link K bytes) 1 (λ k at m x next. link_takes bytes K m x next) R one.there i.registers r.behind r.registers in
        let list = each_takes bytes (read_cell K bytes) 4 (λ k at m c next. cell_takes bytes K m c next) K links.there i.cells end r.cells in
        omega (arith, number, one.count, links.count, list.count, all, some)

    go : (read : Parsed Image) → read_image R n bytes ≡ read → (why : Refusal) × (read_image R n bytes ≡ fault why)
    go (parsed i end) e = absurd (never i end e)
    go (fault why) e = (why, e)
