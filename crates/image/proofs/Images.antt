-- The image at the start of the bytes: what is known of one that was read.
use Prim.Native.Nat.{ℕ, ◌≤◌}
use native.Mathlib.Omega.{arith}
use native.Mathlib.Decide.{ℕ_discrete}
use mathlib.Core.Path.{◌≡◌, refl, sym, ap, subst, ◌∙◌}
use mathlib.Core.List.{List}
use mathlib.Core.Bool.{Bool, true, false, cond}
use lib.ListN.{length}
use lib.Dec.{leb}
use borrow.Author.Tests.{leb-true}
use Rattle.std.specs.Prelude.{Ok, Err}
use Rattle.leb128.specs.Leb128.{Found, found, encode, Bytes, Between, read_at}
use Rattle.leb128.proofs.Theorems.{reads_encodings}
use Rattle.answers.specs.declared.Refusal.{Refusal}
use Rattle.answers.specs.declared.Refusal.TheVariants as refusal
use Rattle.pool.specs.States.{is_point_kind}
use Rattle.image.specs.declared.ImageCell.{ImageCell}
use Rattle.pool.specs.declared.Kind.{Kind}
use Rattle.pool.specs.declared.Kind.TheVariants as kind
use Rattle.leb128.specs.declared.NumberError.TheVariants as number
use Rattle.image.specs.Kinds.{kind_number, kind_numbered}
use Rattle.image.specs.Image.{Image, cell_bytes, image_bytes, Parsed, parsed, fault, any_number, read_number, at_most, read_count, read_link, read_kind, read_word, read_cell, read_each, read_image}
use Rattle.image.specs.OneForm.{ReadsImageBytes, OneImage}
use Rattle.image.proofs.Reading.{between_both, between_taken, then-parsed, both-parsed, Each, each_length, each_read, each_between}

-- A number that is not refused is there, and one with a bound is within it.
pub number_there : (num : Found) (v next : ℕ) → any_number num ≡ parsed v next → num ≡ found v next
number_there (Ok n) v next e = let value : n.value ≡ v = cc in let behind : n.next ≡ next = cc in rw (← value, ← behind) refl
number_there (Err number.Missing) v next e = cc
number_there (Err number.OutOfRange) v next e = cc
number_there (Err number.Padded) v next e = cc

pub record Bounded (most : ℕ) (read : Parsed ℕ) (v next : ℕ) : Type 0 where
  pub there : read ≡ parsed v next
  pub within : v ≤ most

pub bounded : (most : ℕ) (over : Refusal) (read : Parsed ℕ) (v next : ℕ) → at_most most over read ≡ parsed v next → Bounded most read v next
bounded most over (parsed u after) v next e = go (leb u most) refl e
  where
    go : (t : Bool) → leb u most ≡ t → cond t (parsed u after) (fault over) ≡ parsed v next → Bounded most (parsed u after) v next
    go true h e = let same : u ≡ v = cc in record { there = e; within = omega (arith, leb-true u most h) }
    go false h e = let z : ◌≡◌ {A = ℕ} 0 1 = cc in absurd (omega arith)
bounded most over (fault why) v next e = let z : ◌≡◌ {A = ℕ} 0 1 = cc in absurd (omega arith)

pub count-few : (n : ℕ) (bytes : List ℕ) (K next : ℕ) → read_count n bytes ≡ parsed K next → K ≤ n
count-few n bytes K next e = (bounded n _ (read_number bytes 0) K next e).within

-- The number of a kind that was read is what was read, and a kind is that of its number.
numbered_again : (k : ℕ) → k ≤ 1 → kind_number (kind_numbered k) ≡ k
numbered_again k low =
    elim (ℕ_discrete k 1) [
      | yes e ↦ rw e refl
      | no e ↦ let none : k ≡ 0 = omega (arith, e) in rw none refl
    ]

pub kind_renumbered : (k : Kind) → kind_numbered (kind_number k) ≡ k
kind_renumbered kind.Pair = refl
kind_renumbered kind.Point = refl

pub kind_low : (k : Kind) → kind_number k ≤ 1
kind_low kind.Pair = omega arith
kind_low kind.Point = omega arith

pub kind_bounded : (bytes : List ℕ) (at : ℕ) (k : Kind) (next : ℕ) → read_kind bytes at ≡ parsed k next → read_number bytes at ≡ parsed (kind_number k) next
kind_bounded bytes at k next e =
    let n = both-parsed (at_most 1 refusal.KindNumber (read_number bytes at)) _ k next e in
    let b = bounded 1 _ (read_number bytes at) n.item n.next n.here in
    let last : ◌≡◌ {A = Parsed Kind} (parsed (kind_numbered n.item) n.next) (parsed k next) = n.behind in
    let same : kind_numbered n.item ≡ k = cc in
    let behind : n.next ≡ next = cc in
    let number : n.item ≡ kind_number k = sym (numbered_again n.item b.within) ∙ ap kind_number same in
    rw (number, behind) at b.there

-- The links of a pair are at most K.
pub record Linked (K : ℕ) (c : ImageCell) : Type 0 where
  pub left-most : is_point_kind c.kind ≡ false → c.left ≤ K
  pub right-most : is_point_kind c.kind ≡ false → c.right ≤ K

module _ (K : ℕ) (bytes : List ℕ) where
  link-within : (at x next : ℕ) → read_link K bytes at ≡ parsed x next → x ≤ K
  link-within at x next e = (bounded K _ (read_number bytes at) x next e).within

  word-within : (kind : Kind) (at x next : ℕ) → read_word K kind bytes at ≡ parsed x next → is_point_kind kind ≡ false → x ≤ K
  word-within kind at x next e pair = link-within at x next (rw pair at e)

  pub word_there : (kind : Kind) (at x next : ℕ) → read_word K kind bytes at ≡ parsed x next → read_number bytes at ≡ parsed x next
  word_there kind at x next e = go (is_point_kind kind) e
    where
      go : (t : Bool) → cond t (read_number bytes at) (read_link K bytes at) ≡ parsed x next → read_number bytes at ≡ parsed x next
      go true h = h
      go false h = (bounded K _ (read_number bytes at) x next h).there

  -- The numbers of a cell that was read.
  pub record CellRead (at : ℕ) (c : ImageCell) (next : ℕ) : Type 0 where
    pub left : ℕ
    pub right : ℕ
    pub value : ℕ
    pub kind_there : read_kind bytes at ≡ parsed c.kind left
    pub left_there : read_word K c.kind bytes left ≡ parsed c.left right
    pub right_there : read_word K c.kind bytes right ≡ parsed c.right value
    pub value_there : read_number bytes value ≡ parsed c.value next

  pub cell-read : (at : ℕ) (c : ImageCell) (next : ℕ) → read_cell K bytes at ≡ parsed c next → CellRead at c next
  cell-read at c next e =
      let k = both-parsed (read_kind bytes at) _ c next e in
      let l = both-parsed (read_word K k.item bytes k.next) _ c next k.behind in
      let r = both-parsed (read_word K k.item bytes l.next) _ c next l.behind in
      let v = both-parsed (read_number bytes r.next) _ c next r.behind in
      let read : ImageCell = record { kind = k.item; left = l.item; right = r.item; value = v.item } in
      let last : parsed read v.next ≡ parsed c next = v.behind in
      let same : read ≡ c = cc in
      let ends : v.next ≡ next = cc in
      subst (λ (x : ImageCell). CellRead at x next) same
      (subst (CellRead at read) ends
      (record {
        left = k.next;
        right = l.next;
        value = r.next;
        kind_there = k.here;
        left_there = l.here;
        right_there = r.here;
        value_there = v.here;
      }))

  cell-linked : (at : ℕ) (c : ImageCell) (next : ℕ) → read_cell K bytes at ≡ parsed c next → Linked K c
  cell-linked at c next e =
      let r = cell-read at c next e in
      record {
        left-most = word-within c.kind r.left c.left r.right r.left_there;
        right-most = word-within c.kind r.right c.right r.value r.right_there;
      }

  pub cell-parsed : (c : ImageCell) (at left right value end : ℕ) → read_kind bytes at ≡ parsed c.kind left
      → read_word K c.kind bytes left ≡ parsed c.left right → read_word K c.kind bytes right ≡ parsed c.right value
      → read_number bytes value ≡ parsed c.value end → read_cell K bytes at ≡ parsed c end
  cell-parsed c at left right value end k l r v =
      then-parsed _ k
      ∙ (then-parsed _ l
      ∙ (then-parsed _ r ∙ then-parsed (λ x next. parsed (record { kind = c.kind; left = c.left; right = c.right; value = x }) next) v))

  -- Each number is its encoding.
  module _ (byte : Bytes bytes) where
    number_between : (at x next : ℕ) → read_number bytes at ≡ parsed x next → Between bytes at next (encode x)
    number_between at x next e = ((reads_encodings bytes at x next byte).0 (number_there (read_at bytes at) x next e)).1

    link_between : (at x next : ℕ) → read_link K bytes at ≡ parsed x next → Between bytes at next (encode x)
    link_between at x next e = number_between at x next (bounded K _ (read_number bytes at) x next e).there

    word_between : (kind : Kind) (at x next : ℕ) → read_word K kind bytes at ≡ parsed x next → Between bytes at next (encode x)
    word_between kind at x next e = number_between at x next (word_there kind at x next e)

    cell_between : (at : ℕ) (c : ImageCell) (next : ℕ) → read_cell K bytes at ≡ parsed c next → Between bytes at next (cell_bytes c)
    cell_between at c next e =
        let r = cell-read at c next e in
        between_both
        (between_both
        (between_both (number_between at (kind_number c.kind) r.left (kind_bounded bytes at c.kind r.left r.kind_there))
        (word_between c.kind r.left c.left r.right r.left_there))
        (word_between c.kind r.right c.right r.value r.right_there))
        (number_between r.value c.value next r.value_there)

-- The links of an image, those of its registers too, are at most the number of its cells.
pub record LinksWithin (i : Image) : Type 0 where
  pub registers : Each (λ (x : ℕ). x ≤ length i.cells) i.registers
  pub cells : Each (Linked (length i.cells)) i.cells

-- An image that was read: its number of cells, its registers, its cells.
pub record ImageRead (R n : ℕ) (bytes : List ℕ) (i : Image) (end : ℕ) : Type 0 where
  pub start : ℕ
  pub behind : ℕ
  pub counted : read_count n bytes ≡ parsed (length i.cells) start
  pub registers : read_each (read_link (length i.cells) bytes) R start ≡ parsed i.registers behind
  pub cells : read_each (read_cell (length i.cells) bytes) (length i.cells) behind ≡ parsed i.cells end

module _ (R n : ℕ) (bytes : List ℕ) where
  image_made : (K start : ℕ) (links : List ℕ) (behind : ℕ) (list : List ImageCell) (end : ℕ) → read_count n bytes ≡ parsed K start
      → read_each (read_link K bytes) R start ≡ parsed links behind → read_each (read_cell K bytes) K behind ≡ parsed list end
      → ImageRead R n bytes (record { registers = links; cells = list }) end
  image_made K start links behind list end count registers cells =
      let long : length list ≡ K = each_length (read_cell K bytes) K behind list end cells in
      record { start = start; behind = behind; counted = rw long count; registers = rw long registers; cells = rw long cells }

  pub image-read : (i : Image) (end : ℕ) → read_image R n bytes ≡ parsed i end → ImageRead R n bytes i end
  unfolding read_image
  image-read i end e =
      let count = both-parsed (read_count n bytes) _ i end e in
      let links = both-parsed (read_each (read_link count.item bytes) R count.next) _ i end count.behind in
      let list = both-parsed (read_each (read_cell count.item bytes) count.item links.next) _ i end links.behind in
      let made = image_made count.item count.next links.item links.next list.item list.next count.here links.here list.here in
      let last : parsed (record { registers = links.item; cells = list.item }) list.next ≡ parsed i end = list.behind in
      let same : record { registers = links.item; cells = list.item } ≡ i = cc in
      let ends : list.next ≡ end = cc in
      subst (λ (x : Image). ImageRead R n bytes x end) same (subst (ImageRead R n bytes (record { registers = links.item; cells = list.item })) ends made)

  pub image-parsed : (i : Image) (start behind end : ℕ) → read_count n bytes ≡ parsed (length i.cells) start
      → read_each (read_link (length i.cells) bytes) R start ≡ parsed i.registers behind
      → read_each (read_cell (length i.cells) bytes) (length i.cells) behind ≡ parsed i.cells end → read_image R n bytes ≡ parsed i end
  unfolding read_image
  image-parsed i start behind end count links list =
      then-parsed _ count
      ∙ (then-parsed _ links ∙ then-parsed (λ l next. parsed (record { registers = i.registers; cells = l }) next) list)

  module _ (i : Image) (end : ℕ) (r : ImageRead R n bytes i end) where
    abbrev K : ℕ
    K = length i.cells

    pub image-few : length i.cells ≤ n
    image-few = count-few n bytes K r.start r.counted

    pub image-registers : length i.registers ≡ R
    image-registers = each_length (read_link K bytes) R r.start i.registers r.behind r.registers

    pub image-links : LinksWithin i
    image-links =
        record {
          registers = each_read (read_link K bytes) (link-within K bytes) R r.start i.registers r.behind r.registers;
          cells = each_read (read_cell K bytes) (cell-linked K bytes) K r.behind i.cells end r.cells;
        }

    image_between : Bytes bytes → Between bytes 0 end (image_bytes i)
    image_between byte =
        between_both
        (between_both (number_between K bytes byte 0 K r.start (bounded n _ (read_number bytes 0) K r.start r.counted).there)
        (each_between (read_link K bytes) bytes encode (link_between K bytes byte) R r.start i.registers r.behind r.registers))
        (each_between (read_cell K bytes) bytes cell_bytes (cell_between K bytes byte) K r.behind i.cells end r.cells)

-- The bytes of an image that was read are those of its numbers.
pub reads_image_bytes : ReadsImageBytes
reads_image_bytes R n bytes i end byte e = image_between R n bytes i end (image-read R n bytes i end e) byte

pub one-image : OneImage
one-image R n m bytes other i end end' byte byte' e e' =
    between_taken (reads_image_bytes R n bytes i end byte e) ∙ sym (between_taken (reads_image_bytes R m other i end' byte' e'))
