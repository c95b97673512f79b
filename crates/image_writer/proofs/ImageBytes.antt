-- The bytes of an image, part by part: how long they are, and how they are written one behind the other.
use Prim.Native.Nat.{ℕ, ◌+◌, ◌*◌, ◌<◌, ◌≤◌}
use native.Mathlib.Omega.{arith}
use native.Mathlib.Nat.{mul-suc}
use native.Mathlib.Numerals.{add-one}
use mathlib.Core.Path.{◌≡◌, sym, ap, ap₂, ◌∙◌}
use mathlib.Core.List.{List, [], ◌∷◌, ◌++◌, append-nil, append_assoc, map, flat_map}
use lib.ListN.{length, get_or, take, drop, length-append, length-map, drop_of_length-le}
use lib.Seq.{length-take-le, take_at, drop-append-add, drop-drop, drop-cons}
use Rattle.leb128.specs.Leb128.{encode}
use Rattle.leb128.proofs.Encoding.{encode-size}
use Rattle.pool.specs.Layout.{register, roots_of}
use Rattle.pool.proofs.Every.{length-tabulate}
use Rattle.reversal.specs.Reached.{reached_cells, reached_count}
use Rattle.image.specs.declared.ImageCell.{ImageCell}
use Rattle.image.specs.Kinds.{kind_number}
use Rattle.image.specs.Image.{number_in, saved_cell, cell_bytes, image_of}
use Rattle.image_writer.specs.Steps.{register_bytes, order_bytes, PutBytes}

-- The bytes of a list from place p on: the first element's, then those of the others; none at its end.
module _ {A : Type 0} (code : A → List ℕ) (f : ℕ → A) (l : List ℕ) (p : ℕ) where
  bytes-more : p < length l
      → flat_map code (map f (drop p l)) ≡ code (f (get_or l p 0)) ++ flat_map code (map f (drop (p + 1) l))
  unfolding flat_map
  bytes-more below = rw (add-one p) (ap (λ (m : List ℕ). flat_map code (map f m)) (drop-cons l p 0 below))

  bytes-last : length l ≤ p → flat_map code (map f (drop p l)) ≡ []
  unfolding flat_map
  bytes-last above = ap (λ (m : List ℕ). flat_map code (map f m)) (drop_of_length-le l {i = p} above)

-- No element has more than `most` bytes.
bytes_most : {A : Type 0} (code : A → List ℕ) (most : ℕ) → ((x : A) → length (code x) ≤ most) → (xs : List A)
    → length (flat_map code xs) ≤ most * length xs
unfolding flat_map
bytes_most code most h [] = omega arith
bytes_most code most h (x ∷ xs) =
    omega (arith, length-append (code x) (flat_map code xs), h x, bytes_most code most h xs, mul-suc most (length xs))

-- A cell is as long as its numbers.
pub cell-length : (c : ImageCell)
    → length (cell_bytes c) ≡ length (encode (kind_number c.kind)) + length (encode c.left) + length (encode c.right) + length (encode c.value)
cell-length c =
    let k = encode (kind_number c.kind) in
    let l = encode c.left in
    let r = encode c.right in
    let v = encode c.value in
    omega (arith, length-append ((k ++ l) ++ r) v, length-append (k ++ l) r, length-append k l)

cell-most : (c : ImageCell) → length (cell_bytes c) ≤ 20
cell-most c = omega (arith, cell-length c, encode-size (kind_number c.kind), encode-size c.left, encode-size c.right, encode-size c.value)

-- Bytes that begin with others, and what follows these.
pub record Begins (rest first more : List ℕ) : Type 0 where
  pub split : rest ≡ first ++ more

module _ (R n : ℕ) (w : List ℕ) where
  -- The registers' bytes begin with the next register's, and the cells' with the next cell's.
  pub next-register : (j v : ℕ) → j < R → v ≡ number_in (reached_cells R n w) (get_or (roots_of R w) j 0)
      → Begins (register_bytes R n w j) (encode v) (register_bytes R n w (j + 1))
  next-register j v low e =
      record {
        split =
            bytes-more encode (number_in (reached_cells R n w)) (roots_of R w) j (omega (arith, length-tabulate R (λ k. register w k)))
            ∙ ap (λ (x : ℕ). encode x ++ register_bytes R n w (j + 1)) (sym e);
      }

  pub last-register : (j : ℕ) → R ≤ j → register_bytes R n w j ≡ []
  last-register j high = bytes-last encode (number_in (reached_cells R n w)) (roots_of R w) j (omega (arith, length-tabulate R (λ k. register w k)))

  pub next-cell : (p : ℕ) (c : ImageCell) → p < reached_count R n w → c ≡ saved_cell R w (reached_cells R n w) (get_or (reached_cells R n w) p 0)
      → Begins (order_bytes R n w p) (cell_bytes c) (order_bytes R n w (p + 1))
  next-cell p c low e =
      record {
        split =
            bytes-more cell_bytes (saved_cell R w (reached_cells R n w)) (reached_cells R n w) p low
            ∙ ap (λ (x : ImageCell). cell_bytes x ++ order_bytes R n w (p + 1)) (sym e);
      }

  pub last-cell : (p : ℕ) → reached_count R n w ≤ p → order_bytes R n w p ≡ []
  last-cell p high = bytes-last cell_bytes (saved_cell R w (reached_cells R n w)) (reached_cells R n w) p high

  pub registers-most : length (register_bytes R n w 0) ≤ 5 * R
  registers-most =
      let each = bytes_most encode 5 (λ v. (encode-size v).1) (map (number_in (reached_cells R n w)) (roots_of R w)) in
      omega (arith, length-map (roots_of R w) (number_in (reached_cells R n w)), length-tabulate R (λ k. register w k))

  pub cells-most : length (order_bytes R n w 0) ≤ 20 * reached_count R n w
  cells-most =
      let each = bytes_most cell_bytes 20 cell-most (map (saved_cell R w (reached_cells R n w)) (reached_cells R n w)) in
      omega (arith, length-map (reached_cells R n w) (saved_cell R w (reached_cells R n w)))

-- The whole image, by its parts.
pub image_parts : (R n : ℕ) (w : List ℕ) (k : ℕ) → k ≡ reached_count R n w
    → encode k ++ register_bytes R n w 0 ++ order_bytes R n w 0 ≡ image_of R n w
image_parts R n w k e =
    let count : k ≡ length (map (saved_cell R w (reached_cells R n w)) (reached_cells R n w)) = e ∙ sym (length-map (reached_cells R n w) _) in
    ap (λ (x : ℕ). encode x ++ register_bytes R n w 0 ++ order_bytes R n w 0) count

pub image-length : (R n : ℕ) (w : List ℕ) (k : ℕ) → k ≡ reached_count R n w
    → length (image_of R n w) ≡ length (encode k) + length (register_bytes R n w 0) + length (order_bytes R n w 0)
image-length R n w k e =
    let head = encode k in
    let registers = register_bytes R n w 0 in
    let cells = order_bytes R n w 0 in
    sym (ap length (image_parts R n w k e)) ∙ (length-append (head ++ registers) cells ∙ ap (λ (x : ℕ). x + length cells) (length-append head registers))

-- Some bytes are written, and behind them others.
pub put_append : (a b out : List ℕ) (at next : ℕ) (after : List ℕ) (end : ℕ) (last : List ℕ) → at ≤ length out
    → PutBytes a out at next after → PutBytes b after next end last → PutBytes (a ++ b) out at end last
put_append a b out at next after end last inside p q =
    let front : length (take at out ++ a) ≡ next = omega (arith, length-append (take at out) a, length-take-le at out inside, p.0) in
    let before : take next after ≡ take at out ++ a =
    ap (take next) p.1 ∙ take_at (take at out ++ a) (drop (at + length a) out) next front in
    let far : at + length a + length b ≡ at + length (a ++ b) = omega (arith, length-append a b) in
    let behind : drop (next + length b) after ≡ drop (at + length (a ++ b)) out =
    ap (drop (next + length b)) p.1
    ∙ (ap (λ (k : ℕ). drop (k + length b) (take at out ++ a ++ drop (at + length a) out)) (sym front)
    ∙ (drop-append-add (take at out ++ a) (drop (at + length a) out) (length b)
    ∙ (drop-drop (length b) (at + length a) out ∙ ap (λ (k : ℕ). drop k out) far))) in (
      omega (arith, p.0, q.0, length-append a b),
      q.1
          ∙ ap₂ (λ (x y : List ℕ). x ++ y) (ap (λ (l : List ℕ). l ++ b) before ∙ append_assoc (take at out) a b) behind,
    )

-- The parts of an image, written to the start of the output.
pub put_image_lem : (R n : ℕ) (w : List ℕ) (k : ℕ) (out : List ℕ) (first : ℕ) (out₁ : List ℕ) (second : ℕ) (out₂ : List ℕ) (end : ℕ) (last : List ℕ)
    → k ≡ reached_count R n w → PutBytes (encode k) out 0 first out₁ → PutBytes (register_bytes R n w 0) out₁ first second out₂
    → PutBytes (order_bytes R n w 0) out₂ second end last → last ≡ image_of R n w ++ drop (length (image_of R n w)) out
put_image_lem R n w k out first out₁ second out₂ end last e p q r =
    let registers = register_bytes R n w 0 in
    let cells = order_bytes R n w 0 in
    let whole = put_append (encode k ++ registers) cells out 0 second out₂ end last (omega arith)
    (put_append (encode k) registers out 0 first out₁ second out₂ (omega arith) p q) r in
    let here : 0 + length (image_of R n w) ≡ length (image_of R n w) = omega arith in
    rw here at (rw (image_parts R n w k e) at whole.1)

-- A loop that writes `whole` from `start` on: what is done is written, and the rest is left.
pub record Writing (whole out₀ : List ℕ) (start : ℕ) (rest out : List ℕ) (at : ℕ) : Type 0 where
  pub done : List ℕ
  pub parts : done ++ rest ≡ whole
  pub put : PutBytes done out₀ start at out
  pub len : length out ≡ length out₀

module _ (whole out₀ : List ℕ) (start : ℕ) (room : start + length whole ≤ length out₀) (rest out : List ℕ) (at : ℕ)
    (t : Writing whole out₀ start rest out at) where
  -- There is room for the next bytes; once they are written, fewer are left; at the end all are written.
  pub writing_room : (e more : List ℕ) → Begins rest e more → at + length e ≤ length out
  writing_room e more b =
      omega (arith, t.put.0, t.len, ap length t.parts, length-append t.done rest, ap length b.split, length-append e more)

  pub writing_more : (e more : List ℕ) (next : ℕ) (after : List ℕ) → Begins rest e more → PutBytes e out at next after → length after ≡ length out
      → Writing whole out₀ start more after next
  writing_more e more next after b p long =
      record {
        done = t.done ++ e;
        parts = append_assoc t.done e more ∙ (ap (λ (l : List ℕ). t.done ++ l) (sym b.split) ∙ t.parts);
        put = put_append t.done e out₀ start at out next after (omega arith) t.put p;
        len = long ∙ t.len;
      }

  pub writing_last : rest ≡ [] → PutBytes whole out₀ start at out
  writing_last none =
      let all : t.done ≡ whole = sym (append-nil t.done) ∙ (ap (λ (l : List ℕ). t.done ++ l) (sym none) ∙ t.parts) in
      rw all at t.put

-- A loop that sums the sizes: the sum, and what is left, make the whole.
pub record Sizing (whole rest : List ℕ) (size : ℕ) : Type 0 where
  pub sum : size + length rest ≡ length whole

module _ (whole rest : List ℕ) (size : ℕ) (s : Sizing whole rest size) where
  pub sizing_more : (e more : List ℕ) (add : ℕ) → Begins rest e more → add ≡ length e → Sizing whole more (size + add)
  sizing_more e more add b a = record { sum = omega (arith, s.sum, ap length b.split, length-append e more) }

  pub sizing_last : rest ≡ [] → size ≡ length whole
  sizing_last none = omega (arith, s.sum, ap length none)
