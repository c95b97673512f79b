-- The fields of a cell, in the pool and in the reference model: left, right and value.
use Prim.Native.Nat.{ℕ, ◌<◌, ◌≤◌}
use native.Mathlib.Omega.{arith}
use mathlib.Core.Path.{◌≡◌, refl}
use mathlib.Core.Logic.{◌↔◌}
use mathlib.Core.Bool.{Bool, true, false, cond}
use Rattle.reference.specs.Model.{Entry, entry_link}

pub data Field : Type 0 where
  left : Field
  right : Field
  value : Field

-- The number of a field in the pool's cells.
abbrev pub number : Field → ℕ
number left = 1
number right = 2
number value = 3

pub number_above : (f : Field) → 0 < number f
number_above left = omega arith
number_above right = omega arith
number_above value = omega arith

pub number-below : (f : Field) → number f < 4
number-below left = omega arith
number-below right = omega arith
number-below value = omega arith

-- A field of a cell of the reference model, and the cell with another value there.
abbrev pub get : Field → Entry → ℕ
get left e = e.left
get right e = e.right
get value e = e.value

abbrev pub put : Field → Entry → ℕ → Entry
put left e v = record { point = e.point; left = v; right = e.right; value = e.value }
put right e v = record { point = e.point; left = e.left; right = v; value = e.value }
put value e v = record { point = e.point; left = e.left; right = e.right; value = v }

pub put_point : (f : Field) (e : Entry) (v : ℕ) → (put f e v).point ≡ e.point
put_point left e v = refl
put_point right e v = refl
put_point value e v = refl

-- What a field of a pair leads to is related by P, where it is a link; the value, and every field of a point, is equal.
abbrev pub Related : Bool → (ℕ → ℕ → Type 0) → Field → ℕ → ℕ → Type 0
Related true P f x y = x ≡ y
Related false P left x y = P x y
Related false P right x y = P x y
Related false P value x y = x ≡ y

pub related_map : (point : Bool) {P Q : ℕ → ℕ → Type 0} → ((x y : ℕ) → P x y → Q x y) → (f : Field) (x y : ℕ) → Related point P f x y → Related point Q f x y
related_map true step f x y r = r
related_map false step left x y r = step x y r
related_map false step right x y r = step x y r
related_map false step value x y r = r

-- A field that is a link, and the value.
pub link_related : (P : ℕ → ℕ → Type 0) (f : Field) (x y : ℕ) → number f < 3 → P x y ↔ Related false P f x y
link_related P left x y link = (λ r. r, λ r. r)
link_related P right x y link = (λ r. r, λ r. r)
link_related P value x y link = absurd (omega arith)

pub value_related : (point : Bool) (P : ℕ → ℕ → Type 0) (x y : ℕ) → (x ≡ y) ↔ Related point P value x y
value_related true P x y = (λ r. r, λ r. r)
value_related false P x y = (λ r. r, λ r. r)

-- The links of a cell are at most k.
abbrev pub Linked : ℕ → Entry → Type 0
Linked k e = (entry_link e e.left ≤ k) × (entry_link e e.right ≤ k)

pub link-most : (point : Bool) (x k : ℕ) → (point ≡ false → x ≤ k) → cond point 0 x ≤ k
link-most true x k h = omega arith
link-most false x k h = h refl

pub put_linked : (k : ℕ) (f : Field) (e : Entry) (v : ℕ) → Linked k e → (e.point ≡ false → number f < 3 → v ≤ k) → Linked k (put f e v)
put_linked k left e v old new = (link-most e.point v k (λ pair. new pair (omega arith)), old.1)
put_linked k right e v old new = (old.0, link-most e.point v k (λ pair. new pair (omega arith)))
put_linked k value e v old new = old

-- A field after a write is related where the field written is, and every other one was.
pub put_related : (point : Bool) (P : ℕ → ℕ → Type 0) (f g : Field) (e : Entry) (u v : ℕ) (read : ℕ) → Related point P f u v
    → (number f ≡ number g → read ≡ u) → ((number f ≡ number g → ⊥) → Related point P g read (get g e)) → Related point P g read (get g (put f e v))
put_related point P left left e u v read new here there = rw (here refl) new
put_related point P left right e u v read new here there = there (λ q. omega arith)
put_related point P left value e u v read new here there = there (λ q. omega arith)
put_related point P right left e u v read new here there = there (λ q. omega arith)
put_related point P right right e u v read new here there = rw (here refl) new
put_related point P right value e u v read new here there = there (λ q. omega arith)
put_related point P value left e u v read new here there = there (λ q. omega arith)
put_related point P value right e u v read new here there = there (λ q. omega arith)
put_related point P value value e u v read new here there = rw (here refl) new
