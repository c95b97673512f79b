-- Reading one thing behind the other: what is known of what was read.
use Prim.Native.Nat.{ℕ, zero, suc, ◌<◌, ◌≤◌}
use native.Mathlib.Omega.{arith}
use mathlib.Core.Path.{◌≡◌, refl, sym, ap, ◌∙◌}
use mathlib.Core.List.{List, [], ◌∷◌, ◌++◌, map, flat_map, append_assoc}
use lib.ListN.{length, get_or, take, drop, length-append}
use lib.Seq.{take-append_seam}
use native.Mathlib.Nat.{zero-add}
use Rattle.leb128.specs.Leb128.{Between}
use Rattle.answers.specs.declared.Refusal.{Refusal}
use Rattle.image.specs.Image.{Parsed, parsed, fault, and_then, read_each}

-- Bytes that stand one behind the other; and bytes of a part.
pub between_both : {bytes : List ℕ} {at next end : ℕ} {first second : List ℕ} → Between bytes at next first → Between bytes next end second
    → Between bytes at end (first ++ second)
between_both {first = first} {second = second} a b =
    record {
      behind = omega (arith, a.behind, b.behind, length-append first second);
      from = a.from ∙ (ap (λ l. first ++ l) b.from ∙ sym (append_assoc first second _));
    }

pub between_taken : {bytes : List ℕ} {end : ℕ} {here : List ℕ} → Between bytes 0 end here → take end bytes ≡ here
between_taken {bytes} {end} {here} h =
    ap (take end) h.from ∙ (ap (λ k. take k (here ++ drop end bytes)) (h.behind ∙ zero-add (length here)) ∙ take-append_seam here (drop end bytes))

pub between_inside : {bytes : List ℕ} {end : ℕ} {here : List ℕ} → Between bytes 0 end here → end ≤ length bytes
between_inside {bytes} {end} {here} h = omega (arith, h.behind, ap length h.from, length-append here (drop end bytes))

-- What follows a thing that was read, and one that is refused.
module _ {A B : Type 0} {p : Parsed A} (rest : A → ℕ → Parsed B) where
  pub then-parsed : {x : A} {next : ℕ} → p ≡ parsed x next → and_then p rest ≡ rest x next
  then-parsed e = ap (λ (q : Parsed A). and_then q rest) e

  pub then-fault : {why : Refusal} → p ≡ fault why → and_then p rest ≡ fault why
  then-fault e = ap (λ (q : Parsed A). and_then q rest) e

-- Of two things read one behind the other, both were read.
pub record Both {A B : Type 0} (p : Parsed A) (rest : A → ℕ → Parsed B) (y : B) (end : ℕ) : Type 0 where
  pub item : A
  pub next : ℕ
  pub here : p ≡ parsed item next
  pub behind : rest item next ≡ parsed y end

pub both-parsed : {A B : Type 0} (p : Parsed A) (rest : A → ℕ → Parsed B) (y : B) (end : ℕ) → and_then p rest ≡ parsed y end → Both p rest y end
both-parsed (parsed x next) rest y end e = record { item = x; next = next; here = refl; behind = e }
both-parsed (fault why) rest y end e = let z : ◌≡◌ {A = ℕ} 0 1 = cc in absurd (omega arith)

-- Every element of a list has a property.
pub data Each {A : Type 0} (P : A → Type 0) : List A → Type 0 where
  none : Each P []
  more : {x : A} {xs : List A} → P x → Each P xs → Each P (x ∷ xs)

pub each_at : {A : Type 0} {P : A → Type 0} {xs : List A} → Each P xs → (i : ℕ) (d : A) → i < length xs → P (get_or xs i d)
each_at Each.none i d below = absurd (omega arith)
each_at (Each.more h hs) zero d below = h
each_at (Each.more h hs) (suc i) d below = each_at hs i d (omega arith)

pub each_map : {A B : Type 0} {P : B → Type 0} (f : A → B) (l : List A) → ((x : A) → P (f x)) → Each P (map f l)
each_map f [] h = Each.none
each_map f (x ∷ xs) h = Each.more (h x) (each_map f xs h)

-- A list that was read: its length, a property of what is read, and the place behind it.
module _ {A : Type 0} (read : ℕ → Parsed A) where
  -- The first element, and the others.
  pub record First (left at : ℕ) (list : List A) (end : ℕ) : Type 0 where
    pub item : A
    pub next : ℕ
    pub others : List A
    pub here : read at ≡ parsed item next
    pub rest : read_each read left next ≡ parsed others end
    pub whole : list ≡ item ∷ others

  pub each_first : (left at : ℕ) (list : List A) (end : ℕ) → read_each read (suc left) at ≡ parsed list end → First left at list end
  unfolding read_each
  each_first left at list end e =
      let first = both-parsed (read at) _ list end e in
      let rest = both-parsed (read_each read left first.next) _ list end first.behind in
      let last : parsed (first.item ∷ rest.item) rest.next ≡ parsed list end = rest.behind in
      let same : rest.next ≡ end = cc in
      record {
        item = first.item;
        next = first.next;
        others = rest.item;
        here = first.here;
        rest = rw same at rest.here;
        whole = cc;
      }

  pub each_length : (count at : ℕ) (list : List A) (end : ℕ) → read_each read count at ≡ parsed list end → length list ≡ count
  unfolding read_each
  each_length zero at list end e = let none : list ≡ [] = cc in ap length none
  each_length (suc left) at list end e =
      let f = each_first left at list end e in
      ap length f.whole ∙ ap suc (each_length left f.next f.others end f.rest)

  pub each_read : {P : A → Type 0} → ((at : ℕ) (x : A) (next : ℕ) → read at ≡ parsed x next → P x)
      → (count at : ℕ) (list : List A) (end : ℕ) → read_each read count at ≡ parsed list end → Each P list
  unfolding read_each
  each_read h zero at list end e = let empty : list ≡ [] = cc in rw empty Each.none
  each_read h (suc left) at list end e =
      let f = each_first left at list end e in
      rw f.whole (Each.more (h at f.item f.next f.here) (each_read h left f.next f.others end f.rest))

  -- Where each thing that is read is its own bytes, so is the list.
  module _ (bytes : List ℕ) (code : A → List ℕ) (own : (at : ℕ) (x : A) (next : ℕ) → read at ≡ parsed x next → Between bytes at next (code x)) where
    pub each_between : (count at : ℕ) (list : List A) (end : ℕ) → read_each read count at ≡ parsed list end → Between bytes at end (flat_map code list)
    unfolding read_each flat_map
    each_between zero at list end e =
        let empty : list ≡ [] = cc in
        let same : at ≡ end = cc in
        rw (empty, same) (record { behind = omega arith; from = refl })
    each_between (suc left) at list end e =
        let f = each_first left at list end e in
        rw f.whole (between_both (own at f.item f.next f.here) (each_between left f.next f.others end f.rest))
