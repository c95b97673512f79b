-- The scan of an image: the turns of a loop that reads a list, and what the scan and the check say.
use Prim.Native.Nat.{ℕ, suc}
use native.Mathlib.Omega.{arith}
use mathlib.Core.Path.{◌≡◌, refl, sym, ap, ◌∙◌}
use mathlib.Core.List.{List, ◌∷◌}
use Rattle.std.specs.Prelude.{Result, Ok, Err}
use lib.ListN.{length}
use Rattle.answers.specs.declared.Refusal.{Refusal}
use Rattle.image.specs.declared.ImageCell.{ImageCell}
use Rattle.image.specs.Image.{Image, Parsed, parsed, fault, and_then, read_count, read_link, read_cell, read_each, read_image}
use Rattle.image.proofs.Reading.{then-parsed, then-fault, each_length}
use Rattle.image_scan.specs.declared.Scanned.{Scanned}
use Rattle.image_scan.specs.Steps.{place_of, scan_of}

-- A scan that found an image of K cells.
abbrev pub whole : ℕ → ℕ → Result Scanned Refusal
whole K end = Ok (record { cells = K; end = end })

-- Something whose place is known was read, or refused.
pub record Placed {A : Type 0} (p : Parsed A) (next : ℕ) : Type 0 where
  pub item : A
  pub here : p ≡ parsed item next

pub placed : {A : Type 0} (p : Parsed A) (next : ℕ) → Ok next ≡ place_of p → Placed p next
placed (parsed x after) next e = let same : after ≡ next = cc in record { item = x; here = rw same }
placed (fault why) next e = let z : ◌≡◌ {A = ℕ} 0 1 = cc in absurd (omega arith)

pub refused : {A : Type 0} (p : Parsed A) (why : Refusal) → Err why ≡ place_of p → p ≡ fault why
refused (parsed x after) why e = let z : ◌≡◌ {A = ℕ} 0 1 = cc in absurd (omega arith)
refused (fault other) why e = let same : other ≡ why = cc in ap fault same

module _ {A : Type 0} (read : ℕ → Parsed A) where
  -- The place behind a list does not depend on what was read before.
  place-cons : (x : A) (p : Parsed (List A)) → place_of (and_then p λ xs end. parsed (x ∷ xs) end) ≡ place_of p
  place-cons x (parsed xs end) = refl
  place-cons x (fault why) = refl

  -- A loop over the list: what is left to read gives what the whole gives.
  abbrev pub Scanning : (count start left at : ℕ) → Type 0
  Scanning count start left at = place_of (read_each read left at) ≡ place_of (read_each read count start)

  module _ (count start left at : ℕ) (inv : Scanning count start left at) where
    pub scan_parsed : (rest next : ℕ) → left ≡ suc rest → Ok next ≡ place_of (read at) → Scanning count start rest next
    unfolding read_each
    scan_parsed rest next more e =
        let p = placed (read at) next e in
        sym (ap place_of (then-parsed _ p.here) ∙ place-cons p.item (read_each read rest next)) ∙ (rw more at inv)

    pub scan_fault : (rest : ℕ) (why : Refusal) → left ≡ suc rest → Err why ≡ place_of (read at) → Err why ≡ place_of (read_each read count start)
    unfolding read_each
    scan_fault rest why more e = sym (ap place_of (then-fault _ (refused (read at) why e))) ∙ (rw more at inv)

    pub scan_last : left ≡ 0 → Ok at ≡ place_of (read_each read count start)
    unfolding read_each
    scan_last none = rw none at inv

-- What a scan says, by the first thing that is refused.
module _ (R n : ℕ) (bytes : List ℕ) where
  pub scan_count : (why : Refusal) → read_count n bytes ≡ fault why → Err why ≡ scan_of (read_image R n bytes)
  unfolding read_image
  scan_count why e = sym (ap scan_of (then-fault _ e))

  module _ (K start : ℕ) (count : read_count n bytes ≡ parsed K start) where
    pub scan_registers_lem : (why : Refusal) → Err why ≡ place_of (read_each (read_link K bytes) R start) → Err why ≡ scan_of (read_image R n bytes)
    unfolding read_image
    scan_registers_lem why e =
        let none = refused (read_each (read_link K bytes) R start) why e in sym (ap scan_of (then-parsed _ count ∙ then-fault _ none))

    module _ (at : ℕ) (registers : Ok at ≡ place_of (read_each (read_link K bytes) R start)) where
      pub scan_cells_lem : (why : Refusal) → Err why ≡ place_of (read_each (read_cell K bytes) K at) → Err why ≡ scan_of (read_image R n bytes)
      unfolding read_image
      scan_cells_lem why e =
          let links = placed (read_each (read_link K bytes) R start) at registers in
          let none = refused (read_each (read_cell K bytes) K at) why e in
          sym (ap scan_of (then-parsed _ count ∙ (then-parsed _ links.here ∙ then-fault _ none)))

      pub scan_whole : (end : ℕ) → Ok end ≡ place_of (read_each (read_cell K bytes) K at) → whole K end ≡ scan_of (read_image R n bytes)
      unfolding read_image
      scan_whole end e =
          let links = placed (read_each (read_link K bytes) R start) at registers in
          let list = placed (read_each (read_cell K bytes) K at) end e in
          let long : length list.item ≡ K = each_length (read_cell K bytes) K at list.item end list.here in
          let rest : List ImageCell → ℕ → Parsed Image = λ l behind. parsed (record { registers = links.item; cells = l }) behind in
          ap (λ (k : ℕ). whole k end) (sym long)
          ∙ sym (ap scan_of (then-parsed _ count ∙ (then-parsed _ links.here ∙ then-parsed rest list.here)))

-- From what a scan says to the image.
pub record ScannedImage (read : Parsed Image) (K end : ℕ) : Type 0 where
  pub image : Image
  pub is_whole : read ≡ parsed image end
  pub number : length image.cells ≡ K

pub scanned : (read : Parsed Image) (K end : ℕ) → whole K end ≡ scan_of read → ScannedImage read K end
scanned (parsed i after) K end e =
    let same : ◌≡◌ {A = Scanned} (record { cells = K; end = end }) (record { cells = length i.cells; end = after }) = cc in
    record {
      image = i;
      is_whole = ap (parsed i) (sym (ap (λ (s : Scanned). s.end) same));
      number = sym (ap (λ (s : Scanned). s.cells) same);
    }
scanned (fault why) K end e = let z : ◌≡◌ {A = ℕ} 0 1 = cc in absurd (omega arith)

pub scanned_fault : (read : Parsed Image) (why : Refusal) → Err why ≡ scan_of read → read ≡ fault why
scanned_fault (parsed i end) why e = let z : ◌≡◌ {A = ℕ} 0 1 = cc in absurd (omega arith)
scanned_fault (fault other) why e = let same : other ≡ why = cc in ap fault same
