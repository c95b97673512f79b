-- Encodings are one-to-one, whatever stands behind them: numbers, lists of things that are encoded so, and images.
use Prim.Native.Nat.{ℕ, zero, suc, ◌+◌, ◌/◌, ◌%◌, ◌<◌}
use native.Mathlib.Omega.{arith}
use native.Mathlib.Decide.{dec_lt}
use mathlib.Core.Path.{◌≡◌, refl, sym, ap, ap₂, ◌∙◌}
use mathlib.Core.List.{List, [], ◌∷◌, ◌++◌, append_assoc, flat_map}
use lib.ListN.{length, get_or}
use Rattle.leb128.specs.Leb128.{groups, encode}
use Rattle.leb128.proofs.Encoding.{groups-last, groups-more}
use Rattle.image.specs.Kinds.{kind_number, kind_numbered}
use Rattle.image.proofs.Images.{kind_renumbered}
use Rattle.image.specs.Image.{Image, cell_bytes, image_bytes}

-- Two lists that begin with an encoding each begin with the same, and go on alike.
abbrev Decodable : {A : Type 0} → (A → List ℕ) → Type 0
Decodable {A} code = (x y : A) (a b : List ℕ) → code x ++ a ≡ code y ++ b → (x ≡ y) × (a ≡ b)

abbrev first_byte : List ℕ → ℕ
first_byte bytes = get_or bytes 0 0

groups_decodable : (more : ℕ) → Decodable (groups more)
unfolding groups
groups_decodable zero x y a b e = (cc, cc)
groups_decodable (suc more) x y a b e = go (groups_decodable more (x / 128) (y / 128) a b) (dec_lt x 128) (dec_lt y 128)
  where
    go : (groups more (x / 128) ++ a ≡ groups more (y / 128) ++ b → (x / 128 ≡ y / 128) × (a ≡ b)) → Dec (x < 128) → Dec (y < 128) → (x ≡ y) × (a ≡ b)
    go rest (yes low) (yes low') =
        let same : x ∷ a ≡ y ∷ b = rw (groups-last (suc more) x low, groups-last (suc more) y low') at e in (cc, cc)
    go rest (yes low) (no high) =
        let first : x ≡ y % 128 + 128 = ap first_byte (rw (groups-last (suc more) x low, groups-more more y (omega arith)) at e) in
        absurd (omega arith)
    go rest (no high) (yes low) =
        let first : x % 128 + 128 ≡ y = ap first_byte (rw (groups-more more x (omega arith), groups-last (suc more) y low) at e) in
        absurd (omega arith)
    go rest (no high) (no high') =
        let same : (x % 128 + 128) ∷ (groups more (x / 128) ++ a) ≡ (y % 128 + 128) ∷ (groups more (y / 128) ++ b) =
        rw (groups-more more x (omega arith), groups-more more y (omega arith)) at e in
        let first : x % 128 + 128 ≡ y % 128 + 128 = ap first_byte same in
        let behind : groups more (x / 128) ++ a ≡ groups more (y / 128) ++ b = cc in
        let (quotient, after) = rest behind in (omega arith, after)

encode_decodable : Decodable encode
unfolding encode
encode_decodable = groups_decodable 4

-- A list of so many things, each of which is decodable.
each_decodable : {A : Type 0} (code : A → List ℕ) → Decodable code → (xs ys : List A) → length xs ≡ length ys → (a b : List ℕ)
    → flat_map code xs ++ a ≡ flat_map code ys ++ b → (xs ≡ ys) × (a ≡ b)
unfolding flat_map
each_decodable code one [] [] e a b same = (refl, same)
each_decodable code one [] (y ∷ ys) e a b same = absurd (omega arith)
each_decodable code one (x ∷ xs) [] e a b same = absurd (omega arith)
each_decodable code one (x ∷ xs) (y ∷ ys) e a b same =
    let first = one x y (flat_map code xs ++ a) (flat_map code ys ++ b)
    (sym (append_assoc (code x) (flat_map code xs) a) ∙ (same ∙ append_assoc (code y) (flat_map code ys) b)) in
    let rest = each_decodable code one xs ys (omega arith) a b first.1 in
    (ap₂ (λ (z : _) (zs : List _). z ∷ zs) first.0 rest.0, rest.1)

cell_decodable : Decodable cell_bytes
cell_decodable c d a b e =
    let kind = encode_decodable (kind_number c.kind) (kind_number d.kind) _ _ (simp append_assoc at e) in
    let left = encode_decodable c.left d.left _ _ kind.1 in
    let right = encode_decodable c.right d.right _ _ left.1 in
    let value = encode_decodable c.value d.value _ _ right.1 in
    let same-kind = sym (kind_renumbered c.kind) ∙ ap kind_numbered kind.0 ∙ kind_renumbered d.kind in
    (λ j. record { kind = same-kind j; left = left.0 j; right = right.0 j; value = value.0 j }, value.1)

-- The bytes of two images with as many registers.
pub image-one_to_one : (i k : Image) → length i.registers ≡ length k.registers → image_bytes i ≡ image_bytes k → i ≡ k
image-one_to_one i k registers e =
    let count = encode_decodable (length i.cells) (length k.cells) _ _ (simp append_assoc at e) in
    let links = each_decodable encode encode_decodable i.registers k.registers registers _ _ count.1 in
    let cells = each_decodable cell_bytes cell_decodable i.cells k.cells count.0 [] [] (ap (λ (l : List ℕ). l ++ []) links.1) in
    λ j. record { registers = links.0 j; cells = cells.0 j }
