-- The image of a pool: its registers and cells by their places, and that it has bytes.
use Prim.Native.Nat.{ℕ, zero, suc, ◌<◌, ◌≤◌, ◌^◌}
use native.Mathlib.Omega.{arith}
use mathlib.Core.Path.{◌≡◌, refl, ap, ◌∙◌}
use mathlib.Core.Bool.{Bool, true, false, true≢false}
use mathlib.Core.List.{List, [], ◌∷◌, map}
use lib.ListN.{length, get_or, length-map}
use Rattle.pool.specs.Layout.{register, cell, is_point_at, roots_of}
use Rattle.pool.proofs.Every.{length-tabulate, get_or-tabulate}
use Rattle.pool.specs.States.{is_point_kind}
use Rattle.image.specs.Kinds.{kind_of}
use Rattle.image.specs.Image.{number_in, saved_word, saved_cell, saved_image}
use Rattle.image.proofs.Reading.{each_map}
use Rattle.image.proofs.Decoding.{Encodable}
use Rattle.load.proofs.Putting.{no_cell}
use Rattle.save.specs.RoundTrip.{Words}
use Rattle.numbering.proofs.Numbering.{number-most}

get_d_map : {A B : Type 0} (f : A → B) (l : List A) (i : ℕ) (d : B) (e : A) → i < length l → get_or (map f l) i d ≡ f (get_or l i e)
get_d_map f [] i d e below = absurd (omega arith)
get_d_map f (x ∷ xs) zero d e below = refl
get_d_map f (x ∷ xs) (suc i) d e below = get_d_map f xs i d e (omega arith)

module _ (R : ℕ) (w order : List ℕ) where
  pub image-registers : length (saved_image R w order).registers ≡ R
  image-registers = length-map (roots_of R w) (number_in order) ∙ length-tabulate R (λ k. register w k)

  pub image-cells : length (saved_image R w order).cells ≡ length order
  image-cells = length-map order (saved_cell R w order)

  pub image-register : (k : ℕ) → k < R → get_or (saved_image R w order).registers k 0 ≡ number_in order (register w k)
  image-register k low =
      get_d_map (number_in order) (roots_of R w) k 0 0 (omega (arith, length-tabulate R (λ j. register w j)))
      ∙ ap (number_in order) (get_or-tabulate R (λ j. register w j) k 0 low)

  pub image-cell : (p : ℕ) → p < length order → get_or (saved_image R w order).cells p no_cell ≡ saved_cell R w order (get_or order p 0)
  image-cell p below = get_d_map (saved_cell R w order) order p no_cell 0 below

  -- The links of pairs are within the image, and words of 32 bits have values and coordinates of 32 bits.
  pub image_encodable : Words w → length order < 2 ^ 32 → Encodable (saved_image R w order)
  unfolding cell
  image_encodable word few =
      let long = image-cells in
      record {
        small = omega arith;
        registers = each_map (number_in order) (roots_of R w) (λ x. omega (arith, number-most order x));
        cells = each_map (saved_cell R w order) order λ x. (
          record {
            left-most = λ pair. omega (arith, most (is_point_at R w x) (cell R w x 1) pair);
            right-most = λ pair. omega (arith, most (is_point_at R w x) (cell R w x 2) pair);
          },
          record { left = fits (is_point_at R w x) (cell R w x 1) (word _); right = fits (is_point_at R w x) (cell R w x 2) (word _); value = word _ },
        );
      }
    where
      most : (t : Bool) (v : ℕ) → is_point_kind (kind_of t) ≡ false → saved_word t order v ≤ length order
      most true v e = absurd (true≢false e)
      most false v e = number-most order v

      fits : (t : Bool) (v : ℕ) → v < 2 ^ 32 → saved_word t order v < 2 ^ 32
      fits true v h = h
      fits false v h = omega (arith, number-most order v)

-- A kind is found again from what it says.
pub kind-again : (t : Bool) → is_point_kind (kind_of t) ≡ t
kind-again true = refl
kind-again false = refl
