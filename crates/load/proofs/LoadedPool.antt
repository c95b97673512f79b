-- The words that load leaves, read: registers, links and values of the image, the free list, and that they are well-formed.
use Prim.Native.Nat.{ℕ, zero, suc, ◌<◌, ◌≤◌}
use native.Mathlib.Omega.{arith}
use mathlib.Core.Path.{◌≡◌, refl, sym, ◌∙◌}
use mathlib.Core.Bool.{Bool, true, false}
use mathlib.Core.List.{List}
use lib.ListN.{length, get_or}
use lib.Dec.{leb}
use borrow.Author.Tests.{le-leb, leb-true}
use Rattle.pool.specs.Layout.{pool_length, cell_count_of_length, cell_count, count, register, cell, state, is_point_at, link_of}
use Rattle.pool.specs.States.{is_used, is_point_kind}
use Rattle.pool.proofs.Links.{link-pair, link-point, retained_kind}
use Rattle.pool.specs.Retain.{free_list, free_cells, blank_words}
use Rattle.pool.proofs.Sizes.{same_count}
use Rattle.pool.proofs.Retained.{length-retain, retain-count, retain-register}
use Rattle.questions.proofs.RetainedPool.{Kept, retained_well_formed}
use Rattle.pool.proofs.RetainedPool.{retained_used, retained_same, retained_free_list}
use Rattle.questions.proofs.WellFormed.{WellFormed}
use Rattle.image.specs.Image.{Image}
use Rattle.image.proofs.Reading.{each_at}
use Rattle.image.proofs.Images.{LinksWithin}
use Rattle.load.specs.Load.{put_image, loaded_words}
use Rattle.load.proofs.Putting.{image_field, no_cell}
use Rattle.load.proofs.Loading.{Holds, image_holds}

module _ (R m : ℕ) (i : Image) (few : length i.cells ≤ m) (all : length i.registers ≡ R) (w : List ℕ) (long : pool_length R m ≤ length w) where
  abbrev K : ℕ
  K = length i.cells

  -- The words before the cells beyond K are freed.
  abbrev held : List ℕ
  held = put_image R i (blank_words R m w)

  holds : Holds R m i w held
  holds = image_holds R m i few w all (omega arith)

  room : pool_length R m ≤ length held
  room = omega (arith, holds.len)

  pub loaded-length : length (loaded_words R m i w) ≡ length w
  loaded-length = length-retain R m (λ j. leb j K) held ∙ holds.len

  pub loaded-register : (k : ℕ) → k < R → register (loaded_words R m i w) k ≡ get_or i.registers k 0
  loaded-register k low = retain-register R m (λ j. leb j K) held room k low ∙ holds.registers k low

  pub loaded-cell : (p f : ℕ) → p < length i.cells → suc f < 4 → cell R (loaded_words R m i w) (suc p) (suc f) ≡ image_field (get_or i.cells p no_cell) (suc f)
  loaded-cell p f below hf =
      retained_same R m (λ j. leb j K) held room (suc p) f (omega arith) (omega arith) hf (le-leb (suc p) K (omega arith))
      ∙ holds.cells p f below hf

  pub loaded-kind : (p : ℕ) → p < length i.cells → is_point_at R (loaded_words R m i w) (suc p) ≡ is_point_kind (get_or i.cells p no_cell).kind
  loaded-kind p below =
      retained_kind R m (λ j. leb j K) held room (suc p) (omega arith) (omega arith) (le-leb (suc p) K (omega arith)) ∙ holds.kinds p below

  pub loaded-used : (p : ℕ) → p < length i.cells → is_used (state R (loaded_words R m i w) (suc p)) ≡ true
  loaded-used p below = retained_used R m (λ j. leb j K) held room (suc p) (omega arith) (omega arith) (le-leb (suc p) K (omega arith))

  pub loaded-cells : cell_count_of_length R (length w) ≡ m → cell_count R (loaded_words R m i w) ≡ m
  unfolding count
  loaded-cells counted =
      let cells : cell_count_of_length R (length (loaded_words R m i w)) ≡ m = rw loaded-length counted in
      let first : count (loaded_words R m i w) ≡ m = retain-count R m (λ j. leb j K) held room ∙ holds.number in
      same_count R (loaded_words R m i w) (first ∙ sym cells) ∙ cells

  pub loaded-free : 1 ≤ m → free_list R m (loaded_words R m i w) ≡ free_cells (λ j. leb j (length i.cells)) m 1
  loaded-free some = retained_free_list R m (λ j. leb j K) held some room

  -- Where the links are within the image they lead to nothing but kept cells.
  pub loaded-well_formed : LinksWithin i → WellFormed R m (loaded_words R m i w)
  loaded-well_formed links =
      retained_well_formed R m (λ j. leb j K) held room
      (λ k low. rw (holds.registers k low) (kept _ (each_at links.registers k 0 (omega arith)))) (λ j low high e. link j low (leb-true j K e))
    where
      kept : (x : ℕ) → x ≤ K → Kept m (λ j. leb j K) x
      kept zero h = Kept.nil refl
      kept (suc x) h = Kept.kept (omega arith) (omega arith) (le-leb (suc x) K h)

      link : (j : ℕ) → 0 < j → j ≤ K → Kept m (λ l. leb l K) (link_of R held j 1) × Kept m (λ l. leb l K) (link_of R held j 2)
      link zero low inside = absurd (omega arith)
      link (suc p) low inside =
          let c = each_at links.cells p no_cell inside in (
            to (is_point_kind (get_or i.cells p no_cell).kind) refl 0 (omega arith) c.left-most,
            to (is_point_kind (get_or i.cells p no_cell).kind) refl 1 (omega arith) c.right-most,
          )
        where
          to : (t : Bool) → is_point_kind (get_or i.cells p no_cell).kind ≡ t → (f : ℕ) → suc f < 4
              → (is_point_kind (get_or i.cells p no_cell).kind ≡ false → image_field (get_or i.cells p no_cell) (suc f) ≤ K)
              → Kept m (λ l. leb l K) (link_of R held (suc p) (suc f))
          to true is f hf most = Kept.nil (link-point R held (suc p) (suc f) (holds.kinds p inside ∙ is))
          to false is f hf most =
              rw (link-pair R held (suc p) (suc f) (holds.kinds p inside ∙ is), holds.cells p f inside hf) (kept _ (most is))
