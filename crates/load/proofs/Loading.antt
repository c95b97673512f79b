-- The words that load leaves: two lists of words that hold the same image are the same pool once its cells are retained.
use Prim.Native.Nat.{ℕ, zero, suc, ◌+◌, ◌-◌, ◌/◌, ◌%◌, ◌<◌, ◌≤◌}
use native.Mathlib.Omega.{arith}
use native.Mathlib.Decide.{dec_le, dec_lt, ℕ_discrete}
use mathlib.Core.Path.{◌≡◌, refl, sym, ap, ◌∙◌}
use mathlib.Core.List.{List, ◌++◌}
use Rattle.std.specs.Prelude.{Result, Ok, Err}
use mathlib.Core.Bool.{Bool, true, false, cond}
use lib.ListN.{length, get_or, drop, set, replicate, length-set, length-append, length-drop, length-replicate}
use lib.Seq.{get_or-set_same, get_or-set_other}
use lib.Dec.{leb, ltb}
use borrow.Author.Tests.{lt-ltb, leb-true}
use Rattle.leb128.specs.Leb128.{Bytes}
use Rattle.pool.specs.Layout.{register_count, first_register, first_cell, pool_length, cell_count_of_length, cell_at, register, set_register, cell, state, set_count, is_point_at}
use Rattle.pool.specs.States.{pair_state, point_state, is_point, is_used, is_point_kind}
use Rattle.pool.proofs.States.{pair_is, point_is, used-alike}
use Rattle.pool.specs.Retain.{blank_words, kept_field, retain}
use Rattle.answers.specs.declared.Refusal.{Refusal}
use Rattle.answers.specs.declared.Refusal.TheVariants as refusal
use Rattle.pool.proofs.Sizes.{counted_sized}
use Rattle.pool.proofs.Retained.{Elsewhere, retain_cong}
use Rattle.pool.proofs.FreshPool.{blank_length, blank_behind}
use Rattle.image_scan.specs.declared.Scanned.{Scanned}
use Rattle.image.specs.Image.{Image, Parsed, parsed, fault, read_count, read_link, read_cell, read_each, read_image}
use Rattle.image_scan.specs.Steps.{scan_of}
use Rattle.image.proofs.Reading.{between_inside}
use Rattle.image.proofs.Images.{image-read, image-few, image-registers, reads_image_bytes}
use Rattle.image_scan.proofs.Scanning.{whole, scanned, scanned_fault}
use Rattle.load.specs.declared.Loaded.{Loaded}
use Rattle.load.specs.Load.{put_fields, put_each, put_image, loaded_words, load_image, load_of}
use Rattle.pool.specs.Steps.{FirstUsed}
use Rattle.load.specs.Steps.{WhereRead}
use Rattle.load.proofs.Putting.{image_field, no_cell, cells-length, cells_at, cells_elsewhere, registers-length, registers_at, registers_elsewhere}

-- The words v hold an image for a pool of n cells: N, the registers, and the fields of its cells. Behind the cells they are the words w.
pub record Holds (R n : ℕ) (i : Image) (w v : List ℕ) : Type 0 where
  pub len : length v ≡ length w
  pub number : get_or v 0 0 ≡ n
  pub registers : (k : ℕ) → k < R → register v k ≡ get_or i.registers k 0
  pub kinds : (p : ℕ) → p < length i.cells → is_point_at R v (suc p) ≡ is_point_kind (get_or i.cells p no_cell).kind
  pub cells : (p f : ℕ) → p < length i.cells → suc f < 4 → cell R v (suc p) (suc f) ≡ image_field (get_or i.cells p no_cell) (suc f)
  pub behind : (k : ℕ) → pool_length R n ≤ k → get_or v k 0 ≡ get_or w k 0

module _ (R n : ℕ) (i : Image) (few : length i.cells ≤ n) (w : List ℕ) where
  -- Two such lists are the same pool.
  retain-same : (u v : List ℕ) → Holds R n i w u → Holds R n i w v
      → retain R n (λ j. leb j (length i.cells)) u ≡ retain R n (λ j. leb j (length i.cells)) v
  unfolding register
  retain-same u v hu hv =
      retain_cong R n (λ j. leb j (length i.cells)) (λ j. leb j (length i.cells)) u v (hu.len ∙ sym hv.len) (λ j low high. refl) stay
      (λ j f low high hf kept. field j f low hf (leb-true j (length i.cells) kept))
    where
      stay : (k : ℕ) → (k ≡ 1 → ⊥) → Elsewhere R n k → get_or u k 0 ≡ get_or v k 0
      stay k other away = go (ℕ_discrete k 0) (dec_lt k (first_cell R)) (dec_le (pool_length R n) k)
        where
          go : Dec (k ≡ 0) → Dec (k < first_cell R) → Dec (pool_length R n ≤ k) → get_or u k 0 ≡ get_or v k 0
          go (yes first) low high = rw first (hu.number ∙ sym hv.number)
          go (no later) (yes low) high =
              let place : k ≡ first_register + (k - first_register) = omega (arith, other, later) in
              rw place (hu.registers (k - first_register) (omega arith) ∙ sym (hv.registers (k - first_register) (omega arith)))
          go (no later) (no low) (yes high) = hu.behind k high ∙ sym (hv.behind k high)
          go (no later) (no low) (no high) =
              absurd (away (suc ((k - first_cell R) / 4)) ((k - first_cell R) % 4) (omega arith) (omega arith) (omega arith) (omega arith))

      field : (j f : ℕ) → 0 < j → f < 4 → j ≤ length i.cells → kept_field R u j f ≡ kept_field R v j f
      field zero f low hf inside = absurd (omega arith)
      field (suc p) zero low hf inside = used-alike _ _ (hu.kinds p inside ∙ sym (hv.kinds p inside))
      field (suc p) (suc f) low hf inside = hu.cells p f inside hf ∙ sym (hv.cells p f inside hf)

  -- What stands where once the image is put into words v.
  module _ (all : length i.registers ≡ R) (v : List ℕ) (room : pool_length R n ≤ length v) where
    pub put_length : length (put_image R i v) ≡ length v
    put_length = cells-length R 1 i.cells _ (omega arith) ∙ registers-length 0 i.registers v

    put_elsewhere : (k : ℕ) → Elsewhere R n k → ((j : ℕ) → j < R → k ≡ first_register + j → ⊥) → get_or (put_image R i v) k 0 ≡ get_or v k 0
    put_elsewhere k away apart =
        cells_elsewhere R 1 i.cells _ n k (omega arith) (omega arith) away
        ∙ registers_elsewhere 0 i.registers v k (λ j below. apart j (omega arith))

    put_register : (k : ℕ) → k < R → register (put_image R i v) k ≡ get_or i.registers k 0
    unfolding register
    put_register k low =
        let this : 0 + k ≡ k = omega arith in
        cells_elsewhere R 1 i.cells _ n (first_register + k) (omega arith) (omega arith) (λ j f hj top hf e. omega arith)
        ∙ (rw this at (registers_at 0 i.registers v k (omega arith) (omega arith)))

    put_field : (p f : ℕ) → p < length i.cells → f < 4 → cell R (put_image R i v) (suc p) f ≡ image_field (get_or i.cells p no_cell) f
    put_field p f below hf =
        let this : 1 + p ≡ suc p = omega arith in
        let long = registers-length 0 i.registers v in
        rw this at (cells_at R 1 i.cells (put_each set_register 0 i.registers v) p f (omega arith) below hf (omega arith))

    put_kind : (p : ℕ) → p < length i.cells → is_point_at R (put_image R i v) (suc p) ≡ is_point_kind (get_or i.cells p no_cell).kind
    put_kind p below = ap is_point (put_field p 0 below (omega arith)) ∙ go (is_point_kind (get_or i.cells p no_cell).kind)
      where
        go : (t : Bool) → is_point (cond t point_state pair_state) ≡ t
        go true = (point_is point_state refl).1
        go false = (pair_is pair_state refl).1

    put_used : (p : ℕ) → p < length i.cells → is_used (state R (put_image R i v) (suc p)) ≡ true
    put_used p below = ap is_used (put_field p 0 below (omega arith)) ∙ go (is_point_kind (get_or i.cells p no_cell).kind)
      where
        go : (t : Bool) → is_used (cond t point_state pair_state) ≡ true
        go true = (point_is point_state refl).0
        go false = (pair_is pair_state refl).0

    put_behind : (k : ℕ) → pool_length R n ≤ k → get_or (put_image R i v) k 0 ≡ get_or v k 0
    put_behind k high = put_elsewhere k (λ j f hj top hf e. omega arith) (λ j low e. omega arith)

  module _ (all : length i.registers ≡ R) (room : pool_length R n ≤ length w) where
    -- The words of the definition hold the image.
    pub image_holds : Holds R n i w (put_image R i (blank_words R n w))
    unfolding set_count
    image_holds =
        let long = blank_length R n w room in
        let enough : pool_length R n ≤ length (blank_words R n w) = omega arith in
        record {
          len = put_length all (blank_words R n w) enough ∙ long;
          number =
              put_elsewhere all (blank_words R n w) enough 0 (λ j f hj top hf e. omega arith) (λ j low e. omega arith)
              ∙ get_or-set_same (replicate (pool_length R n) 0 ++ drop (pool_length R n) w) 0 n 0
              (simp (length-append, length-replicate, length-drop (pool_length R n) w) (omega arith));
          registers = put_register all (blank_words R n w) enough;
          kinds = put_kind all (blank_words R n w) enough;
          cells = λ p f below hf. put_field all (blank_words R n w) enough p (suc f) below hf;
          behind = λ k high. put_behind all (blank_words R n w) enough k high ∙ blank_behind R n w room k high;
        }

    -- So do the words that load has filled, in which the cells of the image are used.
    abbrev filled : List ℕ
    filled = set (put_image R i w) 0 n

    filled_elsewhere : (p : ℕ) → 0 < p → get_or filled p 0 ≡ get_or (put_image R i w) p 0
    filled_elsewhere p some = get_or-set_other (put_image R i w) 0 p n 0 (λ e. omega arith)

    filled_cell : (p f : ℕ) → cell R filled (suc p) f ≡ cell R (put_image R i w) (suc p) f
    unfolding cell
    filled_cell p f = filled_elsewhere (cell_at R (suc p) f) (omega arith)

    pub filled_length : length filled ≡ length w
    filled_length = length-set (put_image R i w) 0 n ∙ put_length all w room

    filled_holds : Holds R n i w filled
    unfolding register
    filled_holds =
        let long = put_length all w room in
        record {
          len = filled_length;
          number = get_or-set_same (put_image R i w) 0 n 0 (omega arith);
          registers = λ k low. filled_elsewhere (first_register + k) (omega arith) ∙ put_register all w room k low;
          kinds = λ p below. ap is_point (filled_cell p 0) ∙ put_kind all w room p below;
          cells = λ p f below hf. filled_cell p (suc f) ∙ put_field all w room p (suc f) below hf;
          behind = λ k high. filled_elsewhere k (omega arith) ∙ put_behind all w room k high;
        }

    pub filled_used : FirstUsed R (length i.cells) filled
    filled_used zero low high = absurd (omega arith)
    filled_used (suc p) low high = ap is_used (filled_cell p 0) ∙ put_used all w room p high

    pub filled_loaded : retain R n (λ j. leb j (length i.cells)) filled ≡ loaded_words R n i w
    filled_loaded = retain-same filled _ filled_holds image_holds

-- The image is put where its parts are: nothing is said where K is refused.
module _ (R n : ℕ) (bytes : List ℕ) where
  pub fill_none : (why : Refusal) → read_count n bytes ≡ fault why → (i : Image) (end : ℕ) → read_image R n bytes ≡ parsed i end → ⊥
  fill_none why none i end e =
      let r = image-read R n bytes i end e in
      let never : fault why ≡ parsed (length i.cells) r.start = sym none ∙ r.counted in
      let z : ◌≡◌ {A = ℕ} 0 1 = cc in omega arith

  pub fill_made : (K start at : ℕ) (w w₁ w₂ : List ℕ) → read_count n bytes ≡ parsed K start
      → WhereRead (read_each (read_link K bytes) R start) (λ links end. (w₁ ≡ put_each set_register 0 links w) × (at ≡ end))
      → WhereRead (read_each (read_cell K bytes) K at) (λ list end. w₂ ≡ put_each (put_fields R) 1 list w₁)
      → WhereRead (read_image R n bytes) (λ i end. w₂ ≡ put_image R i w)
  fill_made K start at w w₁ w₂ count links list i end e =
      let r = image-read R n bytes i end e in
      let same : parsed (length i.cells) r.start ≡ parsed K start = sym r.counted ∙ count in
      let number : length i.cells ≡ K = cc in
      let place : r.start ≡ start = cc in
      let first = links i.registers r.behind (rw (number, place) at r.registers) in
      let here : r.behind ≡ at = sym first.1 in
      let second = list i.cells end (rw (number, here) at r.cells) in
      second ∙ ap (put_each (put_fields R) 1 i.cells) first.0

-- What load answers of words that are as many as a pool has: a refused image; a whole one.
module _ (w bytes : List ℕ) (n : ℕ) (cells : n ≡ cell_count_of_length register_count (length w)) where
  module _ (some : n ≡ 0 → ⊥) where
    load-pool : (read : Parsed Image) → read_image register_count n bytes ≡ read → load_of w bytes ≡ load_image register_count n read (length bytes) w
    load-pool read e = simp (← cells, lt-ltb 0 n (omega (arith, some)), e)

    -- Words v that are filled with an image of K cells.
    module _ (i : Image) (end : ℕ) (whole : read_image register_count n bytes ≡ parsed i end) (K : ℕ) (number : length i.cells ≡ K) (v : List ℕ)
        (put : v ≡ put_image register_count i w) where
      few : length i.cells ≤ n
      few = image-few register_count n bytes i end (image-read register_count n bytes i end whole)

      all : length i.registers ≡ register_count
      all = image-registers register_count n bytes i end (image-read register_count n bytes i end whole)

      room : pool_length register_count n ≤ length w
      room = (counted_sized register_count (length w) cells some).room

      filled_image : (K ≤ n) × (pool_length register_count n ≤ length (set v 0 n)) × FirstUsed register_count K (set v 0 n)
      filled_image =
          rw (← number, put)
          (few, omega (arith, room, filled_length register_count n i few w all room), filled_used register_count n i few w all room)

      freed_image : retain register_count n (λ j. leb j K) (set v 0 n) ≡ loaded_words register_count n i w
      freed_image = rw (← number, put) (filled_loaded register_count n i few w all room)

    module _ (s : Result Scanned Refusal) (says : s ≡ scan_of (read_image register_count n bytes)) where
      pub load-refused : (why : Refusal) → s ≡ Err why → ◌≡◌ {A = Loaded × List ℕ} (record { verdict = Err why; end = length bytes }, w) (load_of w bytes)
      load-refused why e = sym (load-pool (fault why) (scanned_fault _ why (sym e ∙ says)))

      module _ (K end : ℕ) (e : s ≡ whole K end) (v : List ℕ)
          (fill : WhereRead (read_image register_count n bytes) (λ i behind. v ≡ put_image register_count i w)) where
        pub load_filled : (K ≤ n) × (pool_length register_count n ≤ length (set v 0 n)) × FirstUsed register_count K (set v 0 n)
        load_filled =
            let i = scanned _ K end (sym e ∙ says) in
            filled_image i.image end i.is_whole K i.number v (fill i.image end i.is_whole)

        pub load-whole : (freed : List ℕ) → freed ≡ retain register_count n (λ j. leb j K) (set v 0 n)
            → ◌≡◌ {A = Loaded × List ℕ} (record { verdict = Ok tt; end = end }, freed) (load_of w bytes)
        load-whole freed free =
            let i = scanned _ K end (sym e ∙ says) in
            let words = free ∙ freed_image i.image end i.is_whole K i.number v (fill i.image end i.is_whole) in
            sym (load-pool _ i.is_whole ∙ ap (λ (l : List ℕ). (record { verdict = Ok tt; end = end }, l)) (sym words))

-- The image ends within the bytes.
pub load_end : (w bytes : List ℕ) → Bytes bytes → (load_of w bytes).0.end ≤ length bytes
load_end w bytes byte = go (ltb 0 n) (read_image register_count n bytes) refl
  where
    n : ℕ
    n = cell_count_of_length register_count (length w)

    go : (t : Bool) (read : Parsed Image) → read_image register_count n bytes ≡ read
        → (cond t (load_image register_count n read (length bytes) w) (record { verdict = Err refusal.Size; end = length bytes }, w)).0.end ≤ length bytes
    go false read e = omega arith
    go true (fault why) e = omega arith
    go true (parsed i end) e = between_inside (reads_image_bytes register_count n bytes i end byte e)
