-- The proofs of the statements in `specs/Load`.
use Prim.Native.Nat.{ℕ, ◌+◌, ◌≤◌}
use native.Mathlib.Omega.{arith}
use native.Mathlib.Decide.{dec_le, dec_lt}
use mathlib.Core.Path.{◌≡◌, refl, sym}
use mathlib.Core.List.{List}
use Rattle.std.specs.Prelude.{Ok, Err}
use mathlib.Core.Bool.{Bool, true, false, cond, ◌&&◌}
use lib.ListN.{length}
use lib.Dec.{leb, ltb}
use borrow.Author.Tests.{ltb-true, le-leb, lt-leb}
use Rattle.pool.specs.Layout.{register_count, cell_limit, pool_length, leftover_limit, cell_count_of_length, cell_count}
use Rattle.questions.specs.Validity.{well_formed}
use Rattle.answers.specs.declared.Refusal.{Refusal}
use Rattle.answers.specs.declared.Refusal.TheVariants as refusal
use Rattle.pool.proofs.Sizes.{length_of, of_length, length_sized}
use Rattle.questions.proofs.WellFormed.{well_formed_made}
use Rattle.image.specs.Image.{Image, Parsed, parsed, fault, read_image}
use Rattle.image_scan.specs.Check.{verdict_of, check_of}
use Rattle.image.specs.OldForm.{old_image_bytes}
use Rattle.image.proofs.OldForm.{old-image_refused}
use Rattle.image.proofs.Images.{image-read, image-few, image-registers, image-links}
use Rattle.load.specs.Load.{load_image, load_of, CheckIsLoad, LoadIsWellFormed, OldImageNotLoaded}
use Rattle.load.proofs.LoadedPool.{loaded-cells, loaded-well_formed}

-- The check of an image answers load's number.
verdict-same : (n : ℕ) (read : Parsed Image) (bytes : ℕ) (w : List ℕ) → verdict_of read ≡ (load_image register_count n read bytes w).0.verdict
verdict-same n (parsed i end) bytes w = refl
verdict-same n (fault why) bytes w = refl

-- A length of N cells outside the limits, and e words behind them, is no pool's.
no_pool_lem : (n e : ℕ) → e ≤ leftover_limit → (1 ≤ n → n ≤ cell_limit → ⊥) → cell_count_of_length register_count (pool_length register_count n + e) ≡ 0
no_pool_lem n e few outside =
    elim (dec_lt 0 (cell_count_of_length register_count (pool_length register_count n + e))) [
      | yes some ↦
          let fits = length_of register_count (pool_length register_count n + e) some in
          let same : cell_count_of_length register_count (pool_length register_count n + e) ≡ n = omega (arith, fits.few, fits.sum) in
          absurd (outside (omega (arith, fits.least)) (omega (arith, fits.most)))
      | no none ↦ omega arith
    ]

pub check_is_load : CheckIsLoad
check_is_load n e bytes w few long = go (dec_le 1 n) (dec_le n cell_limit)
  where
    outside : (1 ≤ n → n ≤ cell_limit → ⊥) → (load_of w bytes).0.verdict ≡ Err refusal.Size
    outside out = simp (long, no_pool_lem n e few out)

    go : Dec (1 ≤ n) → Dec (n ≤ cell_limit) → check_of bytes n ≡ (load_of w bytes).0.verdict
    go (yes low) (yes high) =
        simp (of_length {R = register_count} {e = e} (record { least = low; most = high; few = few; sum = long }), le-leb 1 n low, le-leb n cell_limit high)
        (verdict-same n (read_image register_count n bytes) (length bytes) w)
    go (yes low) (no high) = simp (le-leb 1 n low, lt-leb n cell_limit (omega arith)) (sym (outside (λ a b. high b)))
    go (no low) high = simp (lt-leb 1 n (omega arith)) (sym (outside (λ a b. low a)))

-- Every accepted load leaves a well-formed pool.
pub load_is_well_formed : LoadIsWellFormed
load_is_well_formed w bytes = go (ltb 0 n) refl (read_image register_count n bytes) refl
  where
    n : ℕ
    n = cell_count_of_length register_count (length w)

    go : (t : Bool) → ltb 0 n ≡ t → (read : Parsed Image) → read_image register_count n bytes ≡ read
        → let loaded = cond t (load_image register_count n read (length bytes) w) (record { verdict = Err refusal.Size; end = length bytes }, w) in
        loaded.0.verdict ≡ Ok tt → (cell_count register_count loaded.1 ≡ n) × (well_formed register_count n loaded.1 ≡ true)
    go false none read e done = cc
    go true some (fault why) e done = cc
    go true some (parsed i end) e done =
        let r = image-read register_count n bytes i end e in
        let few = image-few register_count n bytes i end r in
        let all = image-registers register_count n bytes i end r in
        let sized = length_sized register_count (length w) (ltb-true 0 n some) in (
          loaded-cells register_count n i few all w sized.room sized.counted,
          well_formed_made register_count n _
              (loaded-well_formed register_count n i few all w sized.room (image-links register_count n bytes i end r)),
        )

pub old-image_not_loaded : OldImageNotLoaded
old-image_not_loaded w registers cells all some old = (load (ltb 0 m) refl, check)
  where
    bytes : List ℕ
    bytes = old_image_bytes registers cells

    m : ℕ
    m = cell_count_of_length register_count (length w)

    load : (t : Bool) → ltb 0 m ≡ t → (why : Refusal) × (load_of w bytes ≡ (record { verdict = Err why; end = length bytes }, w))
    load true is =
        let (why, read) = old-image_refused register_count m registers cells all some old in
        (why, rw (is, read) refl)
    load false is = (refusal.Size, rw is refl)

    check : (n : ℕ) → (why : Refusal) × (check_of bytes n ≡ Err why)
    check n = go (leb 1 n && leb n cell_limit) refl
      where
        go : (t : Bool) → (leb 1 n && leb n cell_limit) ≡ t → (why : Refusal) × (check_of bytes n ≡ Err why)
        go true is =
            let (why, read) = old-image_refused register_count n registers cells all some old in
            (why, rw (is, read) refl)
        go false is = (refusal.Size, rw is refl)
