-- The proofs of the statements of specs/SameFile.antt.
use Prim.Native.Nat.{ℕ, ◌*◌, ◌<◌}
use native.Mathlib.Omega.{arith}
use mathlib.Core.Path.{◌≡◌, refl, sym, ap, ap₂, ◌∙◌}
use mathlib.Core.List.{List, Memᴰ}
use mathlib.Core.Bool.{true}
use lib.ListN.{length, take, replicate, length-replicate}
use lib.Seq.{take-append_seam}
use Rattle.graph.specs.Graph.{Reach}
use Rattle.graph.specs.Compare.{OneToOne}
use Rattle.pool.specs.Layout.{register_count, cell_count_of_length, cell_count, register, cell, is_point_at, link_of}
use Rattle.pool.specs.States.{is_point}
use Rattle.pool.proofs.Every.{member-tabulate}
use Rattle.pool.proofs.Links.{link-same}
use Rattle.pool.proofs.Sizes.{cells_sized}
use Rattle.questions.proofs.Admission.{registers_there}
use Rattle.questions.proofs.WellFormed.{well_formed_read}
use Rattle.collector.specs.CollectTheorem.{SameCell, Collected}
use Rattle.collector.proofs.CollectTheorem.{collection-keeps_the_reached}
use Rattle.image.specs.Image.{image_bytes, image_of}
use Rattle.load.specs.Load.{load_of}
use Rattle.numbering.proofs.PoolNumbers.{NilOrReached}
use Rattle.save.proofs.SavedImage.{image-registers}
use Rattle.save.proofs.RoundTrip.{Accepted, save-accepted, save-then_load}
use Rattle.calls.specs.declared.Call.{Call}
use Rattle.calls.specs.Calls.{registers_of}
use Rattle.batch.specs.Run.{answers_of}
use Rattle.invariant.proofs.Standing.{Standing, each_link}
use Rattle.observation.specs.Reads.{are_reads, AnswerAlike}
use Rattle.observation.specs.SameFile.{WholePool, SameFile, SavedSameFile, LoadedAnswersAlike, CollectedAnswersAlike}
use Rattle.observation.proofs.Related.{BothFields, SameContent, Related, Needs, related_answers}
use Rattle.observation.proofs.Answers.{Alike}
use Rattle.observation.proofs.Walks.{alike-paired, alike_content}
use Rattle.observation.proofs.Images.{same-image}
use Rattle.observation.proofs.Encodings.{image-one_to_one}
use Rattle.observation.proofs.Numbers.{reach_link, one_to_one, same_numbers}

-- A whole pool stands.
standing : {n : ℕ} {w : List ℕ} → WholePool n w → Standing n w
standing {n} {w} pool =
    let size = rw pool.cells at (cells_sized register_count w (rw pool.cells pool.some)) in
    record { sized = size.0; counted = size.1; well = well_formed_read register_count n w pool.is_well_formed }

-- Pools whose links are related answer alike to every list of reads that need no more.
pub related_alike : {n m : ℕ} {w v : List ℕ} (F : ℕ → Type 0) (P : ℕ → ℕ → Type 0) → WholePool n w → WholePool m v → Related (λ k. k < register_count) F P w v
    → (calls : List Call) → are_reads calls ≡ true → ((c : Call) → Memᴰ c calls → Needs F P c) → answers_of calls w ≡ answers_of calls v
related_alike {n} {m} F P pool other rel calls reads needs =
    related_answers (λ k. k < register_count) F P n m (λ k low. low) calls reads
    (λ c mem. (
      needs c mem,
      λ there. registers_there (registers_of c) there,
    ))
    (standing pool) (standing other) rel

-- Where they are related one-to-one, with x and y, to every list.
one_to_one_alike : {n m : ℕ} {w v : List ℕ} (P : ℕ → ℕ → Type 0) → WholePool n w → WholePool m v → OneToOne P
    → Related (λ k. k < register_count) BothFields P w v → AnswerAlike w v
one_to_one_alike P pool other o rel calls reads =
    related_alike BothFields P pool other rel calls reads λ c mem.
    record { east = λ a e. (omega arith, omega arith); north = λ a e. (omega arith, omega arith); same = λ a b e. o }

pub same_file : SameFile
same_file n m w v pool other = (
  λ same.
      let one = image-one_to_one _ _ (image-registers register_count w _ ∙ sym (image-registers register_count v _)) same in
      one_to_one_alike _ pool other (one_to_one n m w v (standing pool).well (standing other).well one)
      (same_numbers n m w v (standing pool).well (standing other).well one),
  λ answers.
      let alike : Alike n m w v = record { first = standing pool; second = standing other; answers = answers } in
      ap image_bytes
      (same-image n m w v (standing pool).well (standing other).well (alike-paired n m w v alike) (alike_content n m w v alike)),
)

-- The image is what an accepted save left at the start of the output.
saved-whole : {w out : List ℕ} {size : ℕ} {bytes : List ℕ} → Accepted w out size bytes → WholePool (cell_count register_count w) w
saved-whole did = record { some = did.some; cells = refl; is_well_formed = did.is_well_formed }

saved-image : {w out : List ℕ} {size : ℕ} {bytes : List ℕ} → Accepted w out size bytes → take size bytes ≡ image_of register_count (cell_count register_count w) w
saved-image {w} {out} did = ap₂ take did.long did.written ∙ take-append_seam (image_of register_count (cell_count register_count w) w) _

pub saved-same_file : SavedSameFile
saved-same_file w v scratch scratch' out out' size size' cleared cleared' bytes bytes' saved saved' =
    let one = save-accepted w scratch out size cleared bytes saved in
    let two = save-accepted v scratch' out' size' cleared' bytes' saved' in
    rw (saved-image one, saved-image two) (same_file _ _ w v (saved-whole one) (saved-whole two))

pub loaded_answers_alike : LoadedAnswersAlike
loaded_answers_alike w scratch out size cleared bytes words word saved some few =
    let m = cell_count_of_length register_count (length words) in
    let s : List ℕ = replicate (2 * m) 0 in
    let restored = save-then_load w scratch out size cleared bytes words word saved some few in
    (saved-same_file w (load_of words bytes).1 scratch s out out size size cleared _ bytes bytes saved (restored.again s (omega (arith, length-replicate {A = ℕ} (2 * m) 0)))).0 refl

-- A collection leaves every cell that is reached as it was.
module _ {n : ℕ} {w w' kept : List ℕ} (c : Collected n w w' kept) where
  abbrev Kept : ℕ → ℕ → Type 0
  Kept x y = (x ≡ y) × NilOrReached register_count w x

  kept-one_to_one : OneToOne Kept
  kept-one_to_one =
      record {
        nil = λ x y h. (λ e. sym h.0 ∙ e, λ e. h.0 ∙ e);
        forward = λ x y z a b. sym a.0 ∙ b.0;
        backward = λ x y z a b. a.0 ∙ sym b.0;
      }

  kept_related : Related (λ k. k < register_count) BothFields Kept w w'
  kept_related =
      record {
        nil_alone = kept-one_to_one.nil;
        nil = (refl, λ some. absurd (omega arith));
        registers = λ k low. (sym (c.registers k low), Reach.root (member-tabulate register_count (λ j. register w j) k low));
        content = λ x y h hx hy. rw (← h.0) (content x (c.same x (h.1 hx)));
        links = λ x y h hx hy f positive below. rw (← h.0) (sym (linked x (c.same x (h.1 hx)) f positive below), reach_link w x (h.1 hx) f positive below);
      }
    where
      kind : (x : ℕ) → SameCell w w' x → is_point_at register_count w x ≡ is_point_at register_count w' x
      kind x same = ap is_point (sym same.state)

      field : (x : ℕ) → SameCell w w' x → (f : ℕ) → 0 < f → f < 3 → cell register_count w x f ≡ cell register_count w' x f
      field x same = each_link (λ f. cell register_count w x f ≡ cell register_count w' x f) (sym same.left) (sym same.right)

      content : (x : ℕ) → SameCell w w' x → SameContent BothFields w w' x x
      content x same = record { kind = kind x same; value = sym same.value; coordinates = λ point f both. field x same f both.0 both.1 }

      linked : (x : ℕ) → SameCell w w' x → (f : ℕ) → 0 < f → f < 3 → link_of register_count w' x f ≡ link_of register_count w x f
      linked x same f positive below = link-same register_count w' w x x f (sym (kind x same)) (sym (field x same f positive below))

pub collected_answers_alike : CollectedAnswersAlike
collected_answers_alike n w pool =
    let (kept, w', e, c) = collection-keeps_the_reached n w pool.some pool.cells pool.is_well_formed in
    let after : WholePool n w' = record { some = pool.some; cells = c.cells; is_well_formed = c.is_well_formed } in
    let alike = one_to_one_alike _ pool after (kept-one_to_one c) (kept_related c) in
    rw e (alike, (same_file n n w w' pool after).1 alike)
