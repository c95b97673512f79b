-- The proofs of the statements in `specs/RoundTrip`.
use Prim.Native.Nat.{ℕ, zero, suc, ◌*◌, ◌<◌, ◌≤◌}
use native.Mathlib.Omega.{arith}
use mathlib.Core.Path.{◌≡◌, refl, sym, ap, ap₂, ◌∙◌}
use mathlib.Core.List.{List, [], ◌∷◌, ◌++◌}
use mathlib.Core.Bool.{Bool, true, false}
use lib.ListN.{length, get_or, take, drop}
use lib.Dec.{leb, ltb}
use lib.Seq.{drop-append_seam, ext_get_or}
use borrow.Author.Tests.{lt-ltb, le-leb, ltb-true, leb-true}
use Rattle.std.specs.Prelude.{Ok}
use Rattle.graph.specs.Theorems.{Distinct}
use Rattle.graph.proofs.Theorems.{preorder-distinct, preorder-length, preorder-reached}
use Rattle.graph.proofs.Lists.{get_or-member}
use Rattle.pool.specs.Words.{tabulate}
use Rattle.pool.specs.Layout.{register_count, cell_limit, pool_length, cell_count_of_length, cell_count, cell, state, is_point_at, graph_of, roots_of}
use Rattle.pool.specs.States.{is_used, is_point_kind}
use Rattle.pool.proofs.States.{same-state}
use Rattle.questions.specs.Validity.{well_formed}
use Rattle.pool.specs.Retain.{free_cells}
use Rattle.answers.specs.Outcome.{Outcome, answered, status, given}
use Rattle.pool.proofs.Every.{length-tabulate, get_or-tabulate, tabulate-member}
use Rattle.pool.proofs.Sizes.{Sized, length_sized, cells_sized}
use Rattle.questions.proofs.WellFormed.{WellFormed, well_formed_read, well_formed_made}
use Rattle.questions.proofs.PoolGraph.{reached-used, pool-within}
use Rattle.reversal.specs.Reached.{reached_cells, reached_count}
use Rattle.image.specs.declared.ImageCell.{ImageCell}
use Rattle.pool.specs.declared.Kind.{Kind}
use Rattle.pool.specs.declared.Kind.TheVariants as kind
use Rattle.image.specs.Kinds.{kind_of}
use Rattle.image.specs.Image.{number_in, saved_word, Image, saved_cell, saved_image, image_bytes, image_of, parsed, read_image}
use Rattle.image.proofs.Reading.{between_taken, each_at}
use Rattle.image.proofs.Images as images
use Rattle.image.proofs.Decoding.{Encodable, encodable_links, image-encoded}
use Rattle.load.specs.declared.Loaded.{Loaded}
use Rattle.load.specs.Load.{loaded_words, load_of}
use Rattle.load.proofs.Putting.{image_field, no_cell}
use Rattle.load.proofs.LoadedPool.{loaded-register, loaded-cell, loaded-kind, loaded-used, loaded-cells, loaded-free, loaded-well_formed}
use Rattle.save.specs.Save.{save_image, save_of}
use Rattle.save.specs.RoundTrip.{Words, Renumbered, Restored, SaveThenLoad, LoadThenSave}
use Rattle.numbering.proofs.Numbering.{place_none, number_at}
use Rattle.save.proofs.SavedImage.{image-registers, image-cells, image-register, image-cell, image_encodable}
use Rattle.save.proofs.Renumbering as renumbering

-- Save of loaded words whose cells are visited as 1, 2, .. makes the image that was loaded.
module _ (R m : ℕ) (i : Image) (few : length i.cells ≤ m) (all : length i.registers ≡ R) (links : images.LinksWithin i) (words : List ℕ)
    (long : pool_length R m ≤ length words) (visited : reached_cells R m (loaded_words R m i words) ≡ tabulate (length i.cells) suc) where
  abbrev K : ℕ
  K = length i.cells

  abbrev pool : List ℕ
  pool = loaded_words R m i words

  abbrev order : List ℕ
  order = tabulate K suc

  counted : Distinct order
  counted =
      rw visited at (preorder-distinct m (graph_of R pool) (roots_of R pool) (pool-within (loaded-well_formed R m i few all words long links)))

  -- Each cell's number is its own.
  own_number : (x : ℕ) → x ≤ K → number_in order x ≡ x
  own_number zero h = place_none 1 order 0 (λ mem. omega (arith, (tabulate-member K suc 0 mem).2))
  own_number (suc p) h = sym (ap (number_in order) (get_or-tabulate K suc p 0 h)) ∙ number_at counted p (omega (arith, length-tabulate K suc))

  same-registers : (saved_image R pool order).registers ≡ i.registers
  same-registers =
      ext_get_or 0 (saved_image R pool order).registers i.registers (image-registers R pool order ∙ sym all) λ k below.
      let low : k < R = omega (arith, image-registers R pool order) in
      let here = loaded-register R m i few all words long k low in
      image-register R pool order k low ∙ (ap (number_in order) here ∙ own_number _ (each_at links.registers k 0 (omega arith)))

  same-cell : (p : ℕ) → p < K → saved_cell R pool order (suc p) ≡ get_or i.cells p no_cell
  same-cell p below = λ j. record { kind = k j; left = l j; right = r j; value = field 2 below (omega arith) j }
    where
      c : ImageCell
      c = get_or i.cells p no_cell

      linked : images.Linked K c
      linked = each_at links.cells p no_cell below

      same-kind : is_point_at R pool (suc p) ≡ is_point_kind c.kind
      same-kind = loaded-kind R m i few all words long p below

      field : (f : ℕ) → p < K → suc f < 4 → cell R pool (suc p) (suc f) ≡ image_field c (suc f)
      field = loaded-cell R m i few all words long p

      again : (k : Kind) → kind_of (is_point_kind k) ≡ k
      again kind.Pair = refl
      again kind.Point = refl

      k : kind_of (is_point_at R pool (suc p)) ≡ c.kind
      k = ap kind_of same-kind ∙ again c.kind

      word : (f : ℕ) → suc f < 4 → (is_point_kind c.kind ≡ false → image_field c (suc f) ≤ K)
          → saved_word (is_point_at R pool (suc p)) order (cell R pool (suc p) (suc f)) ≡ image_field c (suc f)
      word f hf most = ap₂ (λ (t : Bool) (x : ℕ). saved_word t order x) same-kind (field f below hf) ∙ go (is_point_kind c.kind) most
        where
          go : (t : Bool) → (t ≡ false → image_field c (suc f) ≤ K) → saved_word t order (image_field c (suc f)) ≡ image_field c (suc f)
          go true h = refl
          go false h = own_number _ (h refl)

      l : saved_word (is_point_at R pool (suc p)) order (cell R pool (suc p) 1) ≡ c.left
      l = word 0 (omega arith) linked.left-most

      r : saved_word (is_point_at R pool (suc p)) order (cell R pool (suc p) 2) ≡ c.right
      r = word 1 (omega arith) linked.right-most

  same-cells : (saved_image R pool order).cells ≡ i.cells
  same-cells =
      let long : length (saved_image R pool order).cells ≡ K = image-cells R pool order ∙ length-tabulate K suc in
      ext_get_or no_cell (saved_image R pool order).cells i.cells long λ p below.
      let low : p < K = omega arith in
      image-cell R pool order p (omega (arith, length-tabulate K suc))
      ∙ (ap (saved_cell R pool order) (get_or-tabulate K suc p 0 low) ∙ same-cell p low)

  pub saved-again : image_of R m pool ≡ image_bytes i
  saved-again =
      let same : saved_image R pool order ≡ i = λ j. record { registers = same-registers j; cells = same-cells j } in
      ap (λ (l : List ℕ). image_bytes (saved_image R pool l)) visited ∙ ap image_bytes same

-- Save of the words loaded from an image that was read.
saved-loaded : (words bytes : List ℕ) (i : Image) (end : ℕ)
    → let m = cell_count_of_length register_count (length words) in
    let v = loaded_words register_count m i words in
    0 < m → read_image register_count m bytes ≡ parsed i end → reached_cells register_count m v ≡ tabulate (length i.cells) suc
    → (s out : List ℕ) → 2 * m ≤ length s → save_of v s out ≡ save_image (image_bytes i) s out
saved-loaded words bytes i end some e visited s out long =
    let m = cell_count_of_length register_count (length words) in
    let sized = length_sized register_count (length words) some in
    let read = images.image-read register_count m bytes i end e in
    let few = images.image-few register_count m bytes i end read in
    let all = images.image-registers register_count m bytes i end read in
    let links = images.image-links register_count m bytes i end read in
    let cells = loaded-cells register_count m i few all words sized.room sized.counted in
    let whole = well_formed_made register_count m _ (loaded-well_formed register_count m i few all words sized.room links) in
    rw (cells, lt-ltb 0 m some, le-leb (2 * m) (length s) long, whole)
    (ap (λ (x : List ℕ). save_image x s out) (saved-again register_count m i few all links words sized.room visited))

pub load-then_save : LoadThenSave
load-then_save words bytes i end byte some e visited s out long = go (load_of words bytes) (simp (lt-ltb 0 m some, e)) visited
  where
    m : ℕ
    m = cell_count_of_length register_count (length words)

    go : (loaded : Loaded × List ℕ) → loaded ≡ (record { verdict = Ok tt; end = end }, loaded_words register_count m i words)
        → reached_cells register_count m loaded.1 ≡ tabulate (length i.cells) suc
        → save_of loaded.1 s out ≡ save_image (take loaded.0.end bytes) s out
    go loaded is visited =
        rw is
        (saved-loaded words bytes i end some e (rw is at visited) s out long
        ∙ ap (λ (x : List ℕ). save_image x s out) (sym (between_taken (images.reads_image_bytes register_count m bytes i end byte e))))

-- The image of the pool w of n cells, loaded into words of a pool.
module _ (n : ℕ) (w words : List ℕ) (some : 0 < cell_count_of_length register_count (length words))
    (few : reached_count register_count n w ≤ cell_count_of_length register_count (length words)) (most : n ≤ cell_limit) (well : WellFormed register_count n w)
    (word : Words w) where
  abbrev m : ℕ
  m = cell_count_of_length register_count (length words)

  abbrev image : Image
  image = saved_image register_count w (reached_cells register_count n w)

  sized : Sized register_count (length words) m
  sized = length_sized register_count (length words) some

  all : length image.registers ≡ register_count
  all = image-registers register_count w (reached_cells register_count n w)

  room : length image.cells ≤ m
  room = omega (arith, image-cells register_count w (reached_cells register_count n w))

  encodable : Encodable image
  encodable =
      image_encodable register_count w (reached_cells register_count n w) word
      (omega (arith, preorder-length n (graph_of register_count w) (roots_of register_count w) (pool-within well)))

  image-read : (behind : List ℕ) → read_image register_count m (image_of register_count n w ++ behind) ≡ parsed image (length (image_of register_count n w))
  image-read behind = image-encoded register_count m image behind room all encodable

  -- The cells of both are used, so that they have one state where they are of one kind.
  order-used : (i : ℕ) → i < reached_count register_count n w → is_used (state register_count w (get_or (reached_cells register_count n w) i 0)) ≡ true
  order-used i below =
      (reached-used well
      ((preorder-reached n (graph_of register_count w) (roots_of register_count w) (pool-within well) _).0 (get_or-member (reached_cells register_count n w) i below))).state

  in_loaded : (i : ℕ) → i < reached_count register_count n w → is_used (state register_count (loaded_words register_count m image words) (suc i)) ≡ true
  in_loaded i below =
      loaded-used register_count m image room all words sized.room i (omega (arith, image-cells register_count w (reached_cells register_count n w)))

  renumbered : Renumbered n w m (loaded_words register_count m image words)
  renumbered =
      record {
        registers = renumbering.renumbered-register register_count n w m few words sized.room;
        states = λ i below.
            same-state _ _ (in_loaded i below) (order-used i below) (renumbering.renumbered-kind register_count n w m few words sized.room i below);
        lefts = λ i below. renumbering.renumbered-word register_count n w m few words sized.room i 0 below (omega arith);
        rights = λ i below. renumbering.renumbered-word register_count n w m few words sized.room i 1 below (omega arith);
        values = renumbering.renumbered-value register_count n w m few words sized.room;
        order = renumbering.renumbered-order register_count n w m few words sized.room well (encodable_links encodable);
      }

  restored : (out : List ℕ) → length (image_of register_count n w) ≤ length out → (loaded : Loaded × List ℕ)
      → loaded ≡ (record { verdict = Ok tt; end = length (image_of register_count n w) }, loaded_words register_count m image words)
      → let bytes = image_of register_count n w ++ drop (length (image_of register_count n w)) out in
      Restored n w out (length (image_of register_count n w)) bytes m loaded.0.verdict (drop loaded.0.end bytes) loaded.1
  restored out fits loaded is =
      let number = image-cells register_count w (reached_cells register_count n w) in
      let visited : reached_cells register_count m (loaded_words register_count m image words) ≡ tabulate (length image.cells) suc =
      renumbered.order ∙ ap (λ (k : ℕ). tabulate k suc) (sym number) in
      rw is
      (record {
        accepted = refl;
        part = drop-append_seam (image_of register_count n w) (drop (length (image_of register_count n w)) out);
        cells = loaded-cells register_count m image room all words sized.room sized.counted;
        is_well_formed =
            well_formed_made register_count m _
            (loaded-well_formed register_count m image room all words sized.room (encodable_links encodable));
        renumbered = renumbered;
        kept = ap length renumbered.order ∙ length-tabulate (reached_count register_count n w) suc;
        free =
            loaded-free register_count m image room all words sized.room sized.least ∙ ap (λ (k : ℕ). free_cells (λ i. leb i k) m 1) number;
        again =
            λ s long.
            saved-loaded words (image_of register_count n w ++ []) image _ some (image-read []) visited s out long
            ∙ rw (le-leb (length (image_of register_count n w)) (length out) fits);
      })

-- A test is true where it cannot be false; and a refusal is no answer.
true_or : (t : Bool) → (t ≡ false → ⊥) → t ≡ true
true_or true h = refl
true_or false h = absurd (h refl)

no_answer : {o : Outcome} {a b c d xs : List ℕ} → ◌≡◌ {A = Outcome × List ℕ × List ℕ} (o, a, b) (answered xs, c, d) → 0 < status o → ⊥
no_answer e low = omega (arith, ap (λ (x : Outcome × List ℕ × List ℕ). status x.0) e)

-- What an accepted save says of the pool, and of what it left in the output.
pub record Accepted (w out : List ℕ) (size : ℕ) (bytes : List ℕ) : Type 0 where
  pub some : 0 < cell_count register_count w
  pub is_well_formed : well_formed register_count (cell_count register_count w) w ≡ true
  pub room : length (image_of register_count (cell_count register_count w) w) ≤ length out
  pub long : size ≡ length (image_of register_count (cell_count register_count w) w)
  pub written : bytes
      ≡ image_of register_count (cell_count register_count w) w ++ drop (length (image_of register_count (cell_count register_count w) w)) out

pub save-accepted : (w scratch out : List ℕ) (size : ℕ) (cleared bytes : List ℕ) → save_of w scratch out ≡ (answered (size ∷ []), cleared, bytes)
    → Accepted w out size bytes
save-accepted w scratch out size cleared bytes saved =
    let n = cell_count register_count w in
    let image = image_of register_count n w in
    let some : ltb 0 n ≡ true = true_or (ltb 0 n) (λ e. no_answer (rw e at saved) (omega arith)) in
    let lent : leb (2 * n) (length scratch) ≡ true = true_or (leb (2 * n) (length scratch)) (λ e. no_answer (rw (some, e) at saved) (omega arith)) in
    let whole : well_formed register_count n w ≡ true = true_or (well_formed register_count n w) (λ e. no_answer (rw (some, lent, e) at saved) (omega arith)) in
    let room : leb (length image) (length out) ≡ true = true_or (leb (length image) (length out)) (λ e. no_answer (rw (some, lent, whole, e) at saved) (omega arith)) in
    let made = rw (some, lent, whole, room) at saved in
    record {
      some = ltb-true 0 n some;
      is_well_formed = whole;
      room = leb-true (length image) (length out) room;
      long = sym (ap (λ (x : Outcome × List ℕ × List ℕ). given x.0 0 0) made);
      written = sym (ap (λ (x : Outcome × List ℕ × List ℕ). x.2) made);
    }

pub save-then_load : SaveThenLoad
save-then_load w scratch out size cleared bytes words word saved target few =
    let n = cell_count register_count w in
    let m = cell_count_of_length register_count (length words) in
    let image = image_of register_count n w in
    let did = save-accepted w scratch out size cleared bytes saved in
    let well = well_formed_read register_count n w did.is_well_formed in
    let most = (cells_sized register_count w did.some).0.most in
    rw (did.long, did.written)
    (restored n w words target few most well word out did.room (load_of words (image ++ drop (length image) out))
    (simp (lt-ltb 0 m target, image-read n w words target few most well word (drop (length image) out))))
