-- Every operation leaves as many words as it is lent.
use Prim.Native.Nat.{ℕ, suc, ◌+◌, ◌*◌, ◌<◌}
use native.Mathlib.Omega.{arith}
use mathlib.Core.Path.{◌≡◌, refl, ◌∙◌}
use mathlib.Core.List.{List}
use mathlib.Core.Bool.{Bool, true, false, cond, ◌&&◌}
use lib.ListN.{length}
use lib.Dec.{eqb, leb, ltb}
use borrow.Author.Tests.{ltb-true, eqb-false}
use Rattle.answers.specs.Outcome.{Outcome, refused}
use Rattle.pool.specs.Layout.{register_count, cell_count_of_length, head, cell}
use Rattle.questions.specs.Validity.{valid_link, well_formed}
use Rattle.questions.specs.Questions.{sized_of, admit_of, holds_link}
use Rattle.pool.proofs.Sizes.{Sized, length_sized}
use Rattle.pool.proofs.Laws.{length-set_cell, length-set_register, length-set_head}
use Rattle.pool.proofs.Node.{length-put_cell}
use Rattle.pool.proofs.Retained.{length-retain}
use Rattle.pool.proofs.FreshPool.{fresh-length}
use Rattle.questions.proofs.Admission.{behind-questions}
use Rattle.reversal.specs.Reached.{is_reached}
use Rattle.collector.specs.Collect.{collected, collect_in}
use Rattle.recursive_marker.specs.Recursive.{recursion_limit}
use Rattle.worst_case.proofs.Built.{built-length}
use Rattle.allocator.specs.Allocation.{take, take_collected, good_head, allocate_in}
use Rattle.std.proofs.Common.{Result, Ok, Err}
use Rattle.answers.specs.declared.Refusal.{Refusal}
use Rattle.operations.specs.Operations.{held_cell_of, held_kind_of, cell_to, follow_in, link_in}
use Rattle.calls.specs.declared.Call.{Call}
use Rattle.calls.specs.declared.Call.TheVariants as call
use Rattle.calls.specs.Calls.{registers_of, body_of, call_of}
use Rattle.batch.specs.declared.Stopped.{Stopped}
use Rattle.batch.specs.declared.Stopped.TheVariants as stopped
use Rattle.batch.specs.Program.{Program, ended, malformed, then, program_of}
use Rattle.batch.specs.Run.{written, run_from}
use Rattle.image.specs.Image.{Image, Parsed, parsed, fault, read_image}
use Rattle.image.proofs.Images.{image-read, image-few, image-registers}
use Rattle.load.specs.declared.Loaded.{Loaded}
use Rattle.load.specs.Load.{load_image}
use Rattle.load.proofs.LoadedPool.{loaded-length}
use Rattle.leftovers.specs.Leftovers.{Operation, fresh, call, collect_tally, collect_stack, collect_recursive, worst_case, load, run, words_after}

-- What holds of both ways of a test holds of it.
either : {A : Type 0} (P : A → Type 0) (t : Bool) {x y : A} → (t ≡ true → P x) → (t ≡ false → P y) → P (cond t x y)
either P true a b = a refl
either P false a b = b refl

-- A number that is not 0 is above it.
pub above : (x : ℕ) → eqb x 0 ≡ false → 0 < x
above x other = let apart = eqb-false x 0 other in omega (arith, apart)

-- The head cell is taken.
take-length : (w : List ℕ) (r c x y v : ℕ) → 0 < head w → length (take w r c x y v) ≡ length w
take-length w r c x y v some = length-set_register register_count _ r (head w) ∙ (length-set_head register_count _ _ ∙ length-put_cell register_count w (head w) some c x y v)

-- As many words are left as w has.
abbrev AsLong : List ℕ → Outcome × List ℕ → Type 0
AsLong w x = length x.1 ≡ length w

-- What a body leaves of the words w.
module _ (n : ℕ) (w : List ℕ) where
  collected-length : length (collected register_count n w) ≡ length w
  collected-length = length-retain register_count n (is_reached register_count n w) w

  collect_length : AsLong w (collect_in n w)
  collect_length = either (AsLong w) (well_formed register_count n w) (λ e. collected-length) (λ e. refl)

  -- a call on the cell that a register holds, of either kind or of one
  cell-length : (q : Result ℕ Refusal) (body : ℕ → Outcome × List ℕ) → ((x : ℕ) → AsLong w (body x)) → AsLong w (cell_to w body q)
  cell-length (Ok x) body on = on x
  cell-length (Err k) body on = refl

  follow_length : (field r a : ℕ) → AsLong w (follow_in n w field r a)
  follow_length field r a =
      cell-length (held_kind_of false n w a) _ λ x.
      either (AsLong w) (valid_link register_count n w (cell register_count w x field)) (λ e. length-set_register register_count w r _) (λ e. refl)

  link-length : (field a b : ℕ) → AsLong w (link_in n w field a b)
  link-length field a b =
      either (AsLong w) (holds_link n w b) (λ e. cell-length (held_kind_of false n w a) _ λ x. length-set_cell register_count w x field _) (λ e. refl)

  take-collected_length : (r c x y v : ℕ) → AsLong w (take_collected n w r c x y v)
  take-collected_length r c x y v =
      let w' = collected register_count n w in
      either (AsLong w) (well_formed register_count n w)
      (λ well. either (AsLong w) (eqb (head w') 0) (λ full. refl) λ other. take-length w' r c x y v (above (head w') other) ∙ collected-length)
      λ bad. refl

  allocate_length : (r c x y v : ℕ) → AsLong w (allocate_in n w r c x y v)
  allocate_length r c x y v =
      either (AsLong w) (eqb (head w) 0) (λ nil. take-collected_length r c x y v)
      λ other. either (AsLong w) (good_head n w) (λ good. take-length w r c x y v (above (head w) other)) λ bad. refl

  body_length : (c : Call) → AsLong w (body_of c n w)
  body_length (call.Copy r a) = either (AsLong w) (holds_link n w a) (λ e. length-set_register register_count w r _) (λ e. refl)
  body_length (call.Clear r) = length-set_register register_count w r 0
  body_length (call.New r a b v) = either (AsLong w) (holds_link n w a && holds_link n w b) (λ held. allocate_length r _ _ _ v) (λ bad. refl)
  body_length (call.Left r a) = follow_length 1 r a
  body_length (call.Right r a) = follow_length 2 r a
  body_length (call.SetLeft a b) = link-length 1 a b
  body_length (call.SetRight a b) = link-length 2 a b
  body_length (call.SetValue a v) = cell-length (held_cell_of n w a) _ λ x. length-set_cell register_count w x 3 v
  body_length (call.Value a) = cell-length (held_cell_of n w a) _ λ x. refl
  body_length (call.Same a b) = either (AsLong w) (holds_link n w a && holds_link n w b) (λ e. refl) (λ e. refl)
  body_length call.Collect = collect_length
  body_length (call.Point r v x y) = allocate_length r _ x y v
  body_length (call.East a) = cell-length (held_kind_of true n w a) _ λ x. refl
  body_length (call.North a) = cell-length (held_kind_of true n w a) _ λ x. refl

pub call_length : (w : List ℕ) (c : Call) → AsLong w (call_of c w)
call_length w c = behind-questions (AsLong w) (admit_of w (registers_of c)) {refusing = λ k. (refused k, w)} (λ n told. body_length n w c) (λ k. refl)

run_length : (k : ℕ) (p : Program) (w out : List ℕ) → length (run_from k p w out).1 ≡ length w
unfolding run_from
run_length k ended w out = refl
run_length k malformed w out = refl
run_length k (then c rest) w out = go (leb (3 * k + 3) (length out)) (run_length (suc k) rest (call_of c w).1 (written out k (call_of c w).0))
  where
    go : (t : Bool) → length (run_from (suc k) rest (call_of c w).1 (written out k (call_of c w).0)).1 ≡ length (call_of c w).1
        → length
        (elim t as (λ x. Result ℕ Stopped × List ℕ × List ℕ) [
          | true ↦ run_from (suc k) rest (call_of c w).1 (written out k (call_of c w).0)
          | false ↦ (Err (stopped.NoRoom k), w, out)
        ]).1
        ≡ length w
    go true after = after ∙ call_length w c
    go false after = refl

-- An operation that asks for the length alone: for that of a pool it leaves as many words.
module _ (w : List ℕ) where
  abbrev cells : ℕ
  cells = cell_count_of_length register_count (length w)

  by_length : {A : Type 0} (P : A → Type 0) {x y : A} → (Sized register_count (length w) cells → P x) → P y → P (cond (ltb 0 cells) x y)
  by_length P on off = either P (ltb 0 cells) (λ some. on (length_sized register_count (length w) (ltb-true 0 cells some))) (λ none. off)

  image-length : Sized register_count (length w) cells → (bytes : List ℕ) (read : Parsed Image) → read_image register_count cells bytes ≡ read
      → length (load_image register_count cells read (length bytes) w).1 ≡ length w
  image-length sized bytes (parsed i end) e =
      let r = image-read register_count cells bytes i end e in
      loaded-length register_count cells i (image-few register_count cells bytes i end r) (image-registers register_count cells bytes i end r) w sized.room
  image-length sized bytes (fault why) e = refl

pub operation_length : (o : Operation) (w : List ℕ) → length (words_after o w) ≡ length w
operation_length fresh w =
    by_length w (AsLong w)
    (λ sized. fresh-length register_count (cells w) w sized.room) refl
operation_length (call c) w = call_length w c
operation_length (collect_tally tally) w =
    behind-questions (AsLong w) (sized_of w) {refusing = λ k. (refused k, w)} (λ n told. collect_length n w) (λ k. refl)
operation_length (collect_stack stack) w =
    behind-questions (λ (x : Outcome × List ℕ × List ℕ). length x.1 ≡ length w) (sized_of w) {refusing = λ k. (refused k, w, stack)}
    (λ n told. either (λ (x : Outcome × List ℕ × List ℕ). length x.1 ≡ length w) (well_formed register_count n w) (λ e. collected-length n w) (λ e. refl))
    (λ k. refl)
operation_length collect_recursive w =
    behind-questions (AsLong w) (sized_of w) {refusing = λ k. (refused k, w)}
    (λ n told. either (AsLong w) (leb n recursion_limit) (λ e. collect_length n w) (λ e. refl)) (λ k. refl)
operation_length worst_case w = by_length w (AsLong w) (λ sized. built-length register_count (cells w) w sized.room) refl
operation_length (load bytes) w =
    by_length w (λ (x : Loaded × List ℕ). length x.1 ≡ length w) (λ sized. image-length w sized bytes (read_image register_count (cells w) bytes) refl) refl
operation_length (run list out) w = run_length 0 (program_of list) w out
