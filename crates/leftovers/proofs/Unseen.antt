-- Every operation does with the words behind the cells what it does without them.
use Prim.Native.Nat.{ℕ, suc, ◌+◌, ◌*◌, ◌-◌, ◌/◌, ◌<◌, ◌≤◌}
use native.Mathlib.Omega.{arith}
use native.Mathlib.Decide.{dec_lt}
use mathlib.Core.Path.{◌≡◌, refl, sym, ap, ap₂, subst, ◌∙◌}
use mathlib.Core.List.{List, [], ◌∷◌, ◌++◌}
use mathlib.Core.Bool.{Bool, true, false, cond}
use lib.ListN.{length, length-take, length-drop, length-append, replicate, take-append-drop}
use lib.Seq.{length-take-le}
use lib.Dec.{leb}
use borrow.Author.Tests.{lt-ltb}
use Rattle.std.specs.Prelude.{Ok, Err}
use Rattle.answers.specs.declared.Refusal.TheVariants as refusal
use Rattle.answers.specs.Outcome.{Outcome, answered, refused}
use Rattle.pool.specs.Layout.{register_count, pool_length, leftover_limit, cell_count_of_length, leftover_words, cell_count, graph_of, roots_of}
use Rattle.pool.specs.Lengths.{LengthOf}
use Rattle.pool.specs.Fresh.{fresh_of}
use Rattle.questions.specs.Validity.{well_formed}
use Rattle.std.proofs.Common.{Result, Ok, Err}
use Rattle.answers.specs.declared.Refusal.{Refusal}
use Rattle.questions.specs.Questions.{sized_of, asked_next, are_registers, admit_of, admitted_to}
use Rattle.pool.proofs.Sizes.{length_of, of_length, no_cells}
use Rattle.questions.proofs.WellFormed.{well_formed_read}
use Rattle.questions.proofs.Admission.{sized_cells, sized_none, registers_there, admit_cells}
use Rattle.reversal.specs.Reached.{reached_cells}
use Rattle.collector.specs.Collect.{collected, collect_in, collect_of}
use Rattle.recursive_marker.specs.Recursive.{recursion_limit, recursive_of}
use Rattle.stack_algorithm.specs.Check.{is_enough, check_count, limited_run}
use Rattle.stack_algorithm.proofs.SameLinks.{limited-run_same}
use Rattle.stack_marker.specs.StackCollect.{lent_run, stack_in, stack_of}
use Rattle.worst_case.specs.WorstCase.{worst_case_of}
use Rattle.tally.specs.declared.Tally.{Tally}
use Rattle.tally.specs.TallyOf.{tally_of, tally_after}
use Rattle.calls.specs.declared.Call.{Call}
use Rattle.calls.specs.Calls.{registers_of, body_of, call_of}
use Rattle.batch.specs.declared.Stopped.{Stopped}
use Rattle.batch.specs.declared.Stopped.TheVariants as stopped
use Rattle.batch.specs.Program.{Program, ended, malformed, then, program_of}
use Rattle.batch.specs.Run.{written, run_from}
use Rattle.image.specs.Image.{Image, Parsed, parsed, fault, read_image, image_of}
use Rattle.image.proofs.Images.{image-read, image-few, image-registers}
use Rattle.load.specs.Load.{load_image, load_of}
use Rattle.save.specs.Save.{save_image, save_in, save_of}
use Rattle.leftovers.specs.Leftovers.{without_leftover, and_behind, and_behind_first, AsWithout, LeftoversUnseen}
use Rattle.leftovers.proofs.Lengths.{call_length}
use Rattle.leftovers.proofs.Longer.{count-longer, well_formed_longer, roots-longer, agree, reached-longer, image-longer, collected-longer, fresh-longer, worst_case_longer, loaded-longer}
use Rattle.leftovers.proofs.Bodies.{same_test, Behind, collect_longer, body_longer}

-- What the collection with a stack says, by the cells that are reached and what its marker does.
abbrev stack_answer : List ℕ → List ℕ × List ℕ → Outcome
stack_answer order end = answered (length order ∷ cond (is_enough end) 1 0 ∷ check_count end ∷ [])

-- The words u of a pool of n cells, and t, up to three words, behind them.
module _ (n : ℕ) (u t : List ℕ) (fits : LengthOf register_count n 0 (length u)) (few : length t ≤ leftover_limit) where
  long : length u ≡ pool_length register_count n
  long = omega (arith, fits.sum)

  some : 0 < n
  some = fits.least

  cells_u : cell_count_of_length register_count (length u) ≡ n
  cells_u = of_length fits

  cells-longer : cell_count_of_length register_count (length (u ++ t)) ≡ n
  cells-longer =
      of_length {R = register_count} {e = length t}
      (record { least = fits.least; most = fits.most; few = few; sum = length-append u t ∙ ap (λ (k : ℕ). k + length t) long })

  asked_longer : sized_of (u ++ t) ≡ sized_of u
  unfolding cell_count
  asked_longer = rw (cells-longer, cells_u, count-longer register_count n u t long some) refl

  -- the number of cells that a question hands on
  asked_cells : {m : ℕ} → sized_of u ≡ Ok m → n ≡ m
  asked_cells told = sym cells_u ∙ (sized_cells u told).0.counted

  -- an operation behind the first question
  behind-size : {A : Type 0} (body' body refusing' refusing : ℕ → A) (P : A → A → Type 0) → P (body' n) (body n) → ((k : ℕ) → P (refusing' k) (refusing k))
      → P (admitted_to body' refusing' (sized_of (u ++ t))) (admitted_to body refusing (sized_of u))
  behind-size body' body refusing' refusing P on off =
      subst (λ (q : Result ℕ Refusal). P (admitted_to body' refusing' q) (admitted_to body refusing (sized_of u))) (sym asked_longer) (go (sized_of u) refl)
    where
      go : (q : Result ℕ Refusal) → sized_of u ≡ q → P (admitted_to body' refusing' q) (admitted_to body refusing q)
      go (Ok m) told = subst (λ (k : ℕ). P (body' k) (body k)) (asked_cells told) on
      go (Err k) told = off _

  -- both parts are the same
  whole : {x' x : Outcome × List ℕ} → Behind n u t long some x' x → x' ≡ and_behind x t
  whole b = ap₂ (λ (o : Outcome) (w : List ℕ). (o, w)) b.said b.words

  collect_of_longer : collect_of (u ++ t) ≡ and_behind (collect_of u) t
  collect_of_longer =
      behind-size (λ m. collect_in m (u ++ t)) (λ m. collect_in m u) (λ k. (refused k, u ++ t)) (λ k. (refused k, u)) (λ x' x. x' ≡ and_behind x t)
      (whole (collect_longer n u t long some)) (λ k. refl)

  recursive-longer : recursive_of (u ++ t) ≡ and_behind (recursive_of u) t
  recursive-longer =
      behind-size (λ m. cond (leb m recursion_limit) (collect_in m (u ++ t)) (refused 11, u ++ t)) (λ m. cond (leb m recursion_limit) (collect_in m u) (refused 11, u))
      (λ k. (refused k, u ++ t)) (λ k. (refused k, u)) (λ x' x. x' ≡ and_behind x t)
      (whole
      (same_test (Behind n u t long some) {b' = leb n recursion_limit} refl (λ e. collect_longer n u t long some) λ e. record { said = refl; words = refl }))
      (λ k. refl)

  tally-longer : (tally : Tally) → tally_of (u ++ t) tally ≡ and_behind_first (tally_of u tally) t
  tally-longer tally = ap (λ (x : Outcome × List ℕ). (x.0, x.1, tally_after tally x.0)) collect_of_longer

  stack-longer : (stack : List ℕ) → stack_of (u ++ t) stack ≡ and_behind_first (stack_of u stack) t
  stack-longer stack =
      behind-size (λ m. stack_in m (u ++ t) stack) (λ m. stack_in m u stack) (λ k. (refused k, u ++ t, stack)) (λ k. (refused k, u, stack))
      (λ x' x. x' ≡ and_behind_first x t)
      (same_test (λ (x' x : Outcome × List ℕ × List ℕ). x' ≡ and_behind_first x t) (well_formed_longer register_count n u t long some) accepted (λ e. refl)) (λ k. refl)
    where
      accepted : well_formed register_count n u ≡ true
          → ◌≡◌ {A = Outcome × List ℕ × List ℕ}
          (stack_answer (reached_cells register_count n (u ++ t)) (lent_run n (u ++ t) stack), collected register_count n (u ++ t), replicate (length stack) 0)
          (stack_answer (reached_cells register_count n u) (lent_run n u stack), collected register_count n u ++ t, replicate (length stack) 0)
      accepted e =
          let well = well_formed_read register_count n u e in
          let marked : lent_run n (u ++ t) stack ≡ lent_run n u stack =
          ap (limited_run (length stack) n (graph_of register_count (u ++ t))) (roots-longer register_count n u t long some)
          ∙ sym (limited-run_same (graph_of register_count u) (graph_of register_count (u ++ t)) (roots_of register_count u) (agree register_count n u t long some well) (length stack) n) in
          ap₂ (λ (o : Outcome) (w : List ℕ). (o, w, replicate (length stack) 0))
          (ap₂ stack_answer (reached-longer register_count n u t long some well) marked) (collected-longer register_count n u t long some well)

  fresh_of_longer : (fresh_of (u ++ t)).1 ≡ (fresh_of u).1 ++ t
  fresh_of_longer = rw (cells-longer, cells_u, lt-ltb 0 n some) (fresh-longer register_count n t some u long)

  worst_case_of_longer : worst_case_of (u ++ t) ≡ and_behind (worst_case_of u) t
  worst_case_of_longer =
      rw (cells-longer, cells_u, lt-ltb 0 n some)
      (ap (λ (w : List ℕ). (answered ((n - 1) / 2 ∷ []), w)) (worst_case_longer register_count n t some u long (omega arith)))

  save-longer : (s out : List ℕ) → save_of (u ++ t) s out ≡ save_of u s out
  save-longer s out =
      behind-size (λ m. save_in m (u ++ t) s out) (λ m. save_in m u s out) (λ k. (refused k, s, out)) (λ k. (refused k, s, out)) (λ x' x. x' ≡ x)
      (ap (λ (x : Outcome × List ℕ × List ℕ). cond (leb (2 * n) (length s)) x (refused 10, s, out)) saved) (λ k. refl)
    where
      saved : ◌≡◌ {A = Outcome × List ℕ × List ℕ}
          (cond (well_formed register_count n (u ++ t)) (save_image (image_of register_count n (u ++ t)) s out) (refused 3, s, out))
          (cond (well_formed register_count n u) (save_image (image_of register_count n u) s out) (refused 3, s, out))
      saved =
          same_test (λ (x' x : Outcome × List ℕ × List ℕ). x' ≡ x) (well_formed_longer register_count n u t long some)
          (λ e. ap (λ (i : List ℕ). save_image i s out) (image-longer register_count n u t long some (well_formed_read register_count n u e))) (λ e. refl)

  load-longer : (bytes : List ℕ) → load_of (u ++ t) bytes ≡ and_behind (load_of u bytes) t
  load-longer bytes = rw (cells-longer, cells_u, lt-ltb 0 n some) (go (read_image register_count n bytes) refl)
    where
      go : (read : Parsed Image) → read_image register_count n bytes ≡ read
          → load_image register_count n read (length bytes) (u ++ t) ≡ and_behind (load_image register_count n read (length bytes) u) t
      go (parsed i end) e =
          let r = image-read register_count n bytes i end e in
          ap (λ (v : List ℕ). (record { verdict = Ok tt; end = end }, v))
          (loaded-longer register_count n t some u long i (image-few register_count n bytes i end r) (image-registers register_count n bytes i end r))
      go (fault why) e = refl

  call-longer : (c : Call) → call_of c (u ++ t) ≡ and_behind (call_of c u) t
  call-longer c =
      ap (λ (q : Result ℕ Refusal). admitted_to (λ m. body_of c m (u ++ t)) (λ k. (refused k, u ++ t)) (asked_next (are_registers (registers_of c)) q)) asked_longer
      ∙ go (admit_of u (registers_of c)) refl
    where
      go : (q : Result ℕ Refusal) → admit_of u (registers_of c) ≡ q
          → admitted_to (λ m. body_of c m (u ++ t)) (λ k. (refused k, u ++ t)) q ≡ and_behind (admitted_to (λ m. body_of c m u) (λ k. (refused k, u)) q) t
      go (Ok m) told =
          let asked = admit_cells u (registers_of c) told in
          subst (λ (k : ℕ). body_of c k (u ++ t) ≡ and_behind (body_of c k u) t) (asked_cells asked.0)
          (whole (body_longer n u t long some c (registers_there (registers_of c) asked.1)))
      go (Err k) told = refl

-- A run, where each call does with t what it does without, and leaves words of which the same holds.
run-behind : (t : List ℕ) (Q : List ℕ → Type 0) → ((u : List ℕ) → Q u → (c : Call) → (call_of c (u ++ t) ≡ and_behind (call_of c u) t) × Q (call_of c u).1)
    → (k : ℕ) (p : Program) (u out : List ℕ) → Q u → run_from k p (u ++ t) out ≡ and_behind_first (run_from k p u out) t
unfolding run_from
run-behind t Q each k ended u out q = refl
run-behind t Q each k malformed u out q = refl
run-behind t Q each k (then c rest) u out q =
    let first = each u q c in
    ap (λ (x : Outcome × List ℕ). next (leb (3 * k + 3) (length out)) (run_from (suc k) rest x.1 (written out k x.0)) (u ++ t)) first.0
    ∙ go (leb (3 * k + 3) (length out)) (run-behind t Q each (suc k) rest (call_of c u).1 (written out k (call_of c u).0) first.1)
  where
    next : Bool → Result ℕ Stopped × List ℕ × List ℕ → List ℕ → Result ℕ Stopped × List ℕ × List ℕ
    next room after v = elim room as (λ x. Result ℕ Stopped × List ℕ × List ℕ) [ true ↦ after | false ↦ (Err (stopped.NoRoom k), v, out) ]

    go : (room : Bool)
        → run_from (suc k) rest ((call_of c u).1 ++ t) (written out k (call_of c u).0) ≡ and_behind_first (run_from (suc k) rest (call_of c u).1 (written out k (call_of c u).0)) t
        → next room (run_from (suc k) rest ((call_of c u).1 ++ t) (written out k (call_of c u).0)) (u ++ t)
        ≡ and_behind_first (next room (run_from (suc k) rest (call_of c u).1 (written out k (call_of c u).0)) u) t
    go true after = after
    go false after = refl

-- Words of a length of no pool are refused, and stay.
module _ (w : List ℕ) (none : cell_count_of_length register_count (length w) ≡ 0) where
  size-refused : sized_of w ≡ Err refusal.Size
  size-refused = sized_none w (no_cells register_count w none)

  call-refused : (c : Call) → call_of c w ≡ (refused 1, w)
  call-refused c = rw size-refused refl

-- So they are with t and without.
module _ (u t : List ℕ) (none : cell_count_of_length register_count (length u) ≡ 0) (none-longer : cell_count_of_length register_count (length (u ++ t)) ≡ 0) where
  refused-alike : {A : Type 0} (does : List ℕ → A × List ℕ) (o : A) → ((w : List ℕ) → cell_count_of_length register_count (length w) ≡ 0 → does w ≡ (o, w))
      → does (u ++ t) ≡ and_behind (does u) t
  refused-alike {A} does o off = off (u ++ t) none-longer ∙ ap (λ (x : A × List ℕ). and_behind x t) (sym (off u none))

  refused-alike_first : {A B : Type 0} (does : List ℕ → A × List ℕ × B) (o : A) (z : B)
      → ((w : List ℕ) → cell_count_of_length register_count (length w) ≡ 0 → does w ≡ (o, w, z)) → does (u ++ t) ≡ and_behind_first (does u) t
  refused-alike_first {A} {B} does o z off = off (u ++ t) none-longer ∙ ap (λ (x : A × List ℕ × B). and_behind_first x t) (sym (off u none))

  unseen_refused : AsWithout (u ++ t) u t
  unseen_refused =
      record {
        fresh = rw (none-longer, none) refl;
        call = λ c. refused-alike (call_of c) (refused 1) λ w no_pool_lem. call-refused w no_pool_lem c;
        tally = λ tally. refused-alike_first (λ w. tally_of w tally) (refused 1) tally λ w no_pool_lem. rw (size-refused w no_pool_lem) refl;
        stack = λ stack. refused-alike_first (λ w. stack_of w stack) (refused 1) stack λ w no_pool_lem. rw (size-refused w no_pool_lem) refl;
        recursive = refused-alike recursive_of (refused 1) λ w no_pool_lem. rw (size-refused w no_pool_lem) refl;
        worst_case_behind = refused-alike worst_case_of (refused 1) λ w no_pool_lem. rw no_pool_lem refl;
        load = λ bytes. refused-alike (λ w. load_of w bytes) (record { verdict = Err refusal.Size; end = length bytes }) λ w no_pool_lem. rw no_pool_lem refl;
        save = λ s out. rw (size-refused u none, size-refused (u ++ t) none-longer) refl;
        run = λ list out.
            run-behind t (λ v. v ≡ u)
            (λ v same c. (
              rw same (refused-alike (call_of c) (refused 1) λ w no_pool_lem. call-refused w no_pool_lem c),
              rw same (ap (λ (x : Outcome × List ℕ). x.1) (call-refused u none c)),
            ))
            0 (program_of list) u out refl;
      }

-- Every list of words is of a pool's length, and then is its pool and what stands behind it; or it is of none, and so is its front.
module _ (w : List ℕ) where
  abbrev short : List ℕ
  short = without_leftover w

  abbrev tail : List ℕ
  tail = leftover_words register_count w

  parted : short ++ tail ≡ w
  parted = take-append-drop (pool_length register_count (cell_count_of_length register_count (length w))) w

  unseen_pool : 0 < cell_count_of_length register_count (length w) → AsWithout (short ++ tail) short tail
  unseen_pool some =
      let n = cell_count_of_length register_count (length w) in
      let length-w = length_of register_count (length w) some in
      let own : length short ≡ pool_length register_count n = length-take-le (pool_length register_count n) w (omega (arith, length-w.sum)) in
      let fits : LengthOf register_count n 0 (length short) =
      record { least = length-w.least; most = length-w.most; few = omega arith; sum = omega (arith, own) } in
      let few : length tail ≤ leftover_limit = omega (arith, length-w.few, length-w.sum, length-drop (pool_length register_count n) w) in
      record {
        fresh = fresh_of_longer n short tail fits few;
        call = call-longer n short tail fits few;
        tally = tally-longer n short tail fits few;
        stack = stack-longer n short tail fits few;
        recursive = recursive-longer n short tail fits few;
        worst_case_behind = worst_case_of_longer n short tail fits few;
        load = load-longer n short tail fits few;
        save = save-longer n short tail fits few;
        run = λ list out.
            run-behind tail (λ u. LengthOf register_count n 0 (length u))
            (λ u q c. (call-longer n u tail q few c, rw (call_length u c) q))
            0 (program_of list) short out fits;
      }

  unseen_none : cell_count_of_length register_count (length w) ≡ 0 → AsWithout (short ++ tail) short tail
  unseen_none no_pool_lem =
      unseen_refused short tail (front (dec_lt 0 (cell_count_of_length register_count (length short)))) (ap (λ (v : List ℕ). cell_count_of_length register_count (length v)) parted ∙ no_pool_lem)
    where
      front : Dec (0 < cell_count_of_length register_count (length short)) → cell_count_of_length register_count (length short) ≡ 0
      front (yes some) =
          let fits = length_of register_count (length short) some in
          absurd (omega (arith, fits.least, fits.sum, length-take (pool_length register_count (cell_count_of_length register_count (length w))) w, no_pool_lem))
      front (no zero) = omega arith

pub leftovers_unseen : LeftoversUnseen
leftovers_unseen w = subst (λ (v : List ℕ). AsWithout v (without_leftover w) (leftover_words register_count w)) (parted w) (go (dec_lt 0 (cell_count_of_length register_count (length w))))
  where
    go : Dec (0 < cell_count_of_length register_count (length w)) → AsWithout (short w ++ tail w) (short w) (tail w)
    go (yes some) = unseen_pool w some
    go (no zero) = unseen_none w (omega arith)
