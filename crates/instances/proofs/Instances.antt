-- The instances of specs/Instances.antt, computed from the definitions or by the laws of well-formed pools.
use Prim.Native.Nat.{ℕ, zero, suc, ◌^◌, ◌<◌, ◌≤◌}
use native.Mathlib.Omega.{arith}
use mathlib.Core.Path.{◌≡◌, refl}
use mathlib.Core.List.Memᴰ
use mathlib.Core.List.{List, [], ◌∷◌, ◌++◌, Memᴰ, flat_map}
use mathlib.Core.Bool.{true}
use mathlib.Core.Logic.{inl, inr}
use lib.ListN.{length, get_or, replicate, get_or-replicate, length-replicate}
use lib.Dec.{ltb}
use borrow.Author.Tests.{ltb-true}
use Rattle.leb128.specs.Leb128.{groups, encode, read_further, read_groups, read_at}
use Rattle.graph.specs.Graph.{Reach, Within}
use Rattle.graph.specs.Preorder.{elem, visit, visits, preorder}
use Rattle.graph.specs.Dfs.{mark, marks, Dfs}
use Rattle.graph.specs.Marking.{outside, marked_count}
use Rattle.graph.specs.Compare.{Agree, OneToOne}
use Rattle.graph.proofs.Marks.{outside-cell, outside-past, outside-nil, cells-outside}
use Rattle.graph.proofs.Lists.{each_nil, each_cons}
use Rattle.graph.proofs.Depth.{order-dfs}
use Rattle.graph.proofs.Theorems.{order-closure, preorder-reached}
use Rattle.graph.proofs.Pairing.{pairing_kept}
use Rattle.pool.specs.Words.{tabulate, every}
use Rattle.pool.specs.States.{is_point, is_used, is_marked, as_marked, as_used}
use Rattle.pool.specs.Layout.{register_count, cell_limit, pool_length, cell_count_of_length, count, set_count, cell_count, head, set_head, register, set_register, cell, set_cell, state, left, is_point_at, link_of}
use Rattle.pool.specs.Retain.{lowest_free, retain}
use Rattle.pool.proofs.Sizes.{both}
use Rattle.questions.proofs.WellFormed.{well_formed_read}
use Rattle.questions.proofs.PoolGraph.{pool-within}
use Rattle.visit.specs.declared.Marker.{Marker}
use Rattle.visit.specs.Visit.{visit_of, marker}
use Rattle.reversal.specs.Reversal.{Visits, Run, MarkRoots}
use Rattle.reversal.specs.Trace.{trace, followed, four_ways, trace_roots, begins}
use Rattle.reversal.specs.ReversalTheorem.{Agreement, Untouched}
use Rattle.stack_algorithm.specs.Stack.{run, runs}
use Rattle.stack_algorithm.specs.Check.{walk, check, limited, limited_runs}
use Rattle.stack_algorithm.specs.Comb.{comb}
use Rattle.stack_algorithm.proofs.Going.{going_first, begin, turn}
use Rattle.stack_algorithm.proofs.Comb.{link_bound}
use Rattle.worst_case.specs.WorstCase.{put_comb}
use Rattle.batch.specs.Program.{program_of, program_of_calls}
use Rattle.batch.specs.Run.{run_from, after_all}
use Rattle.reference.specs.Equivalence.{pool_answers}
use Rattle.image.specs.Image.{place_from, read_each, read_image}
use Rattle.image.specs.OldForm.{OldCell}
use Rattle.load.specs.Load.{put_each}
use Rattle.lines.specs.Lines.{all, command}
use Rattle.script.specs.Reader.{space_of, digit_of, feed_of, end_of, begun_of}
use Rattle.replies.specs.Replies.{digits, decimal}
use Rattle.script.specs.Scripts.{next_line}
use Rattle.instances.specs.Instances.{three, three_collected, two, graph, roots, two_runs, Swapped, around, image, mixed, old_cells, PointInstance, PoolInstance, ReversalInstance, RunsInstance, GraphInstance, NumberInstance, OccupancyInstance, ImageInstance, CheckInstance, WorstCaseInstance, LeftoverInstance, BatchInstance, ScriptInstance}
use Rattle.reversal.specs.Reached.{pair_count, point_count}

-- Every element of a list that is tested whole is below a bound.
below : (b : ℕ) → 0 < b → (xs : List ℕ) → all (λ x. ltb x b) xs ≡ true → (i : ℕ) → get_or xs i 0 < b
unfolding all
below b positive [] h i = positive
below b positive (x ∷ xs) h zero = ltb-true x b (both (ltb x b) (all (λ y. ltb y b) xs) h).0
below b positive (x ∷ xs) h (suc i) = below b positive xs (both (ltb x b) (all (λ y. ltb y b) xs) h).1 i

within : Within 3 (graph three) (roots three)
unfolding tabulate every register cell is_point is_used is_marked as_marked as_used link_of
within = pool-within (well_formed_read register_count 3 three refl)

within_two : Within 2 (graph two) (roots two)
unfolding tabulate every register cell is_point is_used is_marked as_marked as_used link_of
within_two = pool-within (well_formed_read register_count 2 two refl)

-- Only cells 1 and 2 are reached.
only : (x : ℕ) → Reach (graph three) (roots three) x → Memᴰ x (1 ∷ 2 ∷ [])
unfolding elem visit visits preorder pair_count point_count tabulate register cell is_point is_used is_marked as_marked as_used link_of
only x = (preorder-reached 3 (graph three) (roots three) within x).1

apart : Memᴰ {A = ℕ} 3 (1 ∷ 2 ∷ []) → ⊥
apart (Memᴰ.head e) = omega arith
apart (Memᴰ.tail (Memᴰ.head e)) = omega arith
apart (Memᴰ.tail (Memᴰ.tail h)) = elim h [ ]

pub pool_instance : PoolInstance
unfolding elem visit visits preorder pair_count point_count tabulate every cell_count_of_length count set_count cell_count head register cell set_cell lowest_free retain limited limited_runs is_point is_used is_marked as_marked as_used link_of
pool_instance =
    record { some = omega arith; room = omega arith; cells = refl; is_well_formed = refl; answer = refl; full = refl; stack = refl; no_stack = refl }

-- The three cells are as the graph has them.
untouched : (x : ℕ) → 0 < x → x ≤ 3 → Untouched register_count 3 (graph three) (is_point_at register_count three) three x
unfolding cell is_point is_used is_marked as_marked as_used link_of
untouched zero h k = absurd (omega arith)
untouched (suc zero) h k = record { state = refl; kind = refl; left = refl; right = refl; left_bound = omega arith; right_bound = omega arith }
untouched (suc (suc zero)) h k = record { state = refl; kind = refl; left = refl; right = refl; left_bound = omega arith; right_bound = omega arith }
untouched (suc (suc (suc zero))) h k = record { state = refl; kind = refl; left = refl; right = refl; left_bound = omega arith; right_bound = omega arith }
untouched (suc (suc (suc (suc x)))) h k = absurd (omega arith)

agreement : Agreement register_count 3 (graph three) (is_point_at register_count three) (outside 3) three
agreement =
    record {
      room = omega arith;
      nil = outside-nil 3;
      past = outside-past 3;
      unmarked = λ x e. untouched x ((cells-outside 3).above x e) ((cells-outside 3).below x e);
      marked = λ x h k m. absurd (omega (arith, outside-cell 3 x h k));
    }

dfs : Dfs (graph three) (outside 3) 1 (1 ∷ 2 ∷ [])
unfolding outside mark marks cell is_point is_used is_marked as_marked as_used link_of
dfs =
    let m = mark (outside 3) 1 in
    let second : Dfs (graph three) m 2 (2 ∷ []) =
    Dfs.step {t = []} {u = []} refl (Dfs.stop {m = mark m 2} {p = 1} (omega arith)) (Dfs.stop {m = mark m 2} {p = 0} (omega arith)) in
    Dfs.step {t = 2 ∷ []} {u = []} refl second (Dfs.stop {m = mark m 2} {p = 2} (omega arith))

pub reversal_instance : ReversalInstance
unfolding elem visit visits preorder pair_count point_count tabulate register cell set_cell outside marked_count visit_of trace followed four_ways is_point is_used is_marked as_marked as_used link_of
reversal_instance =
    record {
      agreement = agreement;
      unmarked = refl;
      dfs = dfs;
      all = order-dfs 3 (graph three) (roots three) within;
      recursive =
          record {
            graph = graph three;
            point = is_point_at register_count three;
            marks = outside 3;
            cells = 1 ∷ 2 ∷ [];
            agree = agreement;
            dfs = dfs;
            bounded = omega arith;
            deep = omega arith;
            fits = omega arith;
          };
      visitable = record { positive = omega arith; bounded = omega arith; early = inr (omega arith); link = λ low. omega arith };
      five_cases = refl;
      two_followed = refl;
      five_exchanges = refl;
    }

-- `two_runs` with other states.
abbrev with_states : ℕ → ℕ → ℕ → List ℕ
with_states a b c = (3 ∷ 0 ∷ 2 ∷ 1 ∷ []) ++ replicate 14 0 ++ (a ∷ 2 ∷ 3 ∷ 7 ∷ []) ++ (b ∷ 1 ∷ 77 ∷ 8 ∷ []) ++ (c ∷ 0 ∷ 0 ∷ 9 ∷ [])

-- A visit of one of its pairs, and those that follow it.
more : {k : ℕ} {s t : Marker × List ℕ} → 0 < s.0.cell → s.0.cell ≤ 3 → state register_count s.1 s.0.cell < 3
    → (state register_count s.1 s.0.cell < 2 → left register_count s.1 s.0.cell ≤ 3) → Visits register_count 3 k (visit_of register_count s) t
    → Visits register_count 3 (suc k) s t
more positive bounded early link rest = Visits.more (record { positive = positive; bounded = bounded; early = inr early; link = link }) rest

abbrev first_run : Run register_count 3 2 (0, two_runs) (1, with_states 0 6 0)
unfolding cell set_cell visit_of is_point is_used is_marked as_marked as_used link_of
first_run =
    (1, 2, Visits.more {s = (marker 2 4 0, two_runs)} (record { positive = omega arith; bounded = omega arith; early = inl refl; link = λ low. omega arith }) Visits.done)

abbrev second_run : Run register_count 3 1 (1, with_states 0 6 0) (7, with_states 3 6 3)
unfolding cell set_cell visit_of is_point is_used is_marked as_marked as_used link_of
second_run = (6, 1, (more (omega arith) (omega arith) (omega arith) (λ low. omega arith) (more (omega arith) (omega arith) (omega arith) (λ low. omega arith) (more (omega arith) (omega arith) (omega arith) (λ low. omega arith) (more (omega arith) (omega arith) (omega arith) (λ low. omega arith) (more (omega arith) (omega arith) (omega arith) (λ low. omega arith) (more (omega arith) (omega arith) (omega arith) (λ low. omega arith) Visits.done)))))))

pub runs_instance : RunsInstance
unfolding elem visit visits preorder tabulate every register cell set_cell visit_of trace followed four_ways trace_roots begins is_point is_used is_marked as_marked as_used link_of
runs_instance =
    record {
      room = omega arith;
      is_well_formed = refl;
      last = (7, with_states 3 6 3);
      runs =
          MarkRoots.run {s = (0, two_runs)} {u = (1, with_states 0 6 0)} refl first_run
          (MarkRoots.run {s = (1, with_states 0 6 0)} {u = (7, with_states 3 6 3)} refl second_run
          (MarkRoots.skip refl (MarkRoots.skip refl (MarkRoots.skip refl (MarkRoots.skip refl (MarkRoots.skip refl (MarkRoots.skip refl (MarkRoots.skip refl (MarkRoots.skip refl (MarkRoots.skip refl (MarkRoots.skip refl (MarkRoots.skip refl (MarkRoots.skip refl (MarkRoots.skip refl (MarkRoots.skip refl MarkRoots.none)))))))))))))));
      reached = refl;
      begun = refl;
      gone_to = refl;
      exchanges = refl;
    }

-- Exchanged twice, a number is itself again.
back : (x y : ℕ) → Swapped x y → x ≡ get_or (0 ∷ 2 ∷ 1 ∷ []) y 0
back zero y h = rw h.1
back (suc zero) y h = rw h.1
back (suc (suc zero)) y h = rw h.1
back (suc (suc (suc x))) y h = absurd (omega arith)

relation : OneToOne Swapped
relation =
    record {
      nil = λ x y h. (λ e. rw e at h.1, λ e. rw e at (back x y h));
      forward = λ x y z a b. (cc);
      backward = λ x y z a b. cc (back x z a, back y z b);
    }

related_roots : (i : ℕ) → i < length (roots three) → Swapped (get_or (roots three) i 0) (get_or (roots two) i 0)
unfolding tabulate register is_point is_used is_marked as_marked as_used link_of
related_roots zero h = (omega arith, refl)
related_roots (suc i) h =
    let e : ◌≡◌ {A = ℕ} (get_or (replicate 15 0) i 0) 0 = get_or-replicate 15 i 0 0 (omega arith) in
    rw e (omega arith, refl)

related_links : (x y : ℕ) → Swapped x y → 0 < x → 0 < y
    → Swapped ((graph three).left x) ((graph two).left y) × Swapped ((graph three).right x) ((graph two).right y)
unfolding cell is_point is_used is_marked as_marked as_used link_of
related_links zero y h hx hy = absurd (omega arith)
related_links (suc zero) y h hx hy = rw h.1 ((omega arith, refl), (omega arith, refl))
related_links (suc (suc zero)) y h hx hy = rw h.1 ((omega arith, refl), (omega arith, refl))
related_links (suc (suc (suc x))) y h hx hy = absurd (omega arith)

agree : (x : ℕ) → Memᴰ x (1 ∷ 2 ∷ []) → Agree (graph three) (graph three_collected) x
unfolding cell is_point is_used is_marked as_marked as_used link_of
agree x (Memᴰ.head e) = rw e (record { left = refl; right = refl })
agree x (Memᴰ.tail (Memᴰ.head e)) = rw e (record { left = refl; right = refl })
agree x (Memᴰ.tail (Memᴰ.tail h)) = elim h [ ]

pub graph_instance : GraphInstance
unfolding elem visit visits preorder pair_count point_count tabulate register cell run runs is_point is_used is_marked as_marked as_used link_of
graph_instance =
    record {
      within = within;
      deeper = omega arith;
      reached = Reach.left (Reach.root {x = 1} (Memᴰ.head refl) (omega arith)) (omega arith);
      unreached = λ r. apart (only 3 r);
      closure = order-closure 3 (graph three) (roots three) within;
      agree = λ x reach. agree x (only x reach);
      differ = λ a. omega (arith, a.left);
      relation = relation;
      related_roots = related_roots;
      related_links = related_links;
      within_two = within_two;
      lengths = refl;
      paired = pairing_kept (graph three) (roots three) (graph two) (roots two) Swapped relation related_roots related_links;
      turns = omega arith;
      run = refl;
      run_fork = refl;
      equal = (refl, refl, refl);
      left = (refl, refl);
      none = (refl, refl);
      right = (refl, refl);
      both = (refl, refl, λ e. omega (arith, e));
      links_equal = λ x reach. refl;
    }

pub number_instance : NumberInstance
unfolding all groups encode read_further read_groups read_at
number_instance =
    record {
      largest = omega arith;
      bytes = below 256 (omega arith) around refl;
      read = refl;
      encoded = (omega arith, record { behind = refl; from = refl });
    }

pub occupancy_instance : OccupancyInstance
occupancy_instance =
    record {
      questions = (omega arith, omega arith, omega arith);
      nearest = record { near = omega arith; even = λ half. refl };
      half = refl;
    }

pub image_instance : ImageInstance
unfolding all elem visit visits preorder pair_count point_count groups encode read_further read_groups read_at tabulate every cell_count_of_length count set_count cell_count register set_register cell set_cell lowest_free retain place_from flat_map read_each read_image put_each is_point is_used is_marked as_marked as_used link_of
image_instance =
    record {
      size = refl;
      accepted = refl;
      loaded = refl;
      words32 = below 4294967296 (omega arith) three refl;
      saved = refl;
      saved_two = refl;
      target = omega arith;
      fit = omega arith;
      read = refl;
      ordered = refl;
      room = omega arith;
      bytes = below 256 (omega arith) image refl;
      other_bytes = below 256 (omega arith) (image ++ 9 ∷ 9 ∷ []) refl;
      other_read = refl;
    }

pub point_instance : PointInstance
unfolding all elem visit visits preorder pair_count point_count groups encode read_further read_groups read_at tabulate every cell_count_of_length count set_count cell_count register set_register cell set_cell lowest_free retain place_from flat_map read_each read_image put_each is_point is_used is_marked as_marked as_used link_of limited limited_runs head
point_instance =
    record {
      cells = refl;
      is_well_formed = refl;
      answer = refl;
      stack = refl;
      recursive = refl;
      saved = refl;
      loaded = refl;
      words32 = below 4294967296 (omega arith) mixed refl;
      target = omega arith;
      fit = omega arith;
      old = record {
        count = omega arith;
        registers = each_cons (λ x. x < 2 ^ 32) (omega arith) (each_nil (λ x. x < 2 ^ 32));
        cells = λ c. of c;
      };
      old_some = omega arith;
    }
  where
    of : (c : OldCell) → Memᴰ c old_cells → (c.left < 2 ^ 32) × (c.right < 2 ^ 32) × (c.value < 2 ^ 32)
    of c (Memᴰ.head e) = rw e (omega arith, omega arith, omega arith)
    of c (Memᴰ.tail m) = absurd (Memᴰ.not-nil m)

pub check_instance : CheckInstance
unfolding elem run runs walk check limited limited_runs
check_instance =
    record {
      within = record {
        root = each_cons (λ x. x ≤ 5) (omega arith) (each_nil (λ x. x ≤ 5));
        left = λ x reach. link_bound 5 x 2;
        right = λ x reach. link_bound 5 x 1;
      };
      before = turn (turn (begin (going_first (comb 5) (1 ∷ [])) 1 (Reach.root (Memᴰ.head refl))));
      left = refl;
      run = refl;
      enough = refl;
      turns = omega arith;
      entries = omega arith;
    }

pub worst_case_instance : WorstCaseInstance
unfolding elem visit visits preorder pair_count point_count tabulate every cell_count_of_length count set_count cell_count head register set_register cell set_cell lowest_free retain walk check limited limited_runs put_comb is_point is_used is_marked as_marked as_used link_of
worst_case_instance =
    record {
      target = omega arith;
      built = refl;
      half = omega arith;
      three_cells = omega arith;
      short = refl;
      five = omega arith;
      word = omega arith;
      one_less = omega arith;
      checked = refl;
    }

pub leftover_instance : LeftoverInstance
unfolding elem visit visits preorder pair_count point_count groups encode read_further read_groups read_at tabulate every cell_count_of_length count set_count cell_count register set_register cell set_cell lowest_free retain place_from flat_map read_each read_image put_each put_comb is_point is_used is_marked as_marked as_used link_of
leftover_instance =
    record {
      fits = record { least = omega arith; most = omega arith; few = omega arith; sum = refl };
      exact = record { least = omega arith; most = omega arith; few = omega arith; sum = refl };
      fresh = refl;
      built = refl;
      collected = refl;
      saved = refl;
      loaded = refl;
    }

pub batch_instance : BatchInstance
unfolding elem visit visits preorder pair_count point_count tabulate every cell_count_of_length count set_count cell_count head set_head register set_register cell set_cell lowest_free retain program_of program_of_calls run_from after_all pool_answers is_point is_used is_marked as_marked as_used link_of
batch_instance = record { program = refl; room = omega arith; run = refl; answer = Memᴰ.tail (Memᴰ.head refl) }

pub script_instance : ScriptInstance
unfolding all command space_of digit_of feed_of end_of begun_of digits decimal next_line
script_instance =
    record {
      some = omega arith;
      digits = refl;
      fewer = omega arith;
      ended = refl;
      more = refl;
      words = length-replicate {A = ℕ} (pool_length register_count cell_limit) 0;
      read = omega arith;
      begun = refl;
      over = refl;
    }
