-- Each theorem applied to its instance: the hypotheses that specs/Instances.antt states are those of the theorems, and all of them.
use native.Mathlib.Omega.{arith}
use mathlib.Core.Path.{refl, ◌∙◌}
use mathlib.Core.List.{[], ◌∷◌, ◌++◌}
use lib.ListN.{replicate}
use Rattle.leb128.proofs.Theorems.{reads_encodings, one_to_five_bytes}
use Rattle.graph.specs.Dfs.{marks}
use Rattle.graph.specs.Marking.{outside}
use Rattle.graph.proofs.Theorems.{preorder-reached, preorder-distinct, preorder-length, preorder_depth, preorder-agree, marked-reached, marked-count}
use Rattle.graph.proofs.Pairing.{length-paired, preorder-paired, pairing_kept}
use Rattle.graph.proofs.Reached.{reach_agree}
use Rattle.pool.specs.Layout.{register_count, cell, is_point_at}
use Rattle.pool.specs.States.{is_point}
use Rattle.answers.specs.Outcome.{answered}
use Rattle.pool.specs.Retain.{fresh_words}
use Rattle.pool.proofs.RetainedPool.{retained_free_list}
use Rattle.pool.proofs.Sizes.{lengths_of_pools, leftover_count}
use Rattle.pool.proofs.FreshPool.{fresh_is_free}
use Rattle.questions.proofs.FreshPool.{fresh_is_well_formed}
use Rattle.occupancy.proofs.Nearest.{occupancy_is_nearest}
use Rattle.reversal.specs.Reached.{is_reached, pair_count, point_count}
use Rattle.collector.proofs.CollectTheorem.{collection-keeps_the_reached, collection-marks_and_sweeps}
use Rattle.reversal.proofs.Roots.{run-from_roots, run-over_pool}
use Rattle.visit.specs.Visit.{marker}
use Rattle.reversal.specs.ReversalTheorem.{mark_all}
use Rattle.reversal.proofs.Run.{run-from_link}
use Rattle.visit.proofs.Cases.{visit_is_by_case}
use Rattle.reversal.proofs.Followed.{run-follows, followed-once, followed-count}
use Rattle.stack_algorithm.specs.StackTheorem.{chain}
use Rattle.stack_marker.specs.StackExample.{fork_pool}
use Rattle.stack_algorithm.proofs.Chain.{equal-links_need_none}
use Rattle.stack_marker.proofs.StackCollects.{stack_collects}
use Rattle.stack_algorithm.proofs.Going.{stack-ends, stack-marks_the_reached, stack-marks_once, stack_bound}
use Rattle.stack_algorithm.proofs.Cases.{stack_cases}
use Rattle.stack_algorithm.specs.Comb.{comb}
use Rattle.stack_algorithm.proofs.Comb.{comb-reached}
use Rattle.stack_algorithm.proofs.CombChecks.{comb_checks, comb-without_words}
use Rattle.stack_algorithm.proofs.Checking.{check_loses_nothing, limited-marks_the_reached, limited-marks_only_reached, few_checks}
use Rattle.stack_algorithm.proofs.NoCheck.{no_check}
use Rattle.stack_algorithm.proofs.Longer.{limited-ends}
use Rattle.worst_case.proofs.Theorems.{worst_case_built, no_pool_holds_more, half_is_enough, fewer_are_checked, none_is_not_enough, one_less_is_checked}
use Rattle.calls.specs.declared.Call.TheVariants as call
use Rattle.batch.proofs.Whole.{runs-one_after_the_other}
use Rattle.invariant.proofs.Theorems.{reached_pools}
use Rattle.invariant.proofs.Memory.{refused_when_full}
use Rattle.reference.proofs.Theorems.{equivalence, equivalence_at_limit, never_malformed}
use Rattle.reference.proofs.RunEquivalence.{run_equivalence}
use Rattle.load.proofs.Theorems.{check_is_load, load_is_well_formed}
use Rattle.image.proofs.Images.{reads_image_bytes, one-image}
use Rattle.image.proofs.OldForm.{old-image_refused}
use Rattle.save.proofs.RoundTrip.{load-then_save, save-then_load}
use Rattle.observation.specs.Examples as observed
use Rattle.observation.proofs.Examples.{same_example}
use Rattle.observation.proofs.Theorems.{same_file, saved-same_file, loaded_answers_alike, collected_answers_alike}
use Rattle.leftovers.specs.Leftovers as leftovers
use Rattle.leftovers.proofs.Stay.{leftovers_stay}
use Rattle.leftovers.proofs.Unseen.{leftovers_unseen}
use Rattle.std.specs.Prelude.{Some}
use Rattle.lines.specs.declared.Line.TheVariants as line
use Rattle.script.specs.Reader.{new_reader}
use Rattle.script.proofs.Scanning.{parts_read}
use Rattle.replies.proofs.Decimals.{decimals_read_back, fewest_digits}
use Rattle.runner.specs.Work.{initial}
use Rattle.runner.proofs.Whole.{starts_whole, parts_join, last-line_ends}
use Rattle.instances.specs.Instances.{mixed, mixed_image, old_cells, around, three, three_collected, two, graph, roots, two_runs, Swapped, image, image_of_two, words, scratch, output, calls, list, lent, lent_for_five, behind, longer, out, padded, lines, progress, largest}
use Rattle.instances.proofs.Instances.{pool_instance, reversal_instance, runs_instance, graph_instance, number_instance, occupancy_instance, image_instance, point_instance, check_instance, worst_case_instance, leftover_instance, batch_instance, script_instance}

pub applied : Unit {0}
unfolding pair_count point_count is_point cell
applied =
    let p = pool_instance in
    let r = reversal_instance in
    let v = runs_instance in
    let g = graph_instance in
    let k = number_instance in
    let o = occupancy_instance in
    let i = image_instance in
    let m = point_instance in
    let l = leftover_instance in
    let b = batch_instance in
    let s = script_instance in
    let h = check_instance in
    let c = worst_case_instance in
    let t = collection-keeps_the_reached 3 three p.some p.cells p.is_well_formed in
    let t = collection-marks_and_sweeps 3 three p.some p.cells p.is_well_formed in
    let t = stack_collects 3 three (9 ∷ []) p.some p.cells p.is_well_formed in
    let t = run-over_pool register_count 3 three p.room p.is_well_formed in
    let t = followed-once register_count 3 two_runs v.room v.is_well_formed v.last v.runs in
    let t = followed-count register_count 3 two_runs v.room v.is_well_formed v.last v.runs in
    let t = retained_free_list register_count 3 (is_reached register_count 3 three) three p.some p.room in
    let t = (lengths_of_pools register_count 3 2 32).0 l.fits in
    let t = fresh_is_well_formed 3 2 longer l.fits in
    let t = fresh_is_free 3 lent p.some (omega arith) in
    let t = equivalence 3 2 2 longer calls l.fits in
    let t = equivalence 3 0 2 lent calls l.exact in
    let t = equivalence_at_limit 3 2 longer calls l.fits in
    let t = reached_pools 3 2 longer calls l.fits in
    let t = leftovers_stay (leftovers.call call.Collect) (three ++ behind) in
    let t = leftovers_unseen (three ++ behind) in
    let t = leftover_count register_count 3 2 longer l.fits in
    let visits = run-from_link register_count 3 (graph three) (is_point_at register_count three) (outside 3) 1 (1 ∷ 2 ∷ []) three r.agreement r.dfs r.unmarked 4 0 in
    let t = run-follows register_count 3 (graph three) (is_point_at register_count three) (outside 3) 1 (2 ∷ []) 0 three (6, mark_all register_count three (1 ∷ 2 ∷ [])) r.agreement r.dfs (6, 1, visits) in
    let t = visit_is_by_case register_count 3 (marker 1 4 0, three) r.visitable in
    let t = run-from_roots register_count 3 (graph three) (is_point_at register_count three) (outside 3) (roots three) (1 ∷ 2 ∷ []) three r.agreement r.all g.within.root in
    let t = preorder-reached 3 (graph three) (roots three) g.within in
    let t = preorder-distinct 3 (graph three) (roots three) g.within in
    let t = preorder-length 3 (graph three) (roots three) g.within in
    let t = preorder_depth 3 (graph three) (roots three) g.within 4 g.deeper in
    let t = marked-reached 3 (graph three) (roots three) g.within (marks (outside 3) (1 ∷ 2 ∷ [])) g.closure 3 p.some (omega arith) in
    let t = marked-count 3 (graph three) (roots three) g.within (marks (outside 3) (1 ∷ 2 ∷ [])) g.closure in
    let t = reach_agree (graph three) (graph three_collected) (roots three) g.agree in
    let t = preorder-agree 3 (graph three) (graph three_collected) (roots three) g.within g.agree in
    let t = length-paired 3 (graph three) (roots three) 2 (graph two) (roots two) g.within g.within_two g.lengths g.paired in
    let t = preorder-paired 3 (graph three) (roots three) 2 (graph two) (roots two) g.within g.within_two g.lengths g.paired in
    let t = pairing_kept (graph three) (roots three) (graph two) (roots two) Swapped g.relation g.related_roots g.related_links in
    let t = stack-ends 3 (graph three) (roots three) g.within 4 g.turns in
    let t = stack-marks_the_reached 3 (graph three) (roots three) g.within in
    let t = stack-marks_once 3 (graph three) (roots three) g.within in
    let t = stack_bound 3 (graph three) (roots three) g.within in
    let t = ((stack_cases 2 (graph three) (1 ∷ [])).1 1 []).equal g.equal.0 g.equal.1 g.equal.2 in
    let t = ((stack_cases 2 (graph fork_pool) (1 ∷ [])).1 1 []).both g.both.0 g.both.1 g.both.2 in
    let t = equal-links_need_none 3 (chain 3) (1 ∷ []) g.links_equal in
    let t = ((stack_cases 2 (graph three) (2 ∷ [])).1 2 []).left g.left.0 g.left.1 in
    let t = ((stack_cases 2 (graph three) (1 ∷ [])).1 2 []).none g.none.0 g.none.1 in
    let t = ((stack_cases 2 (graph three) (1 ∷ [])).1 3 []).right g.right.0 g.right.1 in
    let t = comb-reached 3 3 p.some (omega arith) in
    let t = worst_case_built lent c.target in
    let t = no_pool_holds_more register_count 3 three p.is_well_formed in
    let t = half_is_enough 3 three (9 ∷ []) p.some p.cells p.is_well_formed c.half in
    let t = fewer_are_checked lent_for_five (9 ∷ []) c.five c.word in
    let t = none_is_not_enough lent c.three_cells in
    let t = one_less_is_checked lent_for_five (9 ∷ []) c.one_less in
    let t = check_loses_nothing 5 (comb 5) (1 ∷ []) (1 ∷ 3 ∷ 2 ∷ 5 ∷ 4 ∷ []) (5 ∷ 4 ∷ []) (2 ∷ []) h.before in
    let t = limited-ends 1 5 (comb 5) (1 ∷ []) h.within 6 h.turns in
    let t = limited-marks_the_reached 1 5 (comb 5) (1 ∷ []) h.within h.enough in
    let t = limited-marks_only_reached 1 5 (comb 5) (1 ∷ []) h.within in
    let t = (no_check 2 5 (comb 5) (1 ∷ []) h.within).1 h.entries in
    let t = few_checks 1 5 (comb 5) (1 ∷ []) h.within in
    let t = comb_checks 5 1 c.word in
    let t = comb-without_words 3 (omega arith) in
    let t = one_to_five_bytes 4294967295 k.largest in
    let t = (reads_encodings around 1 300 3 k.bytes).0 k.read in
    let t = (reads_encodings around 1 300 3 k.bytes).1 k.encoded in
    let t = decimals_read_back 4294967295 k.largest in
    let percent = occupancy_is_nearest 3 40 o.questions.0 o.questions.1 o.questions.2 in
    let t = (percent.2 8).0 o.nearest in
    let t = o.nearest.even o.half in
    let t = check_is_load 2 0 image words (omega arith) i.size in
    let t = load_is_well_formed words image i.accepted in
    let t = saved-same_file three two scratch scratch output output 26 26 (replicate 6 0) (replicate 6 0) (image ++ 9 ∷ 9 ∷ []) (image ++ 9 ∷ 9 ∷ []) i.saved (i.saved_two ∙ i.saved) in
    let t = loaded_answers_alike three scratch output 26 (replicate 6 0) (image ++ 9 ∷ 9 ∷ []) words i.words32 i.saved i.target i.fit in
    let t = collected_answers_alike 3 three (record { some = p.some; cells = p.cells; is_well_formed = p.is_well_formed }) in
    let t = same_file 3 4 observed.three observed.four same_example.whole same_example.whole' in
    let t = save-then_load three scratch output 26 (replicate 6 0) (image ++ 9 ∷ 9 ∷ []) words i.words32 i.saved i.target i.fit in
    let t = load-then_save words image image_of_two 26 i.bytes i.target i.read i.ordered scratch output i.room in
    let t = reads_image_bytes register_count _ image image_of_two 26 i.bytes i.read in
    let t = one-image register_count _ 3 image (image ++ 9 ∷ 9 ∷ []) image_of_two 26 26 i.bytes i.other_bytes i.read i.other_read in
    let t = runs-one_after_the_other list calls (fresh_words register_count 3 longer) out b.program b.room in
    let t = run_equivalence 3 2 2 longer list out calls l.fits b.program b.room in
    let t = never_malformed 3 2 longer calls l.fits (answered (1 ∷ 3 ∷ [])) b.answer in
    let t = refused_when_full 3 2 longer calls (call.New 0 0 0 7) l.fits refl refl in
    let t = refused_when_full 3 2 longer calls (call.Point 0 7 1 2) l.fits refl refl in
    let t = collection-keeps_the_reached 3 mixed p.some m.cells m.is_well_formed in
    let t = save-then_load mixed scratch (replicate 31 9) 30 (replicate 6 0) (mixed_image ++ 9 ∷ []) (replicate 30 5) m.words32 m.saved m.target m.fit in
    let t = old-image_refused 1 3 (1 ∷ []) old_cells refl m.old_some m.old in
    let t = fewest_digits padded s.some s.digits in
    let t = (parts_read new_reader lines [] 0).line (Some (line.Run call.Collect)) 2 s.ended in
    let t = (parts_read new_reader lines [] 2).more progress.reader s.more in
    let t = starts_whole largest lines [] s.words in
    let t = parts_join largest lines lines [] progress s.read in
    let t = (last-line_ends largest progress).begun s.begun in
    let t = (last-line_ends largest initial).over s.over in
    tt
