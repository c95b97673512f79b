-- The table of worked examples holds: each case is computed from the definitions.
use mathlib.Core.Path.{refl}
use Rattle.leb128.specs.Leb128.{groups, encode, read_further, read_groups, read_at}
use Rattle.graph.specs.Preorder.{elem, visit, visits, preorder}
use Rattle.pool.specs.Words.{tabulate, every}
use Rattle.pool.specs.States.{is_point, is_used, is_marked, as_marked, as_used}
use Rattle.pool.specs.Layout.{cell_count_of_length, count, cell_count, register, cell, link_of}
use Rattle.stack_algorithm.specs.Check.{walk, check, limited, limited_runs}
use Rattle.worst_case.specs.WorstCase.{put_comb}
use Rattle.image.specs.Image.{read_each, read_image}
use Rattle.worked_examples.specs.Table.{All, WorkedExamples}
use Rattle.reversal.specs.Reached.{pair_count, point_count}

pub worked_examples : WorkedExamples
unfolding All groups encode read_further read_groups read_at elem visit visits preorder pair_count point_count tabulate every cell_count_of_length count cell_count register cell read_each read_image walk check limited limited_runs put_comb is_point is_used is_marked as_marked as_used link_of
worked_examples = (refl, (refl, (refl, (refl, (refl, (refl, (refl, (refl, (refl, (refl, (refl, (refl, (refl, (refl, (refl, (refl, (refl, (refl, (refl, (refl, (refl, (refl, (refl, (refl, (refl, (refl, (refl, (refl, (refl, (refl, (refl, (refl, (refl, (refl, (refl, (refl, (refl, (refl, (refl, (refl, (refl, (refl, (refl, (refl, (refl, (refl, (refl, (refl, (refl, (refl, (refl, (refl, (refl, (refl, (refl, (refl, (refl, (refl, tt))))))))))))))))))))))))))))))))))))))))))))))))))))))))))
