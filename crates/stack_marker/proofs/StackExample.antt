-- The worked examples, computed.
use mathlib.Core.Path.{refl}
use Rattle.graph.specs.Preorder.{elem, visit, visits, preorder}
use Rattle.pool.specs.Words.{tabulate, every}
use Rattle.pool.specs.States.{is_point, is_used, is_marked, as_marked, as_used}
use Rattle.pool.specs.Layout.{cell_count_of_length, count, cell_count, head, register, cell, set_cell, link_of}
use Rattle.pool.specs.Retain.{lowest_free, retain}
use Rattle.stack_algorithm.specs.Check.{check, limited, limited_runs}
use Rattle.stack_marker.specs.StackExample.{LeafExample, ForkExample}
use Rattle.reversal.specs.Reached.{pair_count, point_count}

pub leaf_example : LeafExample
unfolding elem visit visits preorder pair_count point_count tabulate every cell_count_of_length count cell_count head register cell set_cell lowest_free retain check limited limited_runs is_point is_used is_marked as_marked as_used link_of
leaf_example = (refl, refl)

pub fork_example : ForkExample
unfolding elem visit visits preorder pair_count point_count tabulate every cell_count_of_length count cell_count head register cell set_cell lowest_free retain check limited limited_runs is_point is_used is_marked as_marked as_used link_of
fork_example = (refl, refl)
