-- The examples of specs/Examples.antt, computed.
use mathlib.Core.Path.{refl}
use Rattle.graph.specs.Preorder.{elem, visit, visits, preorder}
use Rattle.pool.specs.Words.{tabulate, every}
use Rattle.pool.specs.States.{is_point, is_used, is_marked, as_marked, as_used}
use Rattle.pool.specs.Layout.{cell_count_of_length, count, set_count, cell_count, head, set_head, register, set_register, cell, set_cell, link_of}
use Rattle.pool.specs.Retain.{lowest_free, retain}
use Rattle.reference.specs.Equivalence.{pool_answers, model_answers, none_distinguishes}
use Rattle.reference.specs.Examples.{Full, Apart, Alike}
use Rattle.reversal.specs.Reached.{pair_count, point_count}

pub examples : Full × Apart × Alike
unfolding elem visit visits preorder pair_count point_count tabulate every cell_count_of_length count set_count cell_count head set_head register set_register cell set_cell lowest_free retain pool_answers model_answers none_distinguishes is_point is_used is_marked as_marked as_used link_of
examples = ((refl, refl, refl), (refl, refl, refl), (refl, refl, refl))
