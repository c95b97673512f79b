-- The worked examples, computed.
use mathlib.Core.Path.{refl}
use Rattle.pool.specs.Layout.{cell_count_of_length, set_count, set_register, set_cell}
use Rattle.worst_case.specs.WorstCase.{put_comb}
use Rattle.worst_case.specs.Example.{WorstCaseExample}

pub worst_case_example : WorstCaseExample
unfolding cell_count_of_length set_count set_register set_cell put_comb
worst_case_example = (refl, refl, refl)
