-- The examples of specs/Examples.antt, computed.
use Prim.Native.Nat.{ℕ}
use native.Mathlib.Omega.{arith}
use mathlib.Core.Path.{refl, ap}
use mathlib.Core.List.{List, [], flat_map}
use lib.ListN.{length, get_or}
use Rattle.graph.specs.Preorder.{elem, visit, visits, preorder}
use Rattle.pool.specs.Words.{tabulate, every}
use Rattle.pool.specs.States.{is_point, is_used}
use Rattle.pool.specs.Layout.{cell_count_of_length, count, cell_count, register, set_register, cell, link_of}
use Rattle.answers.specs.Outcome.{Outcome, answered, given}
use Rattle.leb128.specs.Leb128.{groups, encode}
use Rattle.image.specs.Image.{place_from}
use Rattle.batch.specs.Run.{answers_of}
use Rattle.observation.specs.Reads.{are_reads}
use Rattle.observation.specs.Examples.{SameExample, SharedExample, NorthExample}

pub same_example : SameExample
unfolding elem visit visits preorder tabulate every is_point is_used cell_count_of_length count cell_count register cell link_of groups encode place_from flat_map
same_example =
    record {
      whole = record { some = omega arith; cells = refl; is_well_formed = refl };
      whole' = record { some = omega arith; cells = refl; is_well_formed = refl };
      differ = λ e. omega (arith, ap length e);
      image = refl;
      image' = refl;
    }

pub shared_example : SharedExample
unfolding elem visit visits preorder tabulate every is_point is_used cell_count_of_length count cell_count register set_register cell link_of groups encode place_from flat_map answers_of are_reads
shared_example =
    record {
      whole = record { some = omega arith; cells = refl; is_well_formed = refl };
      whole' = record { some = omega arith; cells = refl; is_well_formed = refl };
      images = λ e. omega (arith, ap length e);
      reads_only = refl;
      said = refl;
      said' = refl;
      told = λ e. omega (arith, ap (λ (os : List Outcome). given (get_or os 2 (answered [])) 0 0) e);
    }

pub north_example : NorthExample
unfolding elem visit visits preorder tabulate every is_point is_used cell_count_of_length count cell_count register set_register cell link_of groups encode place_from flat_map answers_of are_reads
north_example =
    record {
      whole = record { some = omega arith; cells = refl; is_well_formed = refl };
      whole' = record { some = omega arith; cells = refl; is_well_formed = refl };
      images = λ e. omega (arith, ap (λ (bytes : List ℕ). get_or bytes 19 0) e);
      reads_only = refl;
      said = refl;
      said' = refl;
      told = λ e. omega (arith, ap (λ (os : List Outcome). given (get_or os 0 (answered [])) 0 0) e);
    }
