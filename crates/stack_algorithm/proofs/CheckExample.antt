-- The checks that were worked out by hand, computed.
use mathlib.Core.Path.{refl}
use Rattle.graph.specs.Preorder.{elem}
use Rattle.stack_algorithm.specs.Check.{walk, check, limited, limited_runs}
use Rattle.stack_algorithm.specs.CheckExample.{CheckExamples}

pub check_examples : CheckExamples
unfolding elem walk check limited limited_runs
check_examples =
    record {
      tree = refl;
      equal = refl;
      vain = refl;
      answer = (refl, refl);
      left = refl;
      order = refl;
      gaps = refl;
      more_checks = (refl, refl);
      not_enough = (refl, refl);
    }
