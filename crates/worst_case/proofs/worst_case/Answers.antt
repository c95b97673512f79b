-- `worst_case::worst_case` meets its contract: the length decides, and the words are blanked, register 0 leads to cell 1, and the comb is written.
use native.Mathlib.Omega.{arith}
use lib.ListN.{length}
use Rattle.pool.specs.Layout.{register_count}
use Rattle.pool.proofs.Sizes.{counted_sized}
use Rattle.worst_case.proofs.Built.{worst_case_made}
use Rattle.worst_case.proofs.worst_case.Goals as goal

pub blank-requires : goal.blank-requires
blank-requires c = (counted_sized register_count (length c.args.words.now) c.in-Some.ensures.0 c.in-Some.ensures.1).room

pub write_register-requires : goal.write_register-requires
write_register-requires c = (omega arith, omega (arith, counted_sized register_count (length c.args.words.now) c.in-Some.ensures.0 c.in-Some.ensures.1, c.blank.auto.words))

pub put_comb-requires : goal.put_comb-requires
put_comb-requires c =
    let fits = counted_sized register_count (length c.args.words.now) c.in-Some.ensures.0 c.in-Some.ensures.1 in
    (omega (arith, fits, c.blank.auto.words, c.write_register.auto.words), fits.most)

pub returns : goal.returns
returns c = worst_case_made _ _ c.in-Some.ensures.0 c.in-Some.ensures.1 c.blank.ensures c.write_register.ensures c.put_comb.ensures
