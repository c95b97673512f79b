-- `load::load_at` meets its contract: the length, then the scan, which writes nothing; then the words are filled, and the cells behind those of the image freed.
use native.Mathlib.Omega.{arith}
use lib.ListN.{length}
use Rattle.pool.specs.Layout.{register_count}
use Rattle.pool.proofs.Sizes.{counted_sized}
use Rattle.load.proofs.Loading.{load-refused, load_filled, load-whole}
use Rattle.load.proofs.load_at.Goals as goal

pub fill-requires : goal.fill-requires
fill-requires c = omega (arith, counted_sized register_count (length c.args.words.now) c.in-Some.ensures.0 c.in-Some.ensures.1)

pub bounds-words-0 : goal.bounds-words-0
bounds-words-0 c = omega (arith, counted_sized register_count (length c.args.words.now) c.in-Some.ensures.0 c.in-Some.ensures.1, c.fill.auto.words)

pub free_above-requires : goal.free_above-requires
free_above-requires c =
    load_filled c.args.words.now c.args.bytes.now _ c.in-Some.ensures.0 c.in-Some.ensures.1 _
    c.scan_image.ensures _ _ c.in-Ok.is c.fill.new.words c.fill.ensures

pub returns-in-Err : goal.returns-in-Err
returns-in-Err c = load-refused _ _ _ c.in-Some.ensures.0 c.in-Some.ensures.1 _ c.scan_image.ensures _ c.in-Err.is

pub returns-in-Ok : goal.returns-in-Ok
returns-in-Ok c =
    load-whole c.args.words.now c.args.bytes.now _ c.in-Some.ensures.0 c.in-Some.ensures.1 _
    c.scan_image.ensures _ _ c.in-Ok.is c.fill.new.words c.fill.ensures _
    c.free_above.ensures
