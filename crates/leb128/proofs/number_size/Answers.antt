-- `leb128::number_size` meets its contract: at each `return` the tests that led there say how many groups the number has.
use native.Mathlib.Omega.{arith}
use Rattle.leb128.specs.Leb128.{encode}
use Rattle.leb128.proofs.Encoding.{one_left, one_group, one_more}
use Rattle.leb128.proofs.number_size.Goals as goal

pub returns-then-v-lt128 : goal.returns-then-v-lt128
unfolding encode
returns-then-v-lt128 c = one_group 4 _ (omega arith)

pub returns-then-v-lt16384 : goal.returns-then-v-lt16384
unfolding encode
returns-then-v-lt16384 c = one_more 3 1 _ (omega arith) (one_group 3 _ (omega arith))

pub returns-then-v-lt2097152 : goal.returns-then-v-lt2097152
unfolding encode
returns-then-v-lt2097152 c = one_more 3 2 _ (omega arith) (one_more 2 1 _ (omega arith) (one_group 2 _ (omega arith)))

pub returns-then-v-lt-FIFTH : goal.returns-then-v-lt-FIFTH
unfolding encode
returns-then-v-lt-FIFTH c = one_more 3 3 _ (omega arith) (one_more 2 2 _ (omega arith) (one_more 1 1 _ (omega arith) (one_group 1 _ (omega arith))))

pub returns-else-v-lt-FIFTH : goal.returns-else-v-lt-FIFTH
unfolding encode
returns-else-v-lt-FIFTH c = one_more 3 4 _ (omega arith) (one_more 2 3 _ (omega arith) (one_more 1 2 _ (omega arith) (one_more 0 1 _ (omega arith) (one_left _))))
