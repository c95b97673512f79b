-- `image_writer::cell_size` meets its contract: the sizes of its numbers are summed.
use native.Mathlib.Omega.{arith}
use Rattle.leb128.proofs.Encoding.{encode-size}
use Rattle.image_writer.proofs.cell_size.Goals as goal

pub overflow_add-result : goal.overflow_add-result
overflow_add-result c = omega (arith, c.number_size-2.ensures, c.number_size.ensures, encode-size c.kind_number.result, encode-size c.args.cell.left)

pub overflow_add-result-2 : goal.overflow_add-result-2
overflow_add-result-2 c =
    omega (
      arith,
      c.number_size-3.ensures,
      c.number_size-2.ensures,
      c.number_size.ensures,
      encode-size c.kind_number.result,
      encode-size c.args.cell.left,
      encode-size c.args.cell.right,
    )

pub overflow_add-result-3 : goal.overflow_add-result-3
overflow_add-result-3 c =
    omega (
      arith,
      c.number_size-4.ensures,
      c.number_size-3.ensures,
      c.number_size-2.ensures,
      c.number_size.ensures,
      encode-size c.kind_number.result,
      encode-size c.args.cell.left,
      encode-size c.args.cell.right,
      encode-size c.args.cell.value,
    )
