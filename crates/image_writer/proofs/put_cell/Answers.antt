-- `image_writer::put_cell` meets its contract: its numbers are written one behind the other.
use native.Mathlib.Omega.{arith}
use mathlib.Core.List.{◌++◌}
use Rattle.leb128.specs.Leb128.{encode}
use Rattle.image.specs.Kinds.{kind_number}
use Rattle.image_writer.proofs.ImageBytes.{put_append}
use Rattle.image_writer.proofs.put_cell.Goals as goal

pub returns : goal.returns
returns c =
    let kind = encode (kind_number c.args.cell.kind) in
    let left = encode c.args.cell.left in
    let right = encode c.args.cell.right in
    put_append ((kind ++ left) ++ right) _ _ _ _ _ _ _ (omega (arith, c.requires))
    (put_append (kind ++ left) right _ _ _ _ _ _ (omega (arith, c.requires))
    (put_append kind left _ _ _ _ _ _ (omega (arith, c.requires)) (rw c.kind_number.ensures at c.write_number-behind_kind.ensures) c.write_number-behind_left.ensures)
    c.write_number-behind_right.ensures)
    c.write_number.ensures
