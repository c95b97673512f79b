-- `image_writer::NumberedPool::saved_register` meets its contract: the scratch holds the number of the link.
use native.Mathlib.Omega.{arith}
use mathlib.Core.Path.{ap, ◌∙◌}
use Rattle.pool.specs.Layout.{register_count}
use Rattle.image_writer.specs.Steps.{number_at}
use Rattle.image_writer.proofs.ImageNumber.{register_bound, register-saved}
use Rattle.image_writer.proofs.NumberedPool.saved_register.Goals as goal

pub link_number-requires : goal.link_number-requires
link_number-requires c =
    omega (
      arith,
      c.read_register.ensures,
      register_bound register_count _ c.args.self.now.words.now c.args.self.now.scratch.now c.args.self.now.savable _ c.requires,
      c.args.self.now.savable.scratch,
    )

pub returns : goal.returns
returns c =
    register-saved register_count _ _ c.args.self.now.scratch.now c.args.self.now.savable c.args.self.now.ordered _ _ c.requires
    (c.link_number.ensures ∙ ap (number_at c.args.self.now.scratch.now) c.read_register.ensures)
