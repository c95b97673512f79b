-- The worked examples compute.
use mathlib.Core.Path.{refl}
use mathlib.Core.List.{flat_map}
use Rattle.graph.specs.Preorder.{elem, visit, visits, preorder}
use Rattle.leb128.specs.Leb128.{read_further, read_groups, read_at, groups, encode}
use Rattle.pool.specs.Words.{tabulate}
use Rattle.pool.specs.Layout.{register, cell, link_of}
use Rattle.pool.specs.States.{is_point}
use Rattle.image.specs.Image.{place_from, read_each, read_image}
use Rattle.image.specs.Example.{ImageExample, ReadExample, TruncatedExample, TooManyCellsExample, LinkRangeExample, PaddedExample, KindExample}

pub image_example : ImageExample
unfolding elem visit visits preorder groups encode tabulate register cell is_point link_of place_from flat_map
image_example = refl

pub read_example : ReadExample
unfolding read_further read_groups read_at read_each read_image
read_example = refl

pub truncated_example : TruncatedExample
unfolding read_further read_groups read_at read_each read_image
truncated_example = refl

pub too_many_cells_example : TooManyCellsExample
unfolding read_further read_groups read_at read_each read_image
too_many_cells_example = refl

pub link_range_example : LinkRangeExample
unfolding read_further read_groups read_at read_each read_image
link_range_example = refl

pub padded_example : PaddedExample
unfolding read_further read_groups read_at read_each read_image
padded_example = refl

pub kind_example : KindExample
unfolding read_further read_groups read_at read_each read_image
kind_example = (refl, refl)
