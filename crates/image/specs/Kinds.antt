-- The kinds of the cells of an image (02, S-8).
use Rattle.std.specs.Prelude.{ℕ, Bool, cond, eqb}
use Rattle.pool.specs.declared.Kind.{Kind}
use Rattle.pool.specs.declared.Kind.TheVariants as kind

-- "In an image each cell begins with kind 0 or 1 (1 a point)" (02, S-8).
abbrev pub kind_number : Kind → ℕ
kind_number kind.Pair = 0
kind_number kind.Point = 1

-- The kind of a point, or of a pair.
abbrev pub kind_of : Bool → Kind
kind_of point = cond point kind.Point kind.Pair

-- The kind of that number, 0 or 1.
abbrev pub kind_numbered : ℕ → Kind
kind_numbered k = kind_of (eqb k 1)
