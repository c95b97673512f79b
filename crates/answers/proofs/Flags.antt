-- A flag as a number: 1 for yes, 0 for no.
use mathlib.Core.Path.{◌≡◌, refl}
use mathlib.Core.Bool.{Bool, true, false, cond}
use Rattle.std.specs.Int.{from_bool}

pub flag_number : (yes : Bool) → from_bool yes ≡ cond yes 1 0
flag_number true = refl
flag_number false = refl
