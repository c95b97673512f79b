-- The steps of load.
use Rattle.std.specs.Prelude.{ℕ, ◌≡◌}
use Rattle.image.specs.Image.{Parsed, parsed}

-- Something holds of what was read and of the place behind it, if it is not refused.
abbrev pub WhereRead : {A : Type 0} → Parsed A → (A → ℕ → Type 0) → Type 0
WhereRead {A} read P = (x : A) (end : ℕ) → read ≡ parsed x end → P x end
