-- The cell of each number, put behind the numbers.
use Prim.Native.Nat.{ℕ, ◌+◌, ◌-◌, ◌<◌, ◌≤◌}
use mathlib.Core.Path.{◌≡◌}
use mathlib.Core.List.{List}
use lib.ListN.{length, get_or}

-- The cells from i on are done: cell x + 1 has the number at place x.
pub record Listing (n : ℕ) (s₀ s : List ℕ) (i : ℕ) : Type 0 where
  pub len : length s ≡ length s₀
  pub few : i ≤ n
  pub numbers : (x : ℕ) → x < n → get_or s x 0 ≡ get_or s₀ x 0
  pub cells : (x : ℕ) → i ≤ x → x < n → 0 < get_or s₀ x 0 → ((y : ℕ) → y < n → get_or s₀ y 0 ≡ get_or s₀ x 0 → y ≡ x)
      → get_or s (n + (get_or s₀ x 0 - 1)) 0 ≡ x + 1
