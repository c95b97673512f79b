-- The encoding, a group at a time.
use Prim.Native.Nat.{ℕ, zero, suc, ◌+◌, ◌/◌, ◌%◌, ◌^◌, ◌<◌, ◌≤◌}
use mathlib.Core.Path.{◌≡◌, refl, ap, sym, ◌∙◌}
use mathlib.Core.List.{[], ◌∷◌}
use native.Mathlib.Nat.{pow-suc}
use native.Mathlib.Decide.{dec_lt}
use native.Mathlib.Omega.{arith}
use lib.ListN.{length}
use borrow.Author.Tests.{lt-ltb, le-ltb}
use Rattle.leb128.specs.Leb128.{groups, encode}

-- A number below 128 is one group, however many may follow.
pub groups-last : (more v : ℕ) → v < 128 → groups more v ≡ v ∷ []
unfolding groups
groups-last zero v small = refl
groups-last (suc more) v small = rw (groups, lt-ltb v 128 small)

-- A number of 128 or more is its lowest group and then the groups of what stands above it.
pub groups-more : (more v : ℕ) → 128 ≤ v → groups (suc more) v ≡ (v % 128 + 128) ∷ groups more (v / 128)
unfolding groups
groups-more more v large = rw (groups, le-ltb v 128 large)

-- Room for one more group changes nothing where there is enough.
enough : (more v : ℕ) → v < 128 ^ suc more → groups (suc more) v ≡ groups more v
enough zero v h = groups-last 1 v h ∙ sym (groups-last 0 v h)
enough (suc more) v h =
    elim (dec_lt v 128) [
      | yes small ↦ groups-last _ v small ∙ sym (groups-last _ v small)
      | no large ↦
          groups-more _ v (omega arith)
          ∙ ap (λ r. (v % 128 + 128) ∷ r) (enough more (v / 128) (omega (arith, pow-suc 128 (suc more))))
          ∙ sym (groups-more _ v (omega arith))
    ]

-- How many groups a number has: one where none may follow, one where it is below 128, and otherwise one more than what stands above it.
pub one_left : (v : ℕ) → 1 ≡ length (groups 0 v)
unfolding groups
one_left v = refl

pub one_group : (more v : ℕ) → v < 128 → 1 ≡ length (groups more v)
one_group more v small = sym (ap length (groups-last more v small))

pub one_more : (more n v : ℕ) → 128 ≤ v → n ≡ length (groups more (v / 128)) → suc n ≡ length (groups (suc more) v)
one_more more n v large e = ap suc e ∙ sym (ap length (groups-more more v large))

-- A number below 128 is its own byte; one of 128 or more is its lowest group and then the bytes of what stands above it.
pub encode-last : (v : ℕ) → v < 128 → encode v ≡ v ∷ []
unfolding encode
encode-last = groups-last 4

pub encode-more : (v : ℕ) → v < 2 ^ 32 → 128 ≤ v → encode v ≡ (v % 128 + 128) ∷ encode (v / 128)
unfolding encode
encode-more v fits large = groups-more 3 v large ∙ ap (λ r. (v % 128 + 128) ∷ r) (sym (enough 3 (v / 128) (omega arith)))

-- There is at least one group, and there are no more than may be.
groups-size : (more v : ℕ) → (1 ≤ length (groups more v)) × (length (groups more v) ≤ suc more)
groups-size zero v = omega (arith, one_left v)
groups-size (suc more) v =
    elim (dec_lt v 128) [
      | yes small ↦ omega (arith, one_group (suc more) v small)
      | no large ↦ omega (arith, groups-size more (v / 128), one_more more _ v (omega arith) refl)
    ]

pub encode-size : (v : ℕ) → (1 ≤ length (encode v)) × (length (encode v) ≤ 5)
unfolding encode
encode-size = groups-size 4
