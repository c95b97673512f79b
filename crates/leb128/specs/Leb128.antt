-- Numbers in groups of seven bits, lowest first (unsigned LEB128 of 32 bits), as document 01 has them in "Images", and what is proved of them.
use Rattle.std.specs.Prelude.{ℕ, zero, suc, ◌+◌, ◌-◌, ◌*◌, ◌/◌, ◌%◌, ◌^◌, ◌<◌, ◌≤◌, ◌≡◌, ◌↔◌, List, [], ◌∷◌, ◌++◌, true, false, cond, length, get_or, drop, eqb, ltb, Result, Ok, Err}
use Rattle.leb128.specs.declared.Number.{Number}
use Rattle.leb128.specs.declared.NumberError.{NumberError}
use Rattle.leb128.specs.declared.NumberError.TheVariants.{Missing, OutOfRange, Padded}

-- What a reader finds at a place of the bytes: a number and the place behind it, or why there is none.
abbrev pub Found : Type 0
Found = Result Number NumberError

-- The number v, up to the place `next`.
abbrev pub found : ℕ → ℕ → Found
found v next = Ok (record { value = v; next = next })

-- What was read, with another value; a refusal stays.
abbrev pub map_value : (ℕ → ℕ) → Found → Found
map_value f (Ok n) = found (f n.value) n.next
map_value f (Err why) = Err why

-- A group that ends a number, behind others: "A number whose last group is 0 is from now on accepted only if it is the single byte 00" (02, S-1).
abbrev pub last_group : ℕ → ℕ → Found
last_group b at = cond (eqb b 0) (Err Padded) (found b (at + 1))

-- A group that another follows: its seven bits stand below what is read behind it.
abbrev pub below : ℕ → Found → Found
below b = map_value (λ high. (b - 128) + 128 * high)

-- Reads the groups behind a number's first one off the front of a list whose first byte has the place `at`; up to `more` may follow the next one:
-- "the byte's top bit (80 hexadecimal) says that another group follows. A reader takes up to five groups, the fifth at most 0F."
unfoldable pub read_further : ℕ → List ℕ → ℕ → Found
read_further more [] at = Err Missing
read_further zero (b ∷ bytes) at = cond (ltb b 16) (last_group b at) (Err OutOfRange)
read_further (suc more) (b ∷ bytes) at =
    elim (ltb b 128) [
      | true ↦ last_group b at
      | false ↦ below b (read_further more bytes (at + 1))
    ]

-- Reads a number: its first group, and then up to four more.
unfoldable pub read_groups : List ℕ → ℕ → Found
read_groups [] at = Err Missing
read_groups (b ∷ bytes) at =
    elim (ltb b 128) [
      | true ↦ found b (at + 1)
      | false ↦ below b (read_further 3 bytes (at + 1))
    ]

-- The number at a place of the bytes: "are all its bytes there, the first five at most? No: 6", which is `Missing`.
-- "Is it below 2^32 in five groups? No: 7", which is `OutOfRange`. "12 for a padded number, after 7" (02, S-1), which is `Padded`.
unfoldable pub read_at : List ℕ → ℕ → Found
read_at bytes at = read_groups (drop at bytes) at

-- The groups of a number, where up to `more` may follow the first; 128, the top bit, on each that another follows.
-- "The writer uses the fewest groups": what is below 128 is the last.
unfoldable pub groups : ℕ → ℕ → List ℕ
groups zero v = v ∷ []
groups (suc more) v =
    elim (ltb v 128) [
      | true ↦ v ∷ []
      | false ↦ (v % 128 + 128) ∷ groups more (v / 128)
    ]

-- The bytes of a number below 2^32: five at most.
unfoldable pub encode : ℕ → List ℕ
encode v = groups 4 v

-- Every element of the list is a byte (past the end of a list `get_or` gives the 0 that is named).
abbrev pub Bytes : List ℕ → Type 0
Bytes bytes = (i : ℕ) → get_or bytes i 0 < 256

-- The bytes from the place `at` up to the place `next` are `here`.
pub record Between (bytes : List ℕ) (at next : ℕ) (here : List ℕ) : Type 0 where
  pub behind : next ≡ at + length here
  pub from : drop at bytes ≡ here ++ drop next bytes

-- What reads as v, up to the place `next`, is exactly the encoding of v, whatever stands around it: each number has one spelling. So what was
-- written is read again, and no other bytes read as the same number.
abbrev pub ReadsEncodings : Type 0
ReadsEncodings = (bytes : List ℕ) (at v next : ℕ) → Bytes bytes → (read_at bytes at ≡ found v next) ↔ ((v < 2 ^ 32) × Between bytes at next (encode v))

-- An encoding is one to five bytes.
pub record Encoding (v : ℕ) : Type 0 where
  pub some : 1 ≤ length (encode v)
  pub most : length (encode v) ≤ 5
  pub bytes : Bytes (encode v)

-- So is every number below 2^32.
abbrev pub OneToFiveBytes : Type 0
OneToFiveBytes = (v : ℕ) → v < 2 ^ 32 → Encoding v
