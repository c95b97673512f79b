-- The text of a reply (01, "Strips flown on paper"), and what is proved of it.
use Rattle.std.specs.Prelude.{ℕ, zero, suc, ◌+◌, ◌/◌, ◌%◌, ◌^◌, ◌<◌, ◌≤◌, ◌≡◌, List, [], ◌∷◌, ◌++◌, true, false, cond, length, take, drop, ltb, leb, Option, Some, None}
use Prim.Native.Char.{code}
use Rattle.std.proofs.lemmas.List.Edits.{sets}
use Rattle.answers.specs.Outcome.{Outcome, answered, allocated, refused, answer_outcome}
use Rattle.lines.specs.Lines.{is_digit, all, is_number, decimal_value}
use Rattle.replies.specs.declared.Reply.{Reply}
use Rattle.replies.specs.declared.Reply.TheVariants as reply

-- The decimal of a number, where up to `more` digits may stand before the last.
unfoldable pub digits : ℕ → ℕ → List ℕ
digits zero v = (code "0" + v) ∷ []
digits (suc more) v =
    elim (ltb v 10) [
      | true ↦ (code "0" + v) ∷ []
      | false ↦ digits more (v / 10) ++ (code "0" + v % 10) ∷ []
    ]

-- The decimal of a number, the highest digit first, with no zero in front; 0 is one digit. (A number has no more digits than its value and one.)
unfoldable pub decimal : ℕ → List ℕ
decimal v = digits v v

-- A number after a space.
abbrev pub after_space : ℕ → List ℕ
after_space x = code " " ∷ decimal x

-- Numbers, each after a space, and the line end.
unfoldable pub spaced : List ℕ → List ℕ
spaced [] = code "\n" ∷ []
spaced (x ∷ numbers) = after_space x ++ spaced numbers

-- "It prints "ok" and the answer's numbers (visits only for g), or "no" and the refusal", and the line end: the visits of an allocation are not printed.
abbrev pub outcome_text : Outcome → List ℕ
outcome_text (answered numbers) = code "o" ∷ code "k" ∷ spaced numbers
outcome_text (allocated visits) = code "o" ∷ code "k" ∷ spaced []
outcome_text (refused k) = code "n" ∷ code "o" ∷ spaced (k ∷ [])

-- "A line of another form prints "bad"."
abbrev pub reply_text : Reply → List ℕ
reply_text reply.Bad = code "b" ∷ code "a" ∷ code "d" ∷ code "\n" ∷ []
reply_text (reply.Answered answer) = outcome_text (answer_outcome answer)

-- A text is put at a place of the bytes: the place behind it, and the bytes afterwards.
pub record PutText (out : List ℕ) (at : ℕ) (text : List ℕ) (next : ℕ) (after : List ℕ) : Type 0 where
  pub behind : next ≡ at + length text
  pub bytes : after ≡ sets out at text

-- The room that is asked for, whatever the text.
abbrev pub reply_room : ℕ
reply_room = 25

-- Writes a text at a place: the answer and the bytes afterwards. Without room nothing changes.
unfoldable pub reply_at : List ℕ → ℕ → List ℕ → Option ℕ × List ℕ
reply_at out at text =
    let next = at + length text in
    cond (leb (at + reply_room) (length out)) (Some next, take at out ++ text ++ drop next out) (None, out)

-- A decimal is read as its number.
pub record ReadBack (v : ℕ) : Type 0 where
  pub number : is_number (decimal v) ≡ true
  pub value : decimal_value (decimal v) ≡ v

-- So is every number below 2^32.
abbrev pub DecimalsReadBack : Type 0
DecimalsReadBack = (v : ℕ) → v < 2 ^ 32 → ReadBack v

-- No digits with the same value are fewer.
abbrev pub FewestDigits : Type 0
FewestDigits = (word : List ℕ) → 0 < length word → all is_digit word ≡ true → length (decimal (decimal_value word)) ≤ length word
