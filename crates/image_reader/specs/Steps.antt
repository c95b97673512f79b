-- The steps of reading an image: what its functions answer, as what they read.
use Rattle.std.specs.Prelude.{ℕ, cond, Result, Ok, Err}
use Rattle.pool.specs.States.{is_point_kind}
use Rattle.image.specs.Image.{Parsed, parsed, fault}
use Rattle.pool.specs.declared.Kind.{Kind}
use Rattle.image_reader.specs.declared.KindRead.{KindRead}
use Rattle.leb128.specs.declared.Number.{Number}
use Rattle.answers.specs.declared.Refusal.{Refusal}

-- A number, or why it is refused.
abbrev pub field_parsed : Result Number Refusal → Parsed ℕ
field_parsed (Ok n) = parsed n.value n.next
field_parsed (Err why) = fault why

-- A kind, or why it is refused.
abbrev pub kind_parsed : Result KindRead Refusal → Parsed Kind
kind_parsed (Ok k) = parsed k.kind k.next
kind_parsed (Err why) = fault why

-- The highest number that may stand to the left or right in a cell of that kind, of an image of K cells: a pair's links are at most K; of a point any number
-- of 32 bits may stand there.
abbrev pub highest_word : ℕ → Kind → ℕ
highest_word K kind = cond (is_point_kind kind) 4294967295 K
