-- The script of document 01, and one with points (02, S-8), and what they print.
use Rattle.std.specs.Prelude.{ℕ, ◌≡◌, List, [] as none, ◌∷◌ as ◌then◌}
use Prim.Native.Char.{code}
use Prim.Native.String.{String, [], ◌∷◌}
use Rattle.interpreter.specs.Execute.{printed}

-- The bytes of a text.
unfoldable pub bytes_of : String → List ℕ
bytes_of [] = none
bytes_of (c ∷ text) = code c then bytes_of text

-- "Input f 2 / n 0 0 0 7 / n 1 0 0 8 / n 2 1 1 9 / z 0 / z 1 / n 2 1 1 9 / v 2 / g, a line each, prints ok, ok, ok, no 5, ok, ok, ok, ok 9, ok 1 3, a
-- line each."
abbrev pub TranscriptExample : Type 0
TranscriptExample =
    printed (bytes_of "f 2\nn 0 0 0 7\nn 1 0 0 8\nn 2 1 1 9\nz 0\nz 1\nn 2 1 1 9\nv 2\ng\n")
    ≡ bytes_of "ok\nok\nok\nno 5\nok\nok\nok\nok 9\nok 1 3\n"

-- Two points and a pair that leads to them; then the pair alone is held. East of the pair is refused (13), and so is left of the point on its left; east and
-- north of that are 100 and 200, and its value can be set. Register 1 is nil (4), and there is no register 16 (2). Kept are 3 cells, with 3 visits of the pair and
-- one of each point; so no cell is free for another (5).
abbrev pub PointExample : Type 0
PointExample =
    printed (bytes_of "f 3\np 0 7 100 200\np 1 8 4294967295 0\nn 2 0 1 9\nz 0\nz 1\ne 2\nl 0 2\ne 0\no 0\nl 1 0\nV 0 5\nv 0\ne 1\np 16 1 2 3\ng\np 1 8 1 2\n")
    ≡ bytes_of "ok\nok\nok\nok\nok\nok\nno 13\nok\nok 100\nok 200\nno 13\nok\nok 5\nno 4\nno 2\nok 3 5\nno 5\n"
