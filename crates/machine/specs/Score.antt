-- Document 01, "The table's bytes": the score after End, "06h with a 4-byte wanted step, repeated". Assumes nothing.
use Rattle.std.specs.Prelude.{ℕ, ◌+◌, cond, List, length, eqb, leb, ltb}
use Rattle.machine.specs.Answers.{Score}
use Rattle.machine.specs.Answers.{End, Wanted, Refused}
use Rattle.machine.specs.Load.{known_command, want_byte, command_width, byte_at, word_at}

-- "A score byte 01h to 05h gives 3, another 2, a cut command 1, each at that command's position in the whole stream"
unfoldable pub score_command : List ℕ → ℕ → ℕ → Score
score_command bs at b =
    cond (known_command b)
    (cond (eqb b want_byte)
    (cond (leb (at + command_width b) (length bs)) (Wanted (word_at bs (at + 1)) (at + command_width b)) (Refused 1 at))
    (Refused 3 at))
    (Refused 2 at)

-- what the score holds at a position of the stream: its end at the stream's length, and past it
unfoldable pub score_at : List ℕ → ℕ → Score
score_at bs at = cond (ltb at (length bs)) (score_command bs at (byte_at bs at)) End
