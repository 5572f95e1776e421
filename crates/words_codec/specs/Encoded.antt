-- A number for each case of the enums of a part. A kind's is its own number. Assumes nothing.
use Rattle.std.specs.Prelude.{ℕ, ◌+◌}
use Rattle.machine.specs.declared.signal.Signal.{Signal}
use Rattle.machine.specs.declared.signal.Signal.TheVariants.{Absent, Value}
use Rattle.machine.specs.declared.part.Source.{Source}
use Rattle.machine.specs.declared.part.Source.TheVariants.{Unwired, From}
use Rattle.machine.specs.declared.part.Side.{Side}
use Rattle.machine.specs.declared.part.Side.TheVariants.{Unset, Negative, Positive}
use Rattle.machine.specs.declared.part.Mark.{Mark}
use Rattle.machine.specs.declared.part.Mark.TheVariants.{Clear, Rising, Falling}
use Rattle.words_codec.specs.Words.{encode_signed}

-- a port: 0 unwired, k + 1 from part k
abbrev pub encode_source : Source → ℕ
encode_source Unwired = 0
encode_source (From k) = k + 1

-- a detector's side and its mark
abbrev pub encode_side : Side → ℕ
encode_side Unset = 0
encode_side Negative = 1
encode_side Positive = 2

abbrev pub encode_mark : Mark → ℕ
encode_mark Clear = 0
encode_mark Rising = 1
encode_mark Falling = 2

-- a signal: 0 where it is absent; 1, before its value, otherwise
abbrev pub encode_presence : Signal → ℕ
encode_presence Absent = 0
encode_presence (Value v) = 1

-- its value's word, 0 where it is absent
abbrev pub encode_value : Signal → ℕ
encode_value Absent = 0
encode_value (Value v) = encode_signed v
