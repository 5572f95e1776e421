-- What words mean as fields of a part, whatever words they are: a port's number is taken modulo its field's width, and
-- a code that no case has means the first case. Assumes nothing.
use Rattle.std.specs.Prelude.{ℕ, ◌-◌, ◌%◌, cond, eqb}
use Rattle.machine.specs.declared.signal.Signal.{Signal}
use Rattle.machine.specs.declared.signal.Signal.TheVariants.{Absent, Value}
use Rattle.machine.specs.declared.part.Source.{Source}
use Rattle.machine.specs.declared.part.Source.TheVariants.{Unwired, From}
use Rattle.machine.specs.declared.part.Side.{Side}
use Rattle.machine.specs.declared.part.Side.TheVariants.{Unset, Negative, Positive}
use Rattle.machine.specs.declared.part.Mark.{Mark}
use Rattle.machine.specs.declared.part.Mark.TheVariants.{Clear, Rising, Falling}
use Rattle.words_codec.specs.Words.{decode_signed}

-- a port, by its word
unfoldable pub decode_source : ℕ → Source
decode_source w = cond (eqb w 0) Unwired (From ((w - 1) % 65536))

-- a side, and a mark, by its word
unfoldable pub decode_side : ℕ → Side
decode_side w = cond (eqb w 1) Negative (cond (eqb w 2) Positive Unset)

unfoldable pub decode_mark : ℕ → Mark
decode_mark w = cond (eqb w 1) Rising (cond (eqb w 2) Falling Clear)

-- a signal, by its two words
unfoldable pub decode_signal : ℕ → ℕ → Signal
decode_signal code w = cond (eqb code 1) (Value (decode_signed w)) Absent
