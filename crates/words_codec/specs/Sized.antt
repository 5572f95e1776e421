-- What the declared types guarantee of a number: it fits its field. Assumes nothing.
use Rattle.std.specs.Prelude.{ℕ, ◌<◌, ℤ, pos, negsuc}
use Rattle.machine.specs.declared.signal.Signal.{Signal}
use Rattle.machine.specs.declared.signal.Signal.TheVariants.{Absent, Value}
use Rattle.machine.specs.declared.part.Source.{Source}
use Rattle.machine.specs.declared.part.Source.TheVariants.{Unwired, From}

-- a number of 64 bits without a sign
abbrev pub FitsWord : ℕ → Type 0
FitsWord n = n < 18446744073709551616

-- a signed number
abbrev pub FitsSigned : ℤ → Type 0
FitsSigned (pos n) = n < 9223372036854775808
FitsSigned (negsuc n) = n < 9223372036854775808

-- a port's source
abbrev pub FitsSource : Source → Type 0
FitsSource Unwired = Unit {0}
FitsSource (From k) = k < 65536

-- a signal
abbrev pub FitsSignal : Signal → Type 0
FitsSignal Absent = Unit {0}
FitsSignal (Value v) = FitsSigned v
