-- Document 01's and document 02's number of each refusal, and of a result that may be one. Assumes nothing.
use Rattle.std.specs.Prelude.{ℕ, Result, Ok, Err}
use Rattle.refusals.specs.declared.Refusal.{Refusal}
use Rattle.refusals.specs.declared.Refusal.TheVariants.{Cut, UnknownCommand, OutOfPlace, OutOfRange, TooMany}
use Rattle.refusals.specs.declared.Refusal.TheVariants.{NotThere, AlreadyWired, NoParts, PeriodTooLong, Loop}
use Rattle.refusals.specs.declared.Refusal.TheVariants.{SpanNotRising, WantedOutOfRange, DueAtLastMicrostep}
use Rattle.refusals.specs.declared.Refusal.TheVariants.{NoStepAccepted, PastLastTick, NotSound, TooShort}
use Rattle.refusals.specs.declared.Refusal.TheVariants.{NotPrintable}

-- the number of each refusal
abbrev pub refusal_number : Refusal → ℕ
refusal_number Cut = 1
refusal_number UnknownCommand = 2
refusal_number OutOfPlace = 3
refusal_number OutOfRange = 5
refusal_number TooMany = 6
refusal_number NotThere = 7
refusal_number AlreadyWired = 8
refusal_number NoParts = 9
refusal_number PeriodTooLong = 10
refusal_number Loop = 11
refusal_number SpanNotRising = 12
refusal_number WantedOutOfRange = 20
refusal_number DueAtLastMicrostep = 21
refusal_number NoStepAccepted = 22
refusal_number PastLastTick = 23
refusal_number NotSound = 24
refusal_number TooShort = 25
refusal_number NotPrintable = 26

-- the number of a result: 0 where nothing is refused
abbrev pub refused_number : {A : Type 0} → Result A Refusal → ℕ
refused_number (Ok a) = 0
refused_number (Err r) = refusal_number r
