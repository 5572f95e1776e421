-- What a call that writes into a lent buffer returns, as document 02's number and length. Assumes nothing.
use Rattle.std.specs.Prelude.{ℕ, Result, Ok, Err}
use Rattle.machine.specs.Answers.{Written}
use Rattle.machine.specs.Writing.{too_short}
use Rattle.refusals.specs.declared.Unwritten.{Unwritten}
use Rattle.refusals.specs.declared.Unwritten.TheVariants as unwritten
use Rattle.refusals.specs.Numbers.{refusal_number}

-- the number of a call that wrote nothing
abbrev pub unwritten_number : Unwritten → ℕ
unwritten_number (unwritten.Refused r) = refusal_number r
unwritten_number (unwritten.Short needed) = too_short

-- its length: the one that the buffer needs where it is too short, else 0
abbrev pub unwritten_length : Unwritten → ℕ
unwritten_length (unwritten.Refused r) = 0
unwritten_length (unwritten.Short needed) = needed

-- the number and the length of what a writing call returns
abbrev pub written_of : Result ℕ Unwritten → Written
written_of (Ok length) = record { number = 0; length = length }
written_of (Err u) = record { number = unwritten_number u; length = unwritten_length u }
