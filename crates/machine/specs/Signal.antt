-- Document 01, "Signals", with request 2: values and clamping, and the arithmetic that the kinds' rows use. A signal is
-- the declared enum `Signal`. Assumes nothing.
use Rattle.std.specs.Prelude.{ℕ, min, Bool, true, false, leb, ℤ, pos, negsuc, nat_abs, ◌+ℤ◌, ◌*ℤ◌}
use Rattle.machine.specs.declared.signal.Signal.{Signal}
use Rattle.machine.specs.declared.signal.Signal.TheVariants.{Absent, Value}

-- "Values run from −10^9 to 10^9"
abbrev pub largest_value : ℕ
largest_value = 1_000_000_000

-- the number is a value
unfoldable pub is_value : ℤ → Bool
is_value v = leb (nat_abs v) largest_value

-- "clamping takes a result to the nearer end"; −10^9 is negsuc 999,999,999
unfoldable pub clamp : ℤ → ℤ
clamp (pos n) = pos (min n 1_000_000_000)
clamp (negsuc n) = negsuc (min n 999_999_999)

-- the signal is a value, and not absent
abbrev pub present : Signal → Bool
present Absent = false
present (Value v) = true

-- "a value or absent": the signal is absent, or its number is a value in range
unfoldable pub is_signal : Signal → Bool
is_signal Absent = true
is_signal (Value v) = is_value v

-- "Absent counts as 0 only where an integrator or drive integrates it", and request 2 of a clapper: "absent counts as
-- 0"
abbrev pub integrated : Signal → ℤ
integrated Absent = pos 0
integrated (Value v) = v

-- kind 1, gain: "clamp(a × x); absent if x is"
unfoldable pub product : ℤ → Signal → Signal
product a Absent = Absent
product a (Value v) = Value (clamp (a *ℤ v))

-- kind 2, adder: "clamped sum of the present inputs, absent if none"
unfoldable pub total : Signal → Signal → Signal
total Absent Absent = Absent
total Absent (Value w) = Value (clamp w)
total (Value v) Absent = Value (clamp v)
total (Value v) (Value w) = Value (clamp (v +ℤ w))

-- x "if present", else y: kind 7, reset integrator, takes port 1 or else the held number, and kind 9, hold, its input
-- or else the held signal
abbrev pub first_present : Signal → Signal → Signal
first_present Absent y = y
first_present (Value v) y = Value v

-- kind 10, sampler: "port 0 if port 1 is present, else absent"
abbrev pub sampled : Signal → Signal → Signal
sampled x Absent = Absent
sampled x (Value w) = x

-- kinds 6, 7, 11 on a step: "held := clamp(held + x × d)"; of request 2's kind 12 the speed likewise, and then the
-- position by it
unfoldable pub integral : ℤ → Signal → ℕ → ℤ
integral held x d = clamp (held +ℤ (integrated x *ℤ pos d))
