-- Document 01, "Signals", at the ends of the values: clamping, products, sums and what is integrated. Assumes nothing.
use Rattle.std.specs.Prelude.{◌≡◌, true, false, ℤ, pos, negsuc}
use Rattle.machine.specs.declared.signal.Signal.TheVariants.{Absent, Value}
use Rattle.machine.specs.Signal.{is_value, clamp, is_signal, product, total, integral}

-- 10^9 and −10^9, and the numbers one beyond them
abbrev pub highest : ℤ
highest = pos 1_000_000_000

abbrev pub lowest : ℤ
lowest = negsuc 999_999_999

abbrev pub above_highest : ℤ
above_highest = pos 1_000_000_001

abbrev pub below_lowest : ℤ
below_lowest = negsuc 1_000_000_000

-- the statement
pub record SignalRows : Type 0 where
  -- "Values run from −10^9 to 10^9"
  pub values :
      (is_value highest ≡ true) × (is_value lowest ≡ true) × (is_value above_highest ≡ false) ×
      (is_value below_lowest ≡ false)
  -- "a signal: a value or absent"
  pub signals :
      (is_signal Absent ≡ true) × (is_signal (Value highest) ≡ true) × (is_signal (Value lowest) ≡ true) ×
      (is_signal (Value above_highest) ≡ false) × (is_signal (Value below_lowest) ≡ false)
  -- "clamping takes a result to the nearer end", and leaves a value as it is
  pub clamped :
      (clamp highest ≡ highest) × (clamp above_highest ≡ highest) × (clamp lowest ≡ lowest) ×
      (clamp below_lowest ≡ lowest) × (clamp (pos 0) ≡ pos 0) × (clamp (negsuc 0) ≡ negsuc 0)
  -- "clamp(a × x)": two negatives, within the range and at its end; and both signs at the ends
  pub products :
      (product (negsuc 2) (Value (negsuc 3)) ≡ Value (pos 12)) × (product lowest (Value lowest) ≡ Value highest) ×
      (product highest (Value highest) ≡ Value highest) × (product highest (Value lowest) ≡ Value lowest) ×
      (product lowest (Value highest) ≡ Value lowest) × (product lowest (Value (negsuc 0)) ≡ Value highest) ×
      (product (pos 0) (Value lowest) ≡ Value (pos 0))
  -- the largest square within the values, and the next, which is clamped
  pub squares :
      (product (pos 31_622) (Value (pos 31_622)) ≡ Value (pos 999_950_884)) ×
      (product (pos 31_623) (Value (pos 31_623)) ≡ Value highest) ×
      (product (negsuc 31_622) (Value (pos 31_623)) ≡ Value lowest)
  -- "clamped sum of the present inputs": both ends, and one beyond each
  pub sums :
      (total (Value highest) (Value lowest) ≡ Value (pos 0)) × (total (Value highest) (Value highest) ≡ Value highest) ×
      (total (Value lowest) (Value lowest) ≡ Value lowest) × (total (Value lowest) (Value (negsuc 0)) ≡ Value lowest) ×
      (total (Value lowest) (Value (pos 1)) ≡ Value (negsuc 999_999_998)) ×
      (total (Value (negsuc 1)) (Value (negsuc 2)) ≡ Value (negsuc 4)) ×
      (total Absent (Value above_highest) ≡ Value highest) × (total (Value below_lowest) Absent ≡ Value lowest)
  -- "held := clamp(held + x × d)": up to an end, past it, and from one end to the other
  pub integrals :
      (integral (pos 999_999_999) (Value (pos 1)) 1 ≡ highest) ×
      (integral (pos 999_999_999) (Value (pos 1)) 2 ≡ highest) ×
      (integral (negsuc 999_999_998) (Value (negsuc 0)) 1 ≡ lowest) ×
      (integral (negsuc 999_999_998) (Value (negsuc 0)) 2 ≡ lowest) × (integral highest (Value lowest) 2 ≡ lowest) ×
      (integral lowest (Value highest) 2 ≡ highest) × (integral lowest (Value highest) 1 ≡ pos 0)
