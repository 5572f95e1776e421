-- A line whose length was worked out before, refused where the buffer is shorter; and how long lines and their pieces
-- are, by the digits of their numbers. Assumes nothing.
use Prim.Native.Nat.{ℕ, ◌+◌, ◌≤◌, ◌<◌}
use native.Mathlib.Omega.{arith}
use mathlib.Core.Path.{◌≡◌, refl}
use mathlib.Core.List.{List}
use lib.ListN.{length, length-append}
use lib.IntN.{ℤ}
use mir.Syntax.{w64}
use mir.Val.{Fits}
use Rattle.machine.specs.declared.signal.Signal.{Signal}
use Rattle.machine.specs.declared.signal.Signal.TheVariants.{Absent, Value}
use Rattle.machine.specs.Rehearse.{decimal, refused_at_line, refused_line, signal_text, signed_decimal}
use Rattle.machine.specs.Writing.{WrittenAs, too_short}
use Rattle.write_laws.specs.Decimal.{word_digits}
use Rattle.write_bytes.specs.Fitting.{left_out}
use Rattle.write_lines.specs.LineNumbers.{numbers_text}

-- a text that has no room, by its length that was worked out
pub no_room : (text buf : List ℕ) (n : ℕ) → n ≡ length text → length buf < n →
    WrittenAs 0 text buf buf (record { number = too_short; length = n })
no_room text buf n size short = rw size (left_out text buf (rw size at short))

-- how long the lines of refusals are, and the numbers of a line
pub refused_size : (number : ℕ) → length (refused_line number) ≡ length (decimal number) + 9
unfolding refused_line
refused_size number = simp length-append (omega arith)

pub refused_at_size : (number position : ℕ) →
    length (refused_at_line number position) ≡ length (decimal number) + length (decimal position) + 13
unfolding refused_at_line
refused_at_size number position = simp length-append (omega arith)

pub numbers_size : (t n step rounds revisions : ℕ) →
    length (numbers_text t n step rounds revisions) ≡
    length (decimal t) + length (decimal n) + length (decimal step) + length (decimal rounds) + length
    (decimal revisions) + 4
unfolding numbers_text
numbers_size t n step rounds revisions = simp length-append (omega arith)

-- how long the text of an output is
pub absent_size : {s : Signal} → s ≡ Absent → length (signal_text s) ≡ 1
unfolding signal_text
absent_size same = rw same refl

pub value_size : {s : Signal} {v : ℤ} → s ≡ Value v → length (signal_text s) ≡ length (signed_decimal v)
unfolding signal_text
value_size same = rw same refl

-- a number has at most 20 digits, so that the numbers of a line take at most 104 bytes
digits_most : {n : ℕ} → Fits w64 n → length (decimal n) ≤ 20
digits_most {n} fits = word_digits n (omega arith)

pub numbers_most : {t n step rounds revisions : ℕ} → Fits w64 t → Fits w64 n → Fits w64 step → Fits w64 rounds →
    Fits w64 revisions →
    length (numbers_text t n step rounds revisions) ≤ 104
numbers_most {t} {n} {step} {rounds} {revisions} ft fn fstep frounds frevisions =
    omega (
      arith,
      numbers_size t n step rounds revisions,
      digits_most ft,
      digits_most fn,
      digits_most fstep,
      digits_most frounds,
      digits_most frevisions,
    )
