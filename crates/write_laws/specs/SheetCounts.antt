-- What a sound committed answer shows fits the fields of a sheet line: t, n, the step, the counts and each chosen
-- output. The idea is `few_digits`: a number below 10 ^ k has at most k digits. Assumes nothing.
use Rattle.std.specs.Prelude.{ℕ, suc, ◌≤◌, ◌≡◌, true, length, pos, negsuc}
use Rattle.std.proofs.Common.{arith, le-leb, leb-true}
use Rattle.machine.specs.declared.signal.Signal.{Signal}
use Rattle.machine.specs.declared.signal.Signal.TheVariants.{Absent, Value}
use Rattle.machine.specs.Signal.{largest_value, is_value, is_signal}
use Rattle.machine.specs.Time.{last_tick, last_microstep}
use Rattle.machine.specs.Advance.{longest_wanted}
use Rattle.machine.specs.WholeList.{most_rounds, most_revisions}
use Rattle.machine.specs.Rehearse.{decimal, signed_decimal, signal_text}
use Rattle.machine.specs.Sheet.{ShownStep, shown_fits, texts_fit, field_texts, tick_width, microstep_width, step_width}
use Rattle.machine.specs.Sheet.{rounds_width, revisions_width, output_width}
use Rattle.write_laws.specs.Decimal.{few_digits}

-- the tick, the microstep, the step and the counts
pub tick_short : (t : ℕ) → t ≤ last_tick → length (decimal t) ≤ tick_width
tick_short t h = few_digits 18 t (omega arith)

pub microstep_short : (n : ℕ) → n ≤ last_microstep → length (decimal n) ≤ microstep_width
microstep_short n h = few_digits 2 n (omega arith)

pub step_short : (step : ℕ) → step ≤ longest_wanted → length (decimal step) ≤ step_width
step_short step h = few_digits 9 step (omega arith)

pub rounds_short : (m rounds : ℕ) → m ≤ 600 → rounds ≤ most_rounds m → length (decimal rounds) ≤ rounds_width
rounds_short m rounds few h = few_digits 3 rounds (omega arith)

pub revisions_short : (revisions : ℕ) → revisions ≤ most_revisions → length (decimal revisions) ≤ revisions_width
revisions_short revisions h = few_digits 1 revisions (omega arith)

-- an output: a hyphen, or a value of at most 10 digits with or without one
pub signal_short : (x : Signal) → is_signal x ≡ true → length (signal_text x) ≤ output_width
unfolding is_signal is_value signal_text signed_decimal
signal_short Absent h = omega arith
signal_short (Value (pos n)) h =
    let value : n ≤ largest_value = leb-true n largest_value h in
    let few : length (decimal n) ≤ 10 = few_digits 9 n (omega arith) in
    omega arith
signal_short (Value (negsuc n)) h =
    let value : suc n ≤ largest_value = leb-true (suc n) largest_value h in
    let few : length (decimal (suc n)) ≤ 10 = few_digits 9 (suc n) (omega arith) in
    omega arith

-- all of them at once
pub answer_fits :
    (m t n step rounds revisions : ℕ) (x y z : Signal) → m ≤ 600 → t ≤ last_tick → n ≤ last_microstep →
    step ≤ longest_wanted → rounds ≤ most_rounds m →
    revisions ≤ most_revisions → is_signal x ≡ true → is_signal y ≡ true → is_signal z ≡ true →
    shown_fits (ShownStep t n step rounds revisions x y z) ≡ true
unfolding shown_fits texts_fit field_texts
answer_fits m t n step rounds revisions x y z parts ticks micros wanted many most first second third =
    rw (
      le-leb (length (decimal t)) tick_width (tick_short t ticks),
      le-leb (length (decimal n)) microstep_width (microstep_short n micros),
      le-leb (length (decimal step)) step_width (step_short step wanted),
      le-leb (length (decimal rounds)) rounds_width (rounds_short m rounds parts many),
      le-leb (length (decimal revisions)) revisions_width (revisions_short revisions most),
      le-leb (length (signal_text x)) output_width (signal_short x first),
      le-leb (length (signal_text y)) output_width (signal_short y second),
      le-leb (length (signal_text z)) output_width (signal_short z third),
    )
