-- Document 01, "Time", number by number: points and steps at both ends of the time, magnitudes, ratios, local counts.
-- Each row computes a definition at its ends, so that a number that is off by one makes a row false. Assumes nothing.
use Rattle.std.specs.Prelude.{ℕ, ◌≡◌, true, false, [], ◌∷◌}
use Rattle.std.specs.declared.cmp.Ordering.TheVariants.{Less, Equal, Greater}
use Rattle.machine.specs.declared.time.LocalTicks.{LocalTicks}
use Rattle.std.specs.Prelude.{Some, None}
use Rattle.machine.specs.declared.part.Component.{Component}
use Rattle.machine.specs.Time.{point, start, last, compared, stepped, in_time, magnitude_known, master_magnitude}
use Rattle.machine.specs.Time.{ratio_of, local_count, gained}
use Rattle.machine.specs.Kind.{period}
use Rattle.machine.specs.Model.{blank_component, blank_state}
use Rattle.machine.specs.Table.{ratios}

-- a component that prefers a magnitude, and has the operand p
abbrev pub preferring : ℕ → ℕ → Component
preferring q p =
    record {
      kind = blank_component.kind;
      preference = q;
      a = blank_component.a;
      b = blank_component.b;
      p = p;
      span_count = 0;
      spans = [];
      port0 = blank_component.port0;
      port1 = blank_component.port1;
    }

-- so many local ticks
abbrev pub local_ticks : ℕ → LocalTicks
local_ticks n = record { 0 = n }

-- the statement
pub record TimeRows : Type 0 where
  -- "The start point (0, 0) and the last point (10^18, 999) are named values of the time"
  pub ends : (start ≡ point 0 0) × (last ≡ point 1_000_000_000_000_000_000 999)
  -- "The tick t runs from 0 to 10^18, the microstep n from 0 to 999"
  pub ranges :
      (in_time (point 1_000_000_000_000_000_000 999) ≡ true) × (in_time (point 1_000_000_000_000_000_001 0) ≡ false) ×
      (in_time (point 0 1000) ≡ false)
  -- "Points order by t, then n"
  pub order :
      (compared (point 1 9) (point 2 0) ≡ Less) × (compared (point 2 0) (point 1 9) ≡ Greater) ×
      (compared (point 2 3) (point 2 4) ≡ Less) × (compared (point 2 4) (point 2 3) ≡ Greater) ×
      (compared (point 2 3) (point 2 3) ≡ Equal)
  -- "A step of h ≥ 1 leads to (t + h, 0), a step of 0 to (t, n + 1)"
  pub steps : (stepped (point 4 2) 3 ≡ Some (point 7 0)) × (stepped (point 4 2) 0 ≡ Some (point 4 3))
  -- up to the last tick and the last microstep, and not past them
  pub last_steps :
      (stepped (point 999_999_999_999_999_999 5) 1 ≡ Some (point 1_000_000_000_000_000_000 0)) ×
      (stepped (point 999_999_999_999_999_999 5) 2 ≡ None) × (stepped (point 7 998) 0 ≡ Some (point 7 999)) ×
      (stepped (point 7 999) 0 ≡ None)
  -- "a default magnitude e (0 to 15 ..)"
  pub magnitudes : (magnitude_known 0 ≡ true) × (magnitude_known 15 ≡ true) × (magnitude_known 16 ≡ false)
  -- "The master's magnitude is the largest of all these": the default, or a preference wherever it is; "FFh means none"
  pub master :
      (master_magnitude 3 [] ≡ 3) × (master_magnitude 3 (1 ∷ 255 ∷ 2 ∷ []) ≡ 3) ×
      (master_magnitude 3 (7 ∷ 5 ∷ []) ≡ 7) × (master_magnitude 3 (5 ∷ 255 ∷ 7 ∷ []) ≡ 7)
  -- "A part's ratio r is 10^(master's magnitude − its preference), or 1 without a preference"
  pub ratio :
      (ratio_of 7 5 ≡ 100) × (ratio_of 7 7 ≡ 1) × (ratio_of 15 0 ≡ 1_000_000_000_000_000) × (ratio_of 7 255 ≡ 1)
  -- of a table: the default 3, and parts that prefer 1, none and 5
  pub table_ratios :
      ratios (record { magnitude = 3; parts = preferring 1 0 ∷ preferring 255 0 ∷ preferring 5 0 ∷ [] }) ≡
      10_000 ∷ 1 ∷ 1 ∷ []
  -- "P means p × r"
  pub periods : period (record { component = preferring 1 7; ratio = 100; state = blank_state }) ≡ 700
  -- a local count is floor(t / r)
  pub locals :
      (local_count 99 100 ≡ local_ticks 0) × (local_count 100 100 ≡ local_ticks 1) ×
      (local_count 199 100 ≡ local_ticks 1)
  -- "A step of h adds d = floor((t + h) / r) − local count"
  pub gains :
      (gained 99 100 (local_ticks 0) 1 ≡ local_ticks 1) × (gained 99 100 (local_ticks 0) 100 ≡ local_ticks 1) ×
      (gained 250 100 (local_ticks 2) 149 ≡ local_ticks 1) × (gained 250 100 (local_ticks 2) 150 ≡ local_ticks 2)
