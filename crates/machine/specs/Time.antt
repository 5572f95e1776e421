-- Document 01, "Time": points, their order, where a step leads, magnitudes and ratios, local counts.
-- A point (t, n) is the declared struct `Point`: the tick t and the microstep n. Assumes nothing.
use Rattle.std.specs.Prelude.{ℕ, ◌+◌, ◌-◌, ◌/◌, ◌^◌, max, Bool, cond, ◌&&◌, List, [], ◌∷◌, eqb, leb, ltb}
use Rattle.std.specs.Prelude.{Option, Some, None}
use Rattle.machine.specs.declared.time.LocalTicks.{LocalTicks}
use Rattle.machine.specs.declared.time.Point.{Point}
use Rattle.std.specs.declared.cmp.Ordering.{Ordering}
use Rattle.std.specs.declared.cmp.Ordering.TheVariants.{Less, Equal, Greater}

-- "The tick t runs from 0 to 10^18 .."
abbrev pub last_tick : ℕ
last_tick = 1_000_000_000_000_000_000

-- ".. the microstep n from 0 to 999"
abbrev pub last_microstep : ℕ
last_microstep = 999

-- the point (t, n)
abbrev pub point : ℕ → ℕ → Point
point t n = record { t = record { 0 = t }; n = n }

-- the tick of a point
abbrev pub tick : Point → ℕ
tick p = p.t.0

-- "The start point (0, 0) .."
abbrev pub start : Point
start = point 0 0

-- ".. and the last point (10^18, 999)"
abbrev pub last : Point
last = point last_tick last_microstep

-- "Points order by t, then n"
unfoldable pub compared : Point → Point → Ordering
compared p q =
    cond (ltb (tick p) (tick q)) Less
    (cond (ltb (tick q) (tick p)) Greater
    (cond (ltb p.n q.n) Less
    (cond (ltb q.n p.n) Greater Equal)))

-- "A step of h ≥ 1 leads to (t + h, 0), a step of 0 to (t, n + 1)"
unfoldable pub led_to : Point → ℕ → Point
led_to p h = cond (eqb h 0) (point (tick p) (p.n + 1)) (point (tick p + h) 0)

-- t and n are in these ranges, so that the point is one of the time
unfoldable pub in_time : Point → Bool
in_time p = leb (tick p) last_tick && leb p.n last_microstep

-- the point that a step of h leads to, or `None` where that is no point of the time
unfoldable pub stepped : Point → ℕ → Option Point
stepped p h = cond (in_time (led_to p h)) (Some (led_to p h)) None

-- "a default magnitude e (0 to 15 ..)"
abbrev pub last_magnitude : ℕ
last_magnitude = 15

-- a preference is "0 to 15; FFh means none"
abbrev pub no_preference : ℕ
no_preference = 255

-- e is a magnitude
unfoldable pub magnitude_known : ℕ → Bool
magnitude_known e = leb e last_magnitude

-- the larger of a magnitude and a preference, where there is one
unfoldable pub larger : ℕ → ℕ → ℕ
larger e preference = cond (eqb preference no_preference) e (max e preference)

-- "The master's magnitude is the largest of all these": of the default e and the parts' preferences
unfoldable pub master_magnitude : ℕ → List ℕ → ℕ
master_magnitude e [] = e
master_magnitude e (q ∷ qs) = master_magnitude (larger e q) qs

-- "A part's ratio r is 10^(master's magnitude − its preference), or 1 without a preference"
unfoldable pub ratio_of : ℕ → ℕ → ℕ
ratio_of magnitude preference = cond (eqb preference no_preference) 1 (10 ^ (magnitude - preference))

-- floor(t / r), as local ticks: the ratio conversion. No local count goes back to master ticks; a drive's span does, as
-- a plain number (`last_adding`, Accept.antt)
unfoldable pub local_count : ℕ → ℕ → LocalTicks
local_count t r = record { 0 = t / r }

-- "A step of h adds d = floor((t + h) / r) − local count"
unfoldable pub gained : ℕ → ℕ → LocalTicks → ℕ → LocalTicks
gained t r local h = record { 0 = (local_count (t + h) r).0 - local.0 }
