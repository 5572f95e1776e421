-- Document 01's sentence "Sound means ..", clause by clause, with request 2's speed: a model at both ends of each
-- clause, and one beyond. Models of one part unless a row says otherwise. Assumes nothing.
use Rattle.std.specs.Prelude.{ℕ, ◌≡◌, Bool, true, false, List, [], ◌∷◌, replicate, ℤ, pos, negsuc}
use Rattle.machine.specs.declared.signal.Signal.{Signal}
use Rattle.machine.specs.declared.signal.Signal.TheVariants.{Absent, Value}
use Rattle.machine.specs.declared.part.Kind.{Kind}
use Rattle.machine.specs.declared.part.Kind.TheVariants.{Constant, Gain, Square, Pulse, Integrator, Detector}
use Rattle.machine.specs.declared.part.Kind.TheVariants.{Clapper}
use Rattle.machine.specs.declared.part.Source.TheVariants.{Unwired, From}
use Rattle.machine.specs.declared.part.Side.{Side}
use Rattle.machine.specs.declared.part.Side.TheVariants.{Unset, Negative, Positive}
use Rattle.machine.specs.declared.part.Mark.{Mark}
use Rattle.machine.specs.declared.part.Mark.TheVariants.{Clear, Rising, Falling}
use Rattle.machine.specs.declared.part.Component.{Component}
use Rattle.machine.specs.declared.part.State.{State}
use Rattle.machine.specs.declared.model.Model.{Model}
use Rattle.machine.specs.Time.{point}
use Rattle.machine.specs.Model.{no_model}
use Rattle.machine.specs.Sound.{sound}
use Rattle.machine.specs.Played.{plain, drive, constant, fresh_of, constant_at}
use Rattle.machine.specs.SignalRows.{highest, lowest, above_highest, below_lowest}

-- what a part keeps: its local count, held number, speed, held signal, output, side and mark
abbrev pub kept : ℕ → ℤ → ℤ → Signal → Signal → Side → Mark → State
kept local held speed signal out side mark =
    record {
      local = record { 0 = local };
      held = held;
      speed = speed;
      signal = signal;
      output = out;
      side = side;
      mark = mark;
    }

-- a model of one part, with ratio r, at the point (t, n)
abbrev pub alone : (magnitude t n r : ℕ) → Component → State → Model
alone e t n r c s =
    record {
      magnitude = e;
      count = 1;
      order = 0 ∷ [];
      point = point t n;
      parts = record { component = c; ratio = r; state = s } ∷ [];
    }

-- at the start point, a part of a kind without operands that keeps a state
abbrev pub keeps : Kind → State → Model
keeps k s = alone 0 0 0 1 (plain k (pos 0) (pos 0) 0 Unwired) s

-- an integrator that holds a number; one with a held signal; one with a stored output
abbrev pub holds : ℤ → Model
holds v = keeps Integrator (kept 0 v (pos 0) Absent Absent Unset Clear)

abbrev pub holds_signal : Signal → Model
holds_signal x = keeps Integrator (kept 0 (pos 0) (pos 0) x Absent Unset Clear)

abbrev pub shows : Signal → Model
shows x = keeps Integrator (kept 0 (pos 0) (pos 0) Absent x Unset Clear)

-- a part of a kind with a speed
abbrev pub moves : Kind → ℤ → Model
moves k v = keeps k (kept 0 (pos 0) v Absent Absent Unset Clear)

-- a detector with a side and a mark
abbrev pub sees : Side → Mark → Model
sees side mark =
    alone 0 0 0 1 (plain Detector (pos 0) (pos 0) 1 Unwired) (kept 0 (pos 0) (pos 0) Absent Absent side mark)

-- a constant that prefers 0 in a table of magnitude 2, at tick 250, with ratio r and a local count
abbrev pub counts : (r local : ℕ) → Model
counts r local = alone 2 250 0 r (constant 0 (pos 0)) (kept local (pos 0) (pos 0) Absent Absent Unset Clear)

-- two constants, with a count and an order
abbrev pub listed : ℕ → List ℕ → Model
listed n order =
    let m = fresh_of 0 (constant 255 (pos 1) ∷ constant 255 (pos 2) ∷ []) in
    record { magnitude = 0; count = n; order = order; point = m.point; parts = m.parts }

-- a pulse that prefers q
abbrev pub preferring_pulse : (q p : ℕ) → Component
preferring_pulse q p =
    record {
      kind = Pulse;
      preference = q;
      a = pos 1;
      b = pos 0;
      p = p;
      span_count = 0;
      spans = [];
      port0 = Unwired;
      port1 = Unwired;
    }

-- whether the fresh model of a table is sound
abbrev pub fits : ℕ → List Component → Bool
fits e cs = sound (fresh_of e cs)

-- the statement
pub record SoundRows : Type 0 where
  -- "t and n in range"
  pub time :
      (sound (constant_at 1_000_000_000_000_000_000) ≡ true) × (sound (constant_at 1_000_000_000_000_000_001) ≡ false) ×
      (sound (alone 0 0 999 1 (constant 255 (pos 0)) (kept 0 (pos 0) (pos 0) Absent Absent Unset Clear)) ≡ true) ×
      (sound (alone 0 0 1000 1 (constant 255 (pos 0)) (kept 0 (pos 0) (pos 0) Absent Absent Unset Clear)) ≡ false)
  -- "each local count floor(t / r)": 250 / 100 is 2
  pub locals : (sound (counts 100 2) ≡ true) × (sound (counts 100 1) ≡ false) × (sound (counts 100 3) ≡ false)
  -- "with the ratios .. that it gives": 100, not 10, though the local count is floor(t / 10)
  pub ratio : sound (counts 10 25) ≡ false
  -- "every held number a value"
  pub held :
      (sound (holds highest) ≡ true) × (sound (holds lowest) ≡ true) × (sound (holds above_highest) ≡ false) ×
      (sound (holds below_lowest) ≡ false)
  -- "every held signal and output a value or absent"
  pub signals :
      (sound (holds_signal (Value highest)) ≡ true) × (sound (holds_signal (Value lowest)) ≡ true) ×
      (sound (holds_signal (Value above_highest)) ≡ false) × (sound (holds_signal (Value below_lowest)) ≡ false)
  pub outputs :
      (sound (shows (Value highest)) ≡ true) × (sound (shows (Value lowest)) ≡ true) ×
      (sound (shows (Value above_highest)) ≡ false) × (sound (shows (Value below_lowest)) ≡ false)
  -- request 2, the speed: "in a sound model a value, and 0 for other kinds"
  pub speeds :
      (sound (moves Clapper highest) ≡ true) × (sound (moves Clapper lowest) ≡ true) ×
      (sound (moves Clapper above_highest) ≡ false) × (sound (moves Clapper below_lowest) ≡ false) ×
      (sound (moves Integrator (pos 0)) ≡ true) × (sound (moves Integrator (pos 1)) ≡ false) ×
      (sound (moves Integrator (negsuc 0)) ≡ false)
  -- "every side unset, negative or not; every mark 1, −1 or none"
  pub sides :
      (sound (sees Unset Clear) ≡ true) × (sound (sees Negative Rising) ≡ true) × (sound (sees Positive Falling) ≡ true)
  -- "with the .. part order that it gives", and as many parts as the model says
  pub orders :
      (sound (listed 2 (0 ∷ 1 ∷ [])) ≡ true) × (sound (listed 2 (1 ∷ 0 ∷ [])) ≡ false) ×
      (sound (listed 2 (0 ∷ [])) ≡ false) × (sound (listed 2 (0 ∷ 1 ∷ 1 ∷ [])) ≡ false) ×
      (sound (listed 1 (0 ∷ 1 ∷ [])) ≡ false)
  -- "a table that loading accepts": one part or more; its magnitude and preferences
  pub magnitudes :
      (sound no_model ≡ false) × (fits 15 (constant 255 (pos 0) ∷ []) ≡ true) ×
      (fits 16 (constant 255 (pos 0) ∷ []) ≡ false) × (fits 0 (constant 15 (pos 0) ∷ []) ≡ true) ×
      (fits 0 (constant 16 (pos 0) ∷ []) ≡ false)
  -- its operands
  pub operands :
      (fits 0 (constant 255 highest ∷ []) ≡ true) × (fits 0 (constant 255 above_highest ∷ []) ≡ false) ×
      (fits 0 (plain Square (pos 1) (pos 2) 0 Unwired ∷ []) ≡ false) ×
      (fits 0 (plain Square (pos 1) (pos 2) 1_000_000_000 Unwired ∷ []) ≡ true) ×
      (fits 0 (plain Square (pos 1) (pos 2) 1_000_000_001 Unwired ∷ []) ≡ false) ×
      (fits 0 (plain Constant (pos 1) (pos 0) 1 Unwired ∷ []) ≡ false)
  -- its spans: 1 to 10^9, each above the one before, eight at most, as many as counted, and of drives alone
  pub spans :
      (fits 0 (drive 255 2 (1 ∷ 1_000_000_000 ∷ []) ∷ []) ≡ true) × (fits 0 (drive 255 1 (0 ∷ []) ∷ []) ≡ false) ×
      (fits 0 (drive 255 1 (1_000_000_001 ∷ []) ∷ []) ≡ false) × (fits 0 (drive 255 2 (3 ∷ 3 ∷ []) ∷ []) ≡ false) ×
      (fits 0 (drive 255 8 (1 ∷ 2 ∷ 3 ∷ 4 ∷ 5 ∷ 6 ∷ 7 ∷ 8 ∷ []) ∷ []) ≡ true) ×
      (fits 0 (drive 255 9 (1 ∷ 2 ∷ 3 ∷ 4 ∷ 5 ∷ 6 ∷ 7 ∷ 8 ∷ 9 ∷ []) ∷ []) ≡ false) ×
      (fits 0 (drive 255 1 (1 ∷ 2 ∷ []) ∷ []) ≡ false)
  -- its wires: from a part that exists, into a port that the kind has
  pub wires :
      (fits 0 (plain Integrator (pos 0) (pos 0) 0 (From 0) ∷ []) ≡ true) ×
      (fits 0 (plain Integrator (pos 0) (pos 0) 0 (From 1) ∷ []) ≡ false) ×
      (fits 0 (plain Constant (pos 0) (pos 0) 0 (From 0) ∷ []) ≡ false)
  -- "at most 32" parts
  pub most :
      (fits 0 (replicate 32 (constant 255 (pos 0))) ≡ true) × (fits 0 (replicate 33 (constant 255 (pos 0))) ≡ false)
  -- no P above 10^18, and no loop
  pub periods :
      (fits 15 (preferring_pulse 6 1_000_000_000 ∷ []) ≡ true) ×
      (fits 15 (preferring_pulse 5 100_000_001 ∷ []) ≡ false) ×
      (fits 0 (plain Gain (pos 1) (pos 0) 0 (From 0) ∷ []) ≡ false)
