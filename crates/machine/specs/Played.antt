-- Document 01, "Played examples": the ten cases marked *, as rows of a single statement. Each is about the definitions
-- that the promises cite; the first is about `rehearsed`, which the program's promises are about
-- (`crates/play_score/specs/WholeScore.antt`). Assumes nothing.
use Rattle.std.specs.Prelude.{ℕ, ◌-◌, ◌≡◌, true, List, [], ◌∷◌, ◌++◌, map, replicate, ℤ, pos, negsuc}
use Rattle.machine.specs.declared.signal.Signal.{Signal}
use Rattle.machine.specs.declared.signal.Signal.TheVariants.{Absent, Value}
use Rattle.machine.specs.declared.part.Kind.{Kind}
use Rattle.machine.specs.declared.part.Kind.TheVariants.{Constant, Square, Delay, Integrator, Detector, Drive}
use Rattle.machine.specs.declared.part.Source.{Source}
use Rattle.machine.specs.declared.part.Source.TheVariants.{Unwired, From}
use Rattle.machine.specs.declared.part.Side.TheVariants.{Unset}
use Rattle.machine.specs.declared.part.Mark.TheVariants.{Clear}
use Rattle.machine.specs.declared.part.Component.{Component}
use Rattle.machine.specs.declared.model.Model.{Model}
use Rattle.machine.specs.Time.{point, last_tick, no_preference}
use Rattle.machine.specs.Model.{part_at, with_parts}
use Rattle.machine.specs.Fresh.{fresh}
use Rattle.machine.specs.Load.{load, refused}
use Rattle.machine.specs.Sound.{sound}
use Rattle.machine.specs.Advance.{round, outcome, advance}
use Rattle.machine.specs.Calls.{Call, committed, last_model, machine_calls}
use Rattle.machine.specs.Rehearse.{rehearsed}

-- a component of a kind with operands a, b and p, no preference, no spans, and port 0 wired as given
abbrev pub plain : Kind → ℤ → ℤ → ℕ → Source → Component
plain kind a b p source =
    record {
      kind = kind;
      preference = no_preference;
      a = a;
      b = b;
      p = p;
      span_count = 0;
      spans = [];
      port0 = source;
      port1 = Unwired;
    }

-- a drive from 0 with a preference and spans, of which there are n
abbrev pub drive : ℕ → ℕ → List ℕ → Component
drive preference n spans =
    record {
      kind = Drive;
      preference = preference;
      a = pos 0;
      b = pos 0;
      p = 0;
      span_count = n;
      spans = spans;
      port0 = Unwired;
      port1 = Unwired;
    }

-- a constant a with a preference
abbrev pub constant : ℕ → ℤ → Component
constant preference a =
    record {
      kind = Constant;
      preference = preference;
      a = a;
      b = pos 0;
      p = 0;
      span_count = 0;
      spans = [];
      port0 = Unwired;
      port1 = Unwired;
    }

-- the fresh model of a default magnitude and components
abbrev pub fresh_of : ℕ → List Component → Model
fresh_of e cs = fresh (record { magnitude = e; parts = cs })

-- of each call of a list: the number, the revisions, and the local count of part 0 after it
abbrev pub numbers : List Call → List ℕ
numbers cs = map (λ (c : Call). c.answer.number) cs

abbrev pub revisions : List Call → List ℕ
revisions cs = map (λ (c : Call). c.answer.revisions) cs

abbrev pub local_counts : List Call → List ℕ
local_counts cs = map (λ (c : Call). (part_at c.answer.model.parts 0).state.local.0) cs

-- the output of a model's part k
abbrev pub output_at : Model → ℕ → Signal
output_at m k = (part_at m.parts k).state.output

-- "Drives with spans {3, 8} and {3, 5}"
abbrev pub two_drives : Model
two_drives = fresh_of 0 (drive no_preference 2 (3 ∷ 8 ∷ []) ∷ drive no_preference 2 (3 ∷ 5 ∷ []) ∷ [])

-- "Constant 2 into an integrator from −7 into a detector of tolerance 1"
abbrev pub crossing : Model
crossing =
    fresh_of 0
    (plain Constant (pos 2) (pos 0) 0 Unwired ∷ plain Integrator (negsuc 6) (pos 0) 0 (From 0) ∷
    plain Detector (pos 0) (pos 0) 1 (From 1) ∷ [])

-- "Ratio 100": magnitude 2, and a constant that prefers 0
abbrev pub ratio_100 : Model
ratio_100 = fresh_of 2 (constant 0 (pos 1) ∷ [])

-- "Ratio 10, span {2}": magnitude 1, and a drive that prefers 0
abbrev pub ratio_10 : Model
ratio_10 = fresh_of 1 (drive 0 1 (2 ∷ []) ∷ [])

-- "Square p = 4", with a = 5 and b = 6
abbrev pub square_4 : Model
square_4 = fresh_of 0 (plain Square (pos 5) (pos 6) 4 Unwired ∷ [])

-- "Constant into a delay"
abbrev pub delayed : Model
delayed = fresh_of 0 (plain Constant (pos 1) (pos 0) 0 Unwired ∷ plain Delay (pos 0) (pos 0) 0 (From 0) ∷ [])

-- a model of one constant, standing at tick t
abbrev pub constant_at : ℕ → Model
constant_at t =
    with_parts (fresh_of 0 (plain Constant (pos 1) (pos 0) 0 Unwired ∷ [])) (point t 0)
    (record {
      component = plain Constant (pos 1) (pos 0) 0 Unwired;
      ratio = 1;
      state =
          record {
            local = record { 0 = t };
            held = pos 0;
            speed = pos 0;
            signal = Absent;
            output = Value (pos 1);
            side = Unset;
            mark = Clear;
          };
    } ∷ [])

-- the bytes of a table of one part of the kind given, with a = 1, wired to its own port 0
abbrev pub wired_to_itself : ℕ → List ℕ
wired_to_itself kind =
    0x01 ∷ 0x00 ∷ 0x02 ∷ kind ∷ 0xFF ∷ 0x01 ∷ replicate 11 0x00 ++ (0x04 ∷ 0x00 ∷ 0x00 ∷ 0x00 ∷ 0x05 ∷ [])

-- the byte stream of the first example: Begin and a constant; a drive; its spans; the wire and End; the score
abbrev pub example : List ℕ
example =
    (0x01 ∷ 0x00 ∷ 0x02 ∷ 0x00 ∷ 0xFF ∷ 0x01 ∷ 0x00 ∷ 0x00 ∷ 0x00 ∷ replicate 8 0x00) ++
    ((0x02 ∷ 0x0B ∷ 0xFF ∷ replicate 12 0x00) ++
    ((0x03 ∷ 0x02 ∷ 0x00 ∷ 0x00 ∷ 0x00 ∷ 0x03 ∷ 0x05 ∷ 0x00 ∷ 0x00 ∷ 0x00 ∷ []) ++
    ((0x04 ∷ 0x00 ∷ 0x01 ∷ 0x00 ∷ 0x05 ∷ []) ++
    (0x06 ∷ 0x07 ∷ 0x00 ∷ 0x00 ∷ 0x00 ∷ 0x06 ∷ 0x04 ∷ 0x00 ∷ 0x00 ∷ 0x00 ∷ 0x06 ∷ 0x01 ∷ 0x00 ∷ 0x00 ∷ 0x00 ∷ []))))

-- what it prints: `5 0 5 2 0 1 5`, `7 0 2 2 0 1 7`, `refused 22`
abbrev pub example_lines : List ℕ
example_lines =
    53 ∷ 32 ∷ 48 ∷ 32 ∷ 53 ∷ 32 ∷ 50 ∷ 32 ∷ 48 ∷ 32 ∷ 49 ∷ 32 ∷ 53 ∷ 10 ∷
    55 ∷ 32 ∷ 48 ∷ 32 ∷ 50 ∷ 32 ∷ 50 ∷ 32 ∷ 48 ∷ 32 ∷ 49 ∷ 32 ∷ 55 ∷ 10 ∷
    114 ∷ 101 ∷ 102 ∷ 117 ∷ 115 ∷ 101 ∷ 100 ∷ 32 ∷ 50 ∷ 50 ∷ 10 ∷ []

-- the statement: a row for each case
pub record Played : Type 0 where
  -- the byte stream "prints" its three lines
  pub printed : rehearsed example ≡ example_lines
  -- "Drives with spans {3, 8} and {3, 5}, w = 9: 9, 5, 3, 3; step 3, three rounds"
  pub drives :
      (round two_drives 9 ≡ 5) × (round two_drives 5 ≡ 3) × (round two_drives 3 ≡ 3) ×
      (outcome two_drives 9 ≡ record { number = 0; step = 3; rounds = 3; revisions = 0; ceiling = 9 })
  -- "w = 8 each: steps 2, 1, 1, 0; revisions 2, 3, 3, 0. The detector shows 1 at (4, 1)"
  pub revised :
      (committed (machine_calls crossing (replicate 4 8)) ≡ 2 ∷ 1 ∷ 1 ∷ 0 ∷ []) ×
      (revisions (machine_calls crossing (replicate 4 8)) ≡ 2 ∷ 3 ∷ 3 ∷ 0 ∷ []) ×
      ((last_model crossing (machine_calls crossing (replicate 4 8))).point ≡ point 4 1) ×
      (output_at (last_model crossing (machine_calls crossing (replicate 4 8))) 2 ≡ Value (pos 1))
  -- "Ratio 100, steps 40, 40, 40: local counts 0, 0, 1"
  pub hundredth :
      (committed (machine_calls ratio_100 (replicate 3 40)) ≡ 40 ∷ 40 ∷ 40 ∷ []) ×
      (local_counts (machine_calls ratio_100 (replicate 3 40)) ≡ 0 ∷ 0 ∷ 1 ∷ [])
  -- "Ratio 10, span {2}, at t = 7, w = 50: step 22, local count 2"
  pub tenth :
      (committed (machine_calls ratio_10 (7 ∷ 50 ∷ [])) ≡ 7 ∷ 22 ∷ []) ×
      (local_counts (machine_calls ratio_10 (7 ∷ 50 ∷ [])) ≡ 0 ∷ 2 ∷ [])
  -- "Square p = 4: a at (4, 0), b at (4, 1)"
  pub square :
      ((last_model square_4 (machine_calls square_4 (9 ∷ []))).point ≡ point 4 0) ×
      (output_at (last_model square_4 (machine_calls square_4 (9 ∷ []))) 0 ≡ Value (pos 5)) ×
      ((last_model square_4 (machine_calls square_4 (9 ∷ 9 ∷ []))).point ≡ point 4 1) ×
      (output_at (last_model square_4 (machine_calls square_4 (9 ∷ 9 ∷ []))) 0 ≡ Value (pos 6))
  -- "A gain wired to itself: 11. An integrator wired to itself: accepted"
  pub looped : (load (wired_to_itself 1) ≡ refused 11 21) × ((load (wired_to_itself 6)).number ≡ 0)
  -- "Constant into a delay: 999 steps of 0, then 21"
  pub delays :
      (committed (machine_calls delayed (replicate 1000 1)) ≡ replicate 999 0) ×
      (numbers (machine_calls delayed (replicate 1000 1)) ≡ replicate 999 0 ++ (21 ∷ []))
  -- "w = 10^9 at t = 10^18 − 10^9 passes 23; one tick later it doesn't"
  pub latest :
      (sound (constant_at (last_tick - 1_000_000_000)) ≡ true) ×
      ((advance (constant_at (last_tick - 1_000_000_000)) 1_000_000_000).number ≡ 0) ×
      (sound (constant_at (last_tick - 999_999_999)) ≡ true) ×
      ((advance (constant_at (last_tick - 999_999_999)) 1_000_000_000).number ≡ 23)
  -- "Empty stream: 1 at 0"
  pub empty : load [] ≡ refused 1 0
