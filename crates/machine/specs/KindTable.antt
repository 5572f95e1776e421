-- Document 01's table of kinds, line by line, with the sentences below it that say what a step changes, and request 2's
-- kind 12: a small law or two of each kind, as rows of a single statement. Each row has the paper's words above it, and
-- says them of every part of its kind, so that a definition that is bent makes a row false. Assumes nothing.
use Rattle.std.specs.Prelude.{ℕ, suc, ◌≡◌, true, false, ◌&&◌, eqb, ℤ, pos, negsuc}
use Rattle.machine.specs.declared.time.Point.{Point}
use Rattle.machine.specs.declared.signal.Signal.{Signal}
use Rattle.machine.specs.declared.signal.Signal.TheVariants.{Absent, Value}
use Rattle.machine.specs.declared.part.Kind.{Kind}
use Rattle.machine.specs.declared.part.Kind.TheVariants.{Constant, Gain, Adder, Square, Pulse, Delay, Integrator}
use Rattle.machine.specs.declared.part.Kind.TheVariants.{ResetIntegrator, Detector, Hold, Sampler, Drive}
use Rattle.machine.specs.declared.part.Kind.TheVariants.{Clapper}
use Rattle.machine.specs.declared.part.Side.{Side}
use Rattle.machine.specs.declared.part.Side.TheVariants.{Unset, Negative, Positive}
use Rattle.machine.specs.declared.part.Mark.{Mark}
use Rattle.machine.specs.declared.part.Mark.TheVariants.{Clear, Rising, Falling}
use Rattle.machine.specs.declared.part.Component.{Component}
use Rattle.machine.specs.declared.part.State.{State}
use Rattle.machine.specs.declared.part.Part.{Part}
use Rattle.machine.specs.Time.{point}
use Rattle.machine.specs.Signal.{is_value}
use Rattle.machine.specs.Kind.{kind_number, ports, direct0, operands_fit, output, integrates, has_mass}
use Rattle.machine.specs.Step.{moved_speed, moved_held, settled, with_output}
use Rattle.machine.specs.Fresh.{first_state}
use Rattle.machine.specs.Sound.{speed_fits}
use Rattle.machine.specs.Accept.{Accepts}

-- a component of the kind given with these operands, and all else as c has it
abbrev pub operated : Kind → ℤ → ℤ → ℕ → Component → Component
operated kind a b p c =
    record {
      kind = kind;
      preference = c.preference;
      a = a;
      b = b;
      p = p;
      span_count = c.span_count;
      spans = c.spans;
      port0 = c.port0;
      port1 = c.port1;
    }

-- a part of the kind given with these operands, and all else as q has it
abbrev pub of_kind : Kind → ℤ → ℤ → ℕ → Part → Part
of_kind kind a b p q = record { component = operated kind a b p q.component; ratio = q.ratio; state = q.state }

-- a part with operand p and a ratio, of the kind given, where P is p × r
abbrev pub periodic : Kind → ℤ → ℤ → ℕ → ℕ → Part → Part
periodic kind a b p r q = record { component = operated kind a b p q.component; ratio = r; state = q.state }

-- a part that keeps a number, a signal, a side and a mark
abbrev pub keeping : ℤ → Signal → Side → Mark → Part → Part
keeping held signal side mark q =
    record {
      component = q.component;
      ratio = q.ratio;
      state =
          record {
            local = q.state.local;
            held = held;
            speed = q.state.speed;
            signal = signal;
            output = q.state.output;
            side = side;
            mark = mark;
          };
    }

-- the part once it shows its output at a point, where its port 0 reads x and its port 1 y, and has settled
abbrev pub shown_settled : Part → Point → (x y before : Signal) → Part
shown_settled p now x y before = settled x (with_output p (output p now x y before))

-- a clapper at a position with a speed, of ratio r, at the start; all else as q has it
abbrev pub clapper : (position speed : ℤ) → ℕ → Part → Part
clapper position speed r q =
    record {
      component = operated Clapper position speed 0 q.component;
      ratio = r;
      state =
          record {
            local = record { 0 = 0 };
            held = position;
            speed = speed;
            signal = q.state.signal;
            output = q.state.output;
            side = q.state.side;
            mark = q.state.mark;
          };
    }

-- what a detector keeps of an input x, seen after a side: its side and its mark
abbrev pub seen : Side → Signal → Part → State
seen side x q = (settled x (keeping (pos 0) Absent side Clear (of_kind Detector (pos 0) (pos 0) 1 q))).state

-- the statement: of every part q, whatever the other things are that it holds
pub record KindTable : Type 0 where
  -- 0 constant: "a"
  pub constant : (a : ℤ) (q : Part) (now : Point) (x y before : Signal) →
      output (of_kind Constant a (pos 0) 0 q) now x y before ≡ Value a
  -- 1 gain: "clamp(a × x)": 3 × −4; and 10^9 × −2, clamped; "absent if x is"
  pub gain :
      (a : ℤ) (q : Part) (now : Point) (y before : Signal) →
      (output (of_kind Gain (pos 3) (pos 0) 0 q) now (Value (negsuc 3)) y before ≡ Value (negsuc 11)) ×
      (output (of_kind Gain (pos 1_000_000_000) (pos 0) 0 q) now (Value (negsuc 1)) y before ≡
      Value (negsuc 999_999_999)) ×
      (output (of_kind Gain a (pos 0) 0 q) now Absent y before ≡ Absent)
  -- 2 adder: "clamped sum of the present inputs": 2 and −5; and 10^9 and 1, clamped
  pub adder :
      (q : Part) (now : Point) (before : Signal) →
      (output (of_kind Adder (pos 0) (pos 0) 0 q) now (Value (pos 2)) (Value (negsuc 4)) before ≡ Value (negsuc 2)) ×
      (output (of_kind Adder (pos 0) (pos 0) 0 q) now (Value (pos 1_000_000_000)) (Value (pos 1)) before ≡
      Value (pos 1_000_000_000))
  -- one present input gives that input, at either port; "absent if none"
  pub adder_one :
      (v : ℤ) (q : Part) (now : Point) (before : Signal) → is_value v ≡ true →
      (output (of_kind Adder (pos 0) (pos 0) 0 q) now (Value v) Absent before ≡ Value v) ×
      (output (of_kind Adder (pos 0) (pos 0) 0 q) now Absent (Value v) before ≡ Value v) ×
      (output (of_kind Adder (pos 0) (pos 0) 0 q) now Absent Absent before ≡ Absent)
  -- 3 square, p = 2 at ratio 2, so that P is 4: a up to (4, 0), b from (4, 1) up to (8, 0), a from (8, 1) on
  pub square :
      (a b : ℤ) (q : Part) (x y before : Signal) →
      (output (periodic Square a b 2 2 q) (point 0 0) x y before ≡ Value a) ×
      (output (periodic Square a b 2 2 q) (point 4 0) x y before ≡ Value a) ×
      (output (periodic Square a b 2 2 q) (point 4 1) x y before ≡ Value b) ×
      (output (periodic Square a b 2 2 q) (point 8 0) x y before ≡ Value b) ×
      (output (periodic Square a b 2 2 q) (point 8 1) x y before ≡ Value a)
  -- 4 pulse, p = 2 at ratio 2, so that P is 4: "a at the points (k × P, 1), k ≥ 1"
  pub pulse :
      (a : ℤ) (q : Part) (x y before : Signal) →
      (output (periodic Pulse a (pos 0) 2 2 q) (point 4 1) x y before ≡ Value a) ×
      (output (periodic Pulse a (pos 0) 2 2 q) (point 8 1) x y before ≡ Value a)
  -- "else absent": at (0, 1), at another tick, and at other microsteps
  pub pulse_else :
      (a : ℤ) (q : Part) (x y before : Signal) →
      (output (periodic Pulse a (pos 0) 2 2 q) (point 0 1) x y before ≡ Absent) ×
      (output (periodic Pulse a (pos 0) 2 2 q) (point 6 1) x y before ≡ Absent) ×
      (output (periodic Pulse a (pos 0) 2 2 q) (point 4 0) x y before ≡ Absent) ×
      (output (periodic Pulse a (pos 0) 2 2 q) (point 4 2) x y before ≡ Absent)
  -- 5 delay: "if n > 0 the input at the point before, else absent"
  pub delay :
      (t : ℕ) (q : Part) (x y before : Signal) →
      (output (of_kind Delay (pos 0) (pos 0) 0 q) (point t 0) x y before ≡ Absent) ×
      (output (of_kind Delay (pos 0) (pos 0) 0 q) (point t 1) x y before ≡ before) ×
      (output (of_kind Delay (pos 0) (pos 0) 0 q) (point t 999) x y before ≡ before)
  -- 6 integrator: "held number"; and 11 drive: "as 6"
  pub integrator :
      (a held : ℤ) (s : Signal) (q : Part) (now : Point) (x y before : Signal) →
      (output (keeping held s Unset Clear (of_kind Integrator a (pos 0) 0 q)) now x y before ≡ Value held) ×
      (output (keeping held s Unset Clear (of_kind Drive a (pos 0) 0 q)) now x y before ≡ Value held)
  -- 6, 7 and 11: "starting at a"
  pub starting :
      (a : ℤ) (c : Component) →
      ((first_state (operated Integrator a (pos 0) 0 c)).held ≡ a) ×
      ((first_state (operated ResetIntegrator a (pos 0) 0 c)).held ≡ a) ×
      ((first_state (operated Drive a (pos 0) 0 c)).held ≡ a)
  -- "On a step, kinds 6, 7, 11 take held := clamp(held + x × d)", the kinds that integrate without mass: 5 and −2 for 3
  -- ticks; and clamped
  pub moving :
      (k : Kind) (s : Signal) (q : Part) → integrates k ≡ true → has_mass k ≡ false →
      (moved_held (keeping (pos 5) s Unset Clear (of_kind k (pos 0) (pos 0) 0 q)) (Value (negsuc 1)) 3 ≡ negsuc 0) ×
      (moved_held (keeping (pos 5) s Unset Clear (of_kind k (pos 0) (pos 0) 0 q)) (Value (pos 1)) 1_000_000_000 ≡
      pos 1_000_000_000)
  -- "Absent counts as 0 only where an integrator or drive integrates it": the held number stays, where no speed moves
  -- it; and so it does of a kind that integrates nothing
  pub resting :
      (k : Kind) (held : ℤ) (s x : Signal) (d : ℕ) (q : Part) → is_value held ≡ true →
      (has_mass k ≡ false → moved_held (keeping held s Unset Clear (of_kind k (pos 0) (pos 0) 0 q)) Absent d ≡ held) ×
      (integrates k ≡ false → moved_held (keeping held s Unset Clear (of_kind k (pos 0) (pos 0) 0 q)) x d ≡ held)
  -- 7 reset integrator: "port 1 if present (direct), else the held number"
  pub reset :
      (a held v : ℤ) (s : Signal) (q : Part) (now : Point) (x before : Signal) →
      (output (keeping held s Unset Clear (of_kind ResetIntegrator a (pos 0) 0 q)) now x (Value v) before ≡ Value v) ×
      (output (keeping held s Unset Clear (of_kind ResetIntegrator a (pos 0) 0 q)) now x Absent before ≡ Value held)
  -- "then kinds 7 and 9 hold their output": what port 1 set it to shows at the next point too
  pub reset_held :
      (a v : ℤ) (q : Part) (now next : Point) (x before other last : Signal) →
      output (shown_settled (of_kind ResetIntegrator a (pos 0) 0 q) now x (Value v) before) next other Absent last ≡
      Value v
  -- 8 detector: "the pending mark (1 or −1) set at the point before, else absent"
  pub detector :
      (side : Side) (held : ℤ) (s : Signal) (q : Part) (now : Point) (x y before : Signal) →
      (output (keeping held s side Rising (of_kind Detector (pos 0) (pos 0) 1 q)) now x y before ≡ Value (pos 1)) ×
      (output (keeping held s side Falling (of_kind Detector (pos 0) (pos 0) 1 q)) now x y before ≡ Value (negsuc 0)) ×
      (output (keeping held s side Clear (of_kind Detector (pos 0) (pos 0) 1 q)) now x y before ≡ Absent)
  -- "of another side than its last, the mark becomes 1 (now not negative) or −1", not negative being positive by
  -- request 1
  pub crossed :
      (n : ℕ) (q : Part) →
      ((seen Negative (Value (pos (suc n))) q).mark ≡ Rising) ×
      ((seen Negative (Value (pos (suc n))) q).side ≡ Positive) ×
      ((seen Positive (Value (negsuc n)) q).mark ≡ Falling) × ((seen Positive (Value (negsuc n)) q).side ≡ Negative)
  -- "otherwise none": the same side again; "an absent input keeps it"; "unset until a first value, which sets no mark"
  pub uncrossed :
      (side : Side) (v : ℤ) (q : Part) →
      ((seen Negative (Value (negsuc 0)) q).mark ≡ Clear) × ((seen Positive (Value (pos 1)) q).mark ≡ Clear) ×
      ((seen side Absent q).side ≡ side) × ((seen side Absent q).mark ≡ Clear) × ((seen Unset (Value v) q).mark ≡ Clear)
  -- request 1: "A detector whose side is unset stays unset at zero", and "counts zero as the side held before"
  pub at_zero :
      (side : Side) (q : Part) →
      ((seen Unset (Value (pos 0)) q).side ≡ Unset) × ((seen side (Value (pos 0)) q).side ≡ side) ×
      ((seen side (Value (pos 0)) q).mark ≡ Clear)
  -- 9 hold: "x if present (direct), else the held signal, at first absent"
  pub hold :
      (v held : ℤ) (s : Signal) (c : Component) (q : Part) (now : Point) (y before : Signal) →
      (output (keeping held s Unset Clear (of_kind Hold (pos 0) (pos 0) 0 q)) now (Value v) y before ≡ Value v) ×
      (output (keeping held s Unset Clear (of_kind Hold (pos 0) (pos 0) 0 q)) now Absent y before ≡ s) ×
      ((first_state c).signal ≡ Absent)
  -- and it keeps what it showed through absence
  pub hold_kept :
      (v : ℤ) (q : Part) (now next : Point) (y before other last : Signal) →
      output (shown_settled (of_kind Hold (pos 0) (pos 0) 0 q) now (Value v) y before) next Absent other last ≡ Value v
  -- 10 sampler: "port 0 if port 1 is present, else absent"
  pub sampler :
      (w : ℤ) (q : Part) (now : Point) (x before : Signal) →
      (output (of_kind Sampler (pos 0) (pos 0) 0 q) now x (Value w) before ≡ x) ×
      (output (of_kind Sampler (pos 0) (pos 0) 0 q) now x Absent before ≡ Absent)
  -- request 2: "Kind 12 holds a position (starting at a) and a speed (starting at b)", and no other kind does
  pub clapper_alone : (k : Kind) → has_mass k ≡ eqb (kind_number k) 12
  -- 12 clapper: "a position (starting at a) and a speed (starting at b)"; the speed of a fresh part of another kind is
  -- 0
  pub clapper_starting :
      (a b : ℤ) (k : Kind) (p : ℕ) (c : Component) →
      ((first_state (operated Clapper a b 0 c)).speed ≡ b) × ((first_state (operated Clapper a b 0 c)).held ≡ a) ×
      (has_mass k ≡ false → (first_state (operated k a b p c)).speed ≡ pos 0)
  -- a and b are named, and so are values; p is not, and must be 0
  pub clapper_operands : (a b : ℤ) (p : ℕ) → operands_fit Clapper a b p ≡ (is_value a && is_value b && eqb p 0)
  -- "speed becomes clamp(speed + x × d) and then position becomes clamp(position + new speed × d)": from 10 at speed 5,
  -- −2 for 3 ticks; and absent as 0
  pub clapper_moving :
      (r : ℕ) (q : Part) →
      (moved_held (clapper (pos 10) (pos 5) r q) (Value (negsuc 1)) 3 ≡ pos 7) ×
      (moved_speed (clapper (pos 10) (pos 5) r q) (Value (negsuc 1)) 3 ≡ negsuc 0) ×
      (moved_held (clapper (pos 10) (pos 5) r q) Absent 3 ≡ pos 25) ×
      (moved_speed (clapper (pos 10) (pos 5) r q) Absent 3 ≡ pos 5)
  -- the speed is clamped before it moves the position: an input leads it beyond either end of the values, and the
  -- position comes to 0
  pub clapper_clamped :
      (r : ℕ) (q : Part) →
      (moved_held (clapper (negsuc 999_999_999) (pos 1_000_000_000) r q) (Value (pos 5)) 1 ≡ pos 0) ×
      (moved_speed (clapper (negsuc 999_999_999) (pos 1_000_000_000) r q) (Value (pos 5)) 1 ≡ pos 1_000_000_000) ×
      (moved_held (clapper (pos 1_000_000_000) (negsuc 999_999_999) r q) (Value (negsuc 4)) 1 ≡ pos 0) ×
      (moved_speed (clapper (pos 1_000_000_000) (negsuc 999_999_999) r q) (Value (negsuc 4)) 1 ≡ negsuc 999_999_999)
  -- and the position is clamped at either end
  pub clapper_ends :
      (r : ℕ) (q : Part) →
      (moved_held (clapper (pos 999_999_999) (pos 2) r q) Absent 1 ≡ pos 1_000_000_000) ×
      (moved_held (clapper (negsuc 999_999_998) (negsuc 1) r q) Absent 1 ≡ negsuc 999_999_999)
  -- "The output is the position, port 0 is not direct, and the part accepts every step"
  pub clapper_free :
      (a b : ℤ) (r : ℕ) (q : Part) (now : Point) (x y before : Signal) (h : ℕ) →
      (output (clapper a b r q) now x y before ≡ Value a) × (ports Clapper ≡ 1) × (direct0 Clapper ≡ false) ×
      Accepts (clapper a b r q) now x h
  -- "the speed as second held number: in a sound model a value, and 0 for other kinds"
  pub clapper_sound :
      (k : Kind) (n : ℕ) (v : ℤ) →
      (has_mass k ≡ false → (speed_fits k (pos (suc n)) ≡ false) × (speed_fits k (negsuc n) ≡ false) ×
      (speed_fits k (pos 0) ≡ true)) ×
      (speed_fits Clapper v ≡ is_value v)
