-- Moving, showing and settling keep numbers and signals in range: whatever is stored is an operand, a clamped number,
-- or was in range before. Assumes nothing.
use Rattle.std.specs.Prelude.{ℕ, ◌%◌, ◌≡◌, refl, true, cond, ◌&&◌, ℤ, ◌+ℤ◌, ◌*ℤ◌, set, eqb, ltb}
use mathlib.Core.List.{List, [], ◌∷◌}
use Rattle.machine.specs.declared.time.Point.{Point}
use Rattle.machine.specs.declared.signal.Signal.{Signal}
use Rattle.machine.specs.declared.signal.Signal.TheVariants.{Absent, Value}
use Rattle.machine.specs.declared.part.Kind.{Kind}
use Rattle.machine.specs.declared.part.Kind.TheVariants.{Constant, Gain, Adder, Square, Pulse, Delay, Integrator}
use Rattle.machine.specs.declared.part.Kind.TheVariants.{ResetIntegrator, Detector, Hold, Sampler, Drive, Clapper}
use Rattle.machine.specs.declared.part.Mark.{Mark}
use Rattle.machine.specs.declared.part.Mark.TheVariants.{Clear, Rising, Falling}
use Rattle.machine.specs.declared.part.Source.{Source}
use Rattle.machine.specs.declared.part.Source.TheVariants.{Unwired, From}
use Rattle.machine.specs.declared.part.Part.{Part}
use Rattle.machine.specs.Lists.{All}
use Rattle.machine.specs.Time.{tick}
use Rattle.machine.specs.Signal.{is_value, is_signal, integrated, product, total, first_present, sampled, integral}
use Rattle.machine.specs.Kind.{period, positive_multiple, half_waves, square, pulse, mark_signal, output_as, output}
use Rattle.machine.specs.Kind.{integrates, has_mass}
use Rattle.machine.specs.Model.{blank_part, part_at, with_state, reading, reading0, reading1}
use Rattle.machine.specs.Step.{gain_of, moved_speed, rate, moved_held, moved, shown, filled, settled_as, settled}
use Rattle.machine.specs.Step.{all_moved, all_settled}
use Rattle.machine.specs.Sound.{speed_fits}
use Rattle.laws.specs.Alls.{all_default, all_set, all_map}
use Rattle.laws.specs.Bools.{cond_cases}
use Rattle.laws.specs.Signed.{clamp_value, integral_value}

-- a product is a signal
product_signal : (a : ℤ) (x : Signal) → is_signal (product a x) ≡ true
unfolding is_signal product
product_signal a Absent = refl
product_signal a (Value v) = clamp_value (a *ℤ v)

-- a total is a signal
total_signal : (x y : Signal) → is_signal (total x y) ≡ true
unfolding is_signal total
total_signal Absent Absent = refl
total_signal Absent (Value w) = clamp_value w
total_signal (Value v) Absent = clamp_value v
total_signal (Value v) (Value w) = clamp_value (v +ℤ w)

-- the first present of two signals is a signal
first_present_signal : (x y : Signal) → is_signal x ≡ true → is_signal y ≡ true → is_signal (first_present x y) ≡ true
first_present_signal Absent y hx hy = hy
first_present_signal (Value v) y hx hy = hx

-- a signal sampled is a signal
sampled_signal : (x y : Signal) → is_signal x ≡ true → is_signal (sampled x y) ≡ true
unfolding is_signal
sampled_signal x Absent hx = refl
sampled_signal x (Value w) hx = hx

-- a mark shows a signal
mark_is_signal : (k : Mark) → is_signal (mark_signal k) ≡ true
unfolding is_signal is_value
mark_is_signal Clear = refl
mark_is_signal Rising = refl
mark_is_signal Falling = refl

-- a signal that is integrated counts as a value
integrated_value : (x : Signal) → is_signal x ≡ true → is_value (integrated x) ≡ true
unfolding is_signal is_value
integrated_value Absent h = refl
integrated_value (Value v) h = h

-- what of a part is in range
pub record InRange (p : Part) : Type 0 where
  pub a : is_value p.component.a ≡ true
  pub b : is_value p.component.b ≡ true
  pub held : is_value p.state.held ≡ true
  pub speed : speed_fits p.component.kind p.state.speed ≡ true
  pub signal : is_signal p.state.signal ≡ true
  pub output : is_signal p.state.output ≡ true

-- what is where a list has no such part is in range
blank_in_range : InRange blank_part
unfolding is_value is_signal speed_fits
blank_in_range = record { a = refl; b = refl; held = refl; speed = refl; signal = refl; output = refl }

-- a port reads a signal
pub reading_signal : (ps : List Part) (s : Source) → All InRange ps → is_signal (reading ps s) ≡ true
unfolding reading is_signal
reading_signal ps Unwired h = refl
reading_signal ps (From k) h = (all_default InRange ps blank_part k h blank_in_range).output

-- the output of a part in range is a signal, where its ports read signals
output_as_signal :
    (k : Kind) (p : Part) (now : Point) (x y before : Signal) → InRange p → is_signal x ≡ true → is_signal y ≡ true →
    is_signal before ≡ true →
    is_signal (output_as k p now x y before) ≡ true
unfolding output_as is_signal square pulse
output_as_signal Constant p now x y before h hx hy hb = h.a
output_as_signal Gain p now x y before h hx hy hb = product_signal p.component.a x
output_as_signal Adder p now x y before h hx hy hb = total_signal x y
output_as_signal Square p now x y before h hx hy hb =
    cond_cases (λ (v : ℤ). is_value v ≡ true) (eqb (half_waves (period p) now % 2) 0) p.component.a
    p.component.b (λ e. h.a) (λ e. h.b)
output_as_signal Pulse p now x y before h hx hy hb =
    cond_cases (λ (s : Signal). is_signal s ≡ true) (eqb now.n 1 && positive_multiple (period p) (tick now))
    (Value p.component.a) Absent (λ e. h.a) (λ e. refl)
output_as_signal Delay p now x y before h hx hy hb =
    cond_cases (λ (s : Signal). is_signal s ≡ true) (ltb 0 now.n) before Absent (λ e. hb) (λ e. refl)
output_as_signal Integrator p now x y before h hx hy hb = h.held
output_as_signal ResetIntegrator p now x y before h hx hy hb =
    first_present_signal y (Value p.state.held) hy h.held
output_as_signal Detector p now x y before h hx hy hb = mark_is_signal p.state.mark
output_as_signal Hold p now x y before h hx hy hb = first_present_signal x p.state.signal hx h.signal
output_as_signal Sampler p now x y before h hx hy hb = sampled_signal x y hx
output_as_signal Drive p now x y before h hx hy hb = h.held
output_as_signal Clapper p now x y before h hx hy hb = h.held

-- where the parts at the point before are in range:
module _ (old : List Part) (now : Point) (before : All InRange old) where
  -- showing a part keeps it in range
  shown_in_range : (ps : List Part) (p : Part) → All InRange ps → InRange p → InRange (shown old now ps p)
  unfolding shown output reading0 reading1
  shown_in_range ps p hs h =
      record {
        a = h.a;
        b = h.b;
        held = h.held;
        speed = h.speed;
        signal = h.signal;
        output =
            output_as_signal p.component.kind p now (reading0 ps p) (reading1 ps p) (reading0 old p) h
            (reading_signal ps p.component.port0 hs) (reading_signal ps p.component.port1 hs)
            (reading_signal old p.component.port0 before);
      }

  -- showing parts, in any order, keeps all in range
  pub filled_in_range : (ks : List ℕ) (ps : List Part) → All InRange ps → All InRange (filled old now ks ps)
  unfolding filled
  filled_in_range [] ps h = h
  filled_in_range (k ∷ ks) ps h =
      filled_in_range ks (set ps k (shown old now ps (part_at ps k)))
      (all_set InRange ps k (shown old now ps (part_at ps k)) h
      (shown_in_range ps (part_at ps k) h (all_default InRange ps blank_part k h blank_in_range)))

-- settling a part keeps it in range
settled_in_range : (k : Kind) (x : Signal) (p : Part) → InRange p → InRange (with_state p (settled_as k x p.state))
unfolding settled_as
settled_in_range Constant x p h = h
settled_in_range Gain x p h = h
settled_in_range Adder x p h = h
settled_in_range Square x p h = h
settled_in_range Pulse x p h = h
settled_in_range Delay x p h = h
settled_in_range Integrator x p h = h
settled_in_range ResetIntegrator x p h =
    record {
      a = h.a;
      b = h.b;
      held = integrated_value p.state.output h.output;
      speed = h.speed;
      signal = h.signal;
      output = h.output;
    }
settled_in_range Detector x p h = record {
  a = h.a;
  b = h.b;
  held = h.held;
  speed = h.speed;
  signal = h.signal;
  output = h.output;
}
settled_in_range Hold x p h = record {
  a = h.a;
  b = h.b;
  held = h.held;
  speed = h.speed;
  signal = h.output;
  output = h.output;
}
settled_in_range Sampler x p h = h
settled_in_range Drive x p h = h
settled_in_range Clapper x p h = h

-- settling all parts keeps them in range
pub all_settled_in_range : (ps : List Part) → All InRange ps → All InRange (all_settled ps)
unfolding all_settled settled
all_settled_in_range ps h =
    all_map (λ (p : Part). settled (reading0 ps p) p) InRange InRange ps
    (λ p. settled_in_range p.component.kind (reading0 ps p) p) h

-- a speed that is a value where the kind has mass, and stays where it has none, fits
speed_moved : (k : Kind) (v w : ℤ) → is_value v ≡ true → speed_fits k w ≡ true →
    speed_fits k (cond (has_mass k) v w) ≡ true
unfolding speed_fits
speed_moved k v w value fits =
    cond_cases (λ (z : ℤ). speed_fits k z ≡ true) (has_mass k) v w (λ e. rw e value) (λ e. fits)

-- moving all parts keeps them in range
pub all_moved_in_range : (t h : ℕ) (ps : List Part) → All InRange ps → All InRange (all_moved t h ps)
unfolding all_moved moved moved_held moved_speed
all_moved_in_range t h ps r =
    all_map (λ (p : Part). moved t h (reading0 ps p) p) InRange InRange ps
    (λ p q.
    record {
      a = q.a;
      b = q.b;
      held =
          cond_cases (λ (v : ℤ). is_value v ≡ true) (integrates p.component.kind)
          (integral p.state.held (rate p (reading0 ps p) (gain_of t h p)) (gain_of t h p)) p.state.held
          (λ e. integral_value p.state.held (rate p (reading0 ps p) (gain_of t h p)) (gain_of t h p))
          (λ e. q.held);
      speed =
          speed_moved p.component.kind (integral p.state.speed (reading0 ps p) (gain_of t h p))
          p.state.speed
          (integral_value p.state.speed (reading0 ps p) (gain_of t h p)) q.speed;
      signal = q.signal;
      output = q.output;
    })
    r
