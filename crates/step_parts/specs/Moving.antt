-- Moving is a change in place, and what it asks of each part holds of those of a sound model. Assumes nothing.
use Rattle.std.specs.Prelude.{ℕ, ◌+◌, ◌/◌, ◌≤◌, ◌<◌, ◌≡◌, refl, true, length}
use Rattle.std.proofs.Common.{arith}
use Rattle.machine.specs.declared.part.Part.{Part}
use Rattle.machine.specs.declared.model.Model.{Model}
use Rattle.machine.specs.Time.{last_tick, tick, local_count, gained}
use Rattle.machine.specs.Signal.{is_signal}
use Rattle.machine.specs.Kind.{period}
use Rattle.machine.specs.Model.{blank_part, part_at, reading0, trimmed_part, trimmed_component}
use Rattle.machine.specs.Step.{gain_of, moved, moved_held, moved_speed, rate}
use Rattle.machine.specs.Sound.{sound}
use Rattle.laws.specs.Numbers.{div_grows, div_more}
use Rattle.laws.specs.ListLaws.{all_at}
use Rattle.sound_laws.specs.Facts.{speed_value, StateFits, sound_facts}
use Rattle.sound_laws.specs.RangesKept.{InRange, reading_signal}
use Rattle.sound_laws.specs.Stepped.{in_range}
use Rattle.step_part.specs.PartRanges as point
use Rattle.step_parts.specs.InPlace.{InPlace}
use Rattle.step_parts.specs.WiredParts.{sound_periods}

-- moving keeps components and stored outputs, and reads nothing that trimming cuts away
pub moving : (t h : ℕ) → InPlace (moved t h)
unfolding trimmed_part trimmed_component moved moved_held moved_speed rate gain_of gained
moving t h = record { component = λ x p. refl; output = λ x p. refl; unread = λ x p. refl }

-- what moving a part asks
pub record Movable (t h : ℕ) (p : Part) : Type 0 where
  pub ranges : point.PartFits p
  pub fits : point.StepFits t h p
  pub gain : gain_of t h p ≤ 1_000_000_000

-- it asks nothing of what trimming cuts away
pub movable_untrimmed : (t h : ℕ) (p : Part) → Movable t h (trimmed_part p) → Movable t h p
unfolding trimmed_part trimmed_component gain_of
movable_untrimmed t h p m =
    record {
      ranges = record {
        a = m.ranges.a;
        held = m.ranges.held;
        speed = m.ranges.speed;
        period = m.ranges.period;
      };
      fits = record { time = m.fits.time; local = m.fits.local };
      gain = m.gain;
    }

module _ (m : Model) (is_sound : sound m ≡ true) where
  -- every part of a sound model can be moved
  pub movable :
      (h i : ℕ) → i < length m.parts → h ≤ 1_000_000_000 → tick m.point + h ≤ last_tick →
      Movable (tick m.point) h (part_at m.parts i)
  unfolding gain_of gained local_count
  movable h i within small far =
      let t = tick m.point in
      let p = part_at m.parts i in
      let range = all_at InRange m.parts blank_part i (in_range m is_sound) within in
      let state = all_at (StateFits t) m.parts blank_part i (sound_facts m is_sound).states within in
      let most = all_at (λ (q : Part). period q ≤ last_tick) m.parts blank_part i
      (sound_periods m is_sound) within in
      let local : p.state.local.0 ≡ t / p.ratio = state.local in
      let grows = div_grows p.ratio t (t + h) (omega arith) in
      let gains = div_more p.ratio t h in
      record {
        ranges = record { a = range.a; held = range.held; speed = speed_value _ _ range.speed; period = most };
        fits = record { time = far; local = rw local grows };
        gain = rw local (omega arith);
      }

  -- and its port 0 reads a signal
  pub movable_reading : (p : Part) → is_signal (reading0 m.parts p) ≡ true
  unfolding reading0
  movable_reading p = reading_signal m.parts p.component.port0 (in_range m is_sound)
