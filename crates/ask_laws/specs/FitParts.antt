-- A sound model has what the laws of rounds ask: every part is in good order and has at most 8 spans, and the P of
-- every detector is at least 1. The idea: the stored ratios are those that the table gives, each 1 or a power of ten,
-- and a kind that waits for multiples of P, or measures by P, names p. Assumes nothing.
use Rattle.std.specs.Prelude.{ℕ, ◌-◌, ◌^◌, ◌≤◌, ◌<◌, ◌≡◌, refl, Bool, true, false, length, eqb}
use Rattle.std.proofs.Common.{arith, mul-pos, ap, ◌∙◌, leb-true}
use Rattle.std.proofs.Math.Nat.{one-le-pow}
use Rattle.std.proofs.Math.Bool.{and-eq-true_iff}
use Rattle.machine.specs.declared.part.Kind.{Kind}
use Rattle.machine.specs.declared.part.Kind.TheVariants.{Constant, Gain, Adder, Square, Pulse, Delay, Integrator}
use Rattle.machine.specs.declared.part.Kind.TheVariants.{ResetIntegrator, Detector, Hold, Sampler, Drive, Clapper}
use Rattle.machine.specs.declared.part.Component.{Component}
use Rattle.machine.specs.declared.model.Model.{Model}
use Rattle.machine.specs.Time.{ratio_of, no_preference}
use Rattle.machine.specs.Kind.{names_p, is_positive, operands_fit, period}
use Rattle.machine.specs.Model.{most_spans, part_at}
use Rattle.machine.specs.Table.{table_of, magnitude_of, component_ratio}
use Rattle.machine.specs.Load.{is_drive}
use Rattle.machine.specs.Sound.{sound}
use Rattle.machine.specs.Accept.{Class, waiting, delaying, detecting, driving, free, class, class_of}
use Rattle.laws.specs.Bools.{cond_cases}
use Rattle.sound_laws.specs.SoundParts.{sound_component, sound_ratio_given, sound_local}
use Rattle.ask_laws.specs.Rounds.{AllFit, AllFew}

-- a ratio is 1 or a power of ten
ratio_positive : (magnitude preference : ℕ) → 0 < ratio_of magnitude preference
unfolding ratio_of
ratio_positive magnitude preference =
    cond_cases (λ (r : ℕ). 0 < r) (eqb preference no_preference) 1 (10 ^ (magnitude - preference)) (λ e. omega arith)
    (λ e. one-le-pow (magnitude - preference) 10 (omega arith))

-- the classes of the kinds that name p: those that wait for multiples of P, and detectors
abbrev class_names_p : Class → Bool
class_names_p waiting = true
class_names_p delaying = false
class_names_p detecting = true
class_names_p driving = false
class_names_p free = false

-- a kind names p by its class
named_by_class : (k : Kind) → names_p k ≡ class_names_p (class k)
named_by_class Constant = refl
named_by_class Gain = refl
named_by_class Adder = refl
named_by_class Square = refl
named_by_class Pulse = refl
named_by_class Delay = refl
named_by_class Integrator = refl
named_by_class ResetIntegrator = refl
named_by_class Detector = refl
named_by_class Hold = refl
named_by_class Sampler = refl
named_by_class Drive = refl
named_by_class Clapper = refl

-- p, where a kind names it, is at least 1
named_positive : (c : Component) → operands_fit c.kind c.a c.b c.p ≡ true → names_p c.kind ≡ true →
    0 < c.p
unfolding operands_fit is_positive
named_positive c fits named =
    let facts = simp (named, and-eq-true_iff) at fits in
    leb-true 1 c.p facts.1.0

module _ (m : Model) (is_sound : sound m ≡ true) (i : ℕ) (within : i < length m.parts) where
  -- each ratio is positive
  sound_ratio : 0 < (part_at m.parts i).ratio
  unfolding component_ratio
  sound_ratio = rw (sound_ratio_given m is_sound i within)
      (ratio_positive (magnitude_of (table_of m)) (part_at m.parts i).component.preference)

  -- the P of a part is positive, where its class names p
  sound_period : class_names_p (class_of (part_at m.parts i)) ≡ true → 0 < period (part_at m.parts i)
  sound_period named =
      let component = (part_at m.parts i).component in
      mul-pos (named_positive component (sound_component m is_sound i within).operands
      (named_by_class component.kind ∙ named)) sound_ratio

  -- so is that of a detector
  pub sound_detectors : class_of (part_at m.parts i) ≡ detecting → 0 < period (part_at m.parts i)
  sound_detectors detects = sound_period (ap class_names_p detects)

-- the parts of a sound model are in good order
pub sound_fit : (m : Model) → sound m ≡ true → AllFit m
sound_fit m is_sound i within =
    record {
      ratio = sound_ratio m is_sound i within;
      local = sound_local m is_sound i within;
      period = λ waits. sound_period m is_sound i within (ap class_names_p waits);
    }

-- and have at most 8 spans
pub sound_few : (m : Model) → sound m ≡ true → AllFew m
sound_few m is_sound i within =
    let component = (part_at m.parts i).component in
    let places = (sound_component m is_sound i within).places in
    cond_cases (λ (most : ℕ). length component.spans ≤ most → length component.spans ≤ 8)
    (is_drive component.kind) most_spans 0
    (λ drive few. few) (λ other few. omega arith) places
