-- Settling is a change in place, and leaves the parts of nine kinds as they are. Assumes nothing.
use Rattle.std.specs.Prelude.{◌≡◌, refl, Bool, true, false}
use Rattle.std.proofs.Common.{ap, true≢false}
use Rattle.machine.specs.declared.signal.Signal.{Signal}
use Rattle.machine.specs.declared.part.Kind.{Kind}
use Rattle.machine.specs.declared.part.Kind.TheVariants.{Constant, Gain, Adder, Square, Pulse, Delay, Integrator}
use Rattle.machine.specs.declared.part.Kind.TheVariants.{ResetIntegrator, Detector, Hold, Sampler, Drive, Clapper}
use Rattle.machine.specs.declared.part.State.{State}
use Rattle.machine.specs.declared.part.Part.{Part}
use Rattle.machine.specs.Model.{trimmed_part, trimmed_component, with_state}
use Rattle.machine.specs.Step.{settled_as, settled}
use Rattle.order_laws.specs.Models.{settled_as_output}
use Rattle.step_parts.specs.InPlace.{InPlace}

-- settling is a change in place
pub settling : InPlace settled
unfolding trimmed_part trimmed_component settled
settling =
    record {
      component = λ x p. refl;
      output = λ x p. settled_as_output p.component.kind x p.state;
      unread = λ x p. refl;
    }

-- the kinds that settling changes
abbrev pub settles : Kind → Bool
settles Constant = false
settles Gain = false
settles Adder = false
settles Square = false
settles Pulse = false
settles Delay = false
settles Integrator = false
settles ResetIntegrator = true
settles Detector = true
settles Hold = true
settles Sampler = false
settles Drive = false
settles Clapper = false

-- a part of another kind stays as it was
settled_as_same : (k : Kind) (x : Signal) (s : State) → settles k ≡ false → settled_as k x s ≡ s
unfolding settled_as
settled_as_same Constant x s e = refl
settled_as_same Gain x s e = refl
settled_as_same Adder x s e = refl
settled_as_same Square x s e = refl
settled_as_same Pulse x s e = refl
settled_as_same Delay x s e = refl
settled_as_same Integrator x s e = refl
settled_as_same ResetIntegrator x s e = absurd (true≢false e)
settled_as_same Detector x s e = absurd (true≢false e)
settled_as_same Hold x s e = absurd (true≢false e)
settled_as_same Sampler x s e = refl
settled_as_same Drive x s e = refl
settled_as_same Clapper x s e = refl

pub settled_same : (x : Signal) (p : Part) → settles p.component.kind ≡ false → settled x p ≡ p
unfolding settled
settled_same x p e = ap (with_state p) (settled_as_same p.component.kind x p.state e)
