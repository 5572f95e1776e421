-- What a step made leaves as it was: the number of parts, and of each part its component and ratio. The idea: both are
-- read from the cores of the parts, and a step keeps of these what moving keeps (soundness, `step_kept`). Assumes
-- nothing.
use Rattle.std.specs.Prelude.{ℕ, ◌≡◌, refl, map, length}
use Rattle.std.proofs.Common.{ap}
use Rattle.machine.specs.declared.part.Component.{Component}
use Rattle.machine.specs.declared.part.Part.{Part}
use Rattle.machine.specs.declared.model.Model.{Model}
use Rattle.machine.specs.Model.{part_at, blank_part}
use Rattle.machine.specs.Step.{moved, step_made}
use Rattle.laws.specs.Alls.{length_same_map, same_at}
use Rattle.sound_laws.specs.CoreKept.{Core}
use Rattle.sound_laws.specs.Stepped.{step_kept}

-- what a step changes nothing of: a part's component and its ratio
abbrev fixed : Part → Component × ℕ
fixed p = (p.component, p.ratio)

module _ (m : Model) (h : ℕ) where
  -- a step made keeps it, of all parts
  made_fixed : map fixed (step_made m h).parts ≡ map fixed m.parts
  unfolding moved
  made_fixed = step_kept (λ (c : Core). (c.component, c.ratio)) m h (λ p. refl)

  -- and so of each
  made_fixed_at : (i : ℕ) → fixed (part_at (step_made m h).parts i) ≡ fixed (part_at m.parts i)
  made_fixed_at i = same_at fixed (step_made m h).parts m.parts i blank_part made_fixed

  -- a step made has as many parts
  pub made_length : length (step_made m h).parts ≡ length m.parts
  made_length = length_same_map fixed (step_made m h).parts m.parts made_fixed

  -- each part keeps its component and its ratio
  pub made_component : (i : ℕ) → (part_at (step_made m h).parts i).component ≡ (part_at m.parts i).component
  made_component i = ap (λ (f : Component × ℕ). f.0) (made_fixed_at i)

  pub made_ratio : (i : ℕ) → (part_at (step_made m h).parts i).ratio ≡ (part_at m.parts i).ratio
  made_ratio i = ap (λ (f : Component × ℕ). f.1) (made_fixed_at i)
