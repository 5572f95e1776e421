-- The ranges that the functions on a part need, so that a caller shows each once. Assumes nothing.
use Rattle.std.specs.Prelude.{ℕ, ◌+◌, ◌≤◌, ◌≡◌, true}
use Rattle.machine.specs.declared.part.Part.{Part}
use Rattle.machine.specs.Time.{last_tick, local_count}
use Rattle.machine.specs.Signal.{is_value}
use Rattle.machine.specs.Kind as Kind

-- the operand a, the held number and the speed are values, and P is at most 10^18
pub record PartFits (p : Part) : Type 0 where
  pub a : is_value p.component.a ≡ true
  pub held : is_value p.state.held ≡ true
  pub speed : is_value p.state.speed ≡ true
  pub period : Kind.period p ≤ last_tick

-- a step of h from tick t ends by the last tick, and the part's local count is no more than it is to become
pub record StepFits (t h : ℕ) (p : Part) : Type 0 where
  pub time : t + h ≤ last_tick
  pub local : p.state.local.0 ≤ (local_count (t + h) p.ratio).0
