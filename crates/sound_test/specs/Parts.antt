-- What soundness asks of one part, gathered into one test. Assumes nothing.
use Rattle.std.specs.Prelude.{ℕ, ◌*◌, Bool, ◌&&◌, eqb, leb}
use Rattle.machine.specs.declared.part.Kind.{Kind}
use Rattle.machine.specs.declared.part.State.{State}
use Rattle.machine.specs.declared.part.Part.{Part}
use Rattle.machine.specs.Time.{last_tick, local_count, ratio_of}
use Rattle.machine.specs.Signal.{is_value, is_signal}
use Rattle.machine.specs.Sound.{component_fits, speed_fits}

-- the machine's `state_fits`, of a state, a kind and a ratio
unfoldable pub state_holds : (t ratio : ℕ) → Kind → State → Bool
state_holds t ratio k s =
    eqb s.local.0 (local_count t ratio).0 && is_value s.held && speed_fits k s.speed &&
    is_signal s.signal && is_signal s.output

-- a part that fits, among n parts at tick t, by the master's magnitude: its component, its ratio, its period and its
-- state
unfoldable pub part_fits : (n magnitude t : ℕ) → Part → Bool
part_fits n magnitude t p =
    let ratio = ratio_of magnitude p.component.preference in
    component_fits n p.component && eqb p.ratio ratio && leb (p.component.p * ratio) last_tick &&
    state_holds t ratio p.component.kind p.state
