-- Steps made alone: the point where `steps_made` leaves the model; and that steps which all parts accept, where each
-- is made, lead through every pulse's points (k × P, 0); `proofs/StepsAlone.antt` has (k × P, 1). By induction on the
-- list of steps. Assumes nothing.
use Rattle.std.specs.Prelude.{ℕ, ◌+◌, ◌*◌, ◌≤◌, ◌<◌, ◌≡◌, refl, length}
use Rattle.std.proofs.Common.{arith, ap, ◌∙◌}
use mathlib.Core.List.{List, [], ◌∷◌, Memᴰ}
use Rattle.machine.specs.declared.time.Point.{Point}
use Rattle.machine.specs.declared.signal.Signal.{Signal}
use Rattle.machine.specs.declared.part.Kind.TheVariants.{Pulse}
use Rattle.machine.specs.declared.part.Part.{Part}
use Rattle.machine.specs.declared.model.Model.{Model}
use Rattle.machine.specs.Time.{point, tick, led_to}
use Rattle.machine.specs.Kind.{period}
use Rattle.machine.specs.Model.{part_at, reading0}
use Rattle.machine.specs.Step.{step_made, steps_made}
use Rattle.machine.specs.Accept.{due_as, due, AcceptsAs, Accepts}
use Rattle.machine.specs.WholeList.{AllAccept, sum}
use Rattle.advance_laws.specs.Frame.{made_length, made_component, made_ratio}
use Rattle.advance_lists.specs.Points.{point_after, points_after, after_tick, WaitsAt, Waits, reached_point}

-- all parts accept each of the steps, where it is made
abbrev pub AllAccepted : Model → List ℕ → Type 0
AllAccepted m [] = Unit {0}
AllAccepted m (h ∷ hs) = AllAccept m h × AllAccepted (step_made m h) hs

-- the point where a step made leaves the model
made_point : (m : Model) (h : ℕ) → (step_made m h).point ≡ led_to m.point h
unfolding step_made
made_point m h = refl

-- the point where steps made leave it
pub steps_point : (m : Model) (hs : List ℕ) → (steps_made m hs).point ≡ point_after m.point hs
unfolding steps_made step_made point_after
steps_point m [] = refl
steps_point m (h ∷ hs) = steps_point (step_made m h) hs

-- its tick is the tick at the start, plus the sum of the steps
pub steps_tick : (m : Model) (hs : List ℕ) → tick (steps_made m hs).point ≡ tick m.point + sum hs
steps_tick m hs = ap tick (steps_point m hs) ∙ after_tick m.point hs

-- what a pulse accepts waits for the multiples of its period
pulse_waits : (p : Part) (now : Point) (x : Signal) (h : ℕ) → p.component.kind ≡ Pulse → Accepts p now x h →
    WaitsAt (period p) now h
unfolding Accepts due due_as AcceptsAs
pulse_waits p now x h e a = rw e at a

-- steps that all parts accept wait for every pulse
pub pulses_wait : (m : Model) (hs : List ℕ) (i : ℕ) → i < length m.parts →
    (part_at m.parts i).component.kind ≡ Pulse →
    AllAccepted m hs → Waits (period (part_at m.parts i)) m.point hs
pulses_wait m [] i p e a = tt
pulses_wait m (h ∷ hs) i p e a =
    let q : i < length (step_made m h).parts = omega (arith, made_length m h) in
    let component = made_component m h i in
    let ratio = made_ratio m h i in
    let rest = pulses_wait (step_made m h) hs i q (cc) a.1 in (
      pulse_waits (part_at m.parts i) m.point (reading0 m.parts (part_at m.parts i)) h e (a.0 i p),
      rw (component, ratio, made_point m h) at rest,
    )

-- so of a pulse with period P they lead through (k × P, 0) once they reach that tick
pub steps_reached : (m : Model) (hs : List ℕ) (i k : ℕ) → i < length m.parts →
    (part_at m.parts i).component.kind ≡ Pulse →
    AllAccepted m hs → tick m.point < k * period (part_at m.parts i) →
    k * period (part_at m.parts i) ≤ tick (steps_made m hs).point →
    Memᴰ (point (k * period (part_at m.parts i)) 0) (points_after m.point hs)
steps_reached m hs i k p e a before past =
    reached_point (period (part_at m.parts i)) k m.point hs (pulses_wait m hs i p e a) before
    (rw (steps_point m hs) at past)
