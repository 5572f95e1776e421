-- Steps that all parts accept, where each is made, lead through every pulse's point (k × P, 1) once they pass
-- (k × P, 0).
use Rattle.std.specs.Prelude.{ℕ, ◌*◌, ◌<◌, ◌≡◌, length}
use Rattle.std.proofs.Common.{arith, inl}
use mathlib.Core.List.{List, Memᴰ}
use Rattle.std.specs.declared.cmp.Ordering.TheVariants.{Less}
use Rattle.machine.specs.declared.part.Kind.TheVariants.{Pulse}
use Rattle.machine.specs.declared.model.Model.{Model}
use Rattle.machine.specs.Time.{point, tick, compared}
use Rattle.machine.specs.Kind.{period}
use Rattle.machine.specs.Model.{part_at}
use Rattle.machine.specs.Step.{steps_made}
use Rattle.advance_lists.specs.Points.{points_after}
use Rattle.advance_lists.specs.Points.{passed_point}
use Rattle.advance_lists.specs.StepsAlone.{AllAccepted, pulses_wait, steps_point}

-- of a pulse with period P they lead through (k × P, 1) once they pass (k × P, 0)
pub steps_passed : (m : Model) (hs : List ℕ) (i k : ℕ) → i < length m.parts →
    (part_at m.parts i).component.kind ≡ Pulse →
    AllAccepted m hs → tick m.point < k * period (part_at m.parts i) →
    compared (point (k * period (part_at m.parts i)) 0) (steps_made m hs).point ≡ Less →
    Memᴰ (point (k * period (part_at m.parts i)) 1) (points_after m.point hs)
steps_passed m hs i k p e a before past =
    passed_point (period (part_at m.parts i)) k m.point hs (pulses_wait m hs i p e a) (inl before) (omega arith)
    (rw (steps_point m hs) at past)
