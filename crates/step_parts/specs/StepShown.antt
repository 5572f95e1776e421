-- A step made up to its settling: the parts moved, the time taken on and all outputs shown. A trial is asked for
-- objections there, and settled only where it is taken up. Assumes nothing.
use Rattle.std.specs.Prelude.{ℕ, ◌≤◌, ◌≡◌, refl, true}
use Rattle.std.proofs.Common.{ap, ◌∙◌}
use Rattle.machine.specs.declared.part.Part.{Part}
use Rattle.machine.specs.declared.model.Model.{Model}
use Rattle.machine.specs.Lists.{All}
use Rattle.machine.specs.Time.{last_tick, led_to, tick}
use Rattle.machine.specs.Kind.{period}
use Rattle.machine.specs.Model.{with_parts, trimmed}
use Rattle.machine.specs.Step.{all_moved, filled, all_settled, step_made}
use Rattle.machine.specs.Sound.{sound}
use Rattle.laws.specs.Alls.{all_same_map}
use Rattle.sound_laws.specs.CoreKept.{filled_kept}
use Rattle.step_parts.specs.Trimmed.{Changed}
use Rattle.step_parts.specs.Fillable.{Wired, Fillable, kept_wired}
use Rattle.step_parts.specs.StepMade.{moved_fillable}

-- the model before it is settled
unfoldable pub step_shown : Model → ℕ → Model
step_shown m h =
    with_parts m (led_to m.point h)
    (filled m.parts (led_to m.point h) m.order (all_moved (tick m.point) h m.parts))

-- what settling it, and asking it for objections, needs
pub record Settleable (m : Model) : Type 0 where
  pub wired : Wired m
  pub periods : All (λ (p : Part). period p ≤ last_tick) m.parts

pub shown_settleable : (m : Model) (h : ℕ) → sound m ≡ true → Settleable (step_shown m h)
unfolding step_shown
shown_settleable m h is_sound =
    let now = led_to m.point h in
    let moved = with_parts m now (all_moved (tick m.point) h m.parts) in
    let fit : Fillable m moved = moved_fillable m now h is_sound in
    let parts = filled m.parts now m.order moved.parts in
    record {
      wired = kept_wired moved now parts
          (filled_kept (λ (p : Part). p.component) (λ p out. refl) m.parts now m.order moved.parts)
          fit.wired;
      periods =
          all_same_map (λ (p : Part). period p) (λ (n : ℕ). n ≤ last_tick) parts moved.parts
          (filled_kept (λ (p : Part). period p) (λ p out. refl) m.parts now m.order moved.parts)
          fit.periods;
    }

-- settled, it is the step made
pub settled_made : (m b r : Model) (h : ℕ) → trimmed b ≡ step_shown m h → Changed b (all_settled (trimmed b).parts) r →
    trimmed r ≡ step_made m h
unfolding step_shown step_made trimmed
settled_made m b r h shows settles =
    settles.is ∙ ap (λ (x : Model). with_parts x x.point (all_settled x.parts)) shows
