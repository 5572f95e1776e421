-- What asking the parts of a trial in words for objections needs, by what the code reads. The trial is not settled yet:
-- each part is settled by its reading, and asked. Assumes nothing.
use Rattle.std.specs.Prelude.{ℕ, ◌≤◌, ◌≡◌, refl, List}
use Rattle.std.proofs.Common.{sym, ◌∙◌}
use Rattle.std.proofs.Math.Path.{ap, subst}
use Rattle.machine.specs.declared.signal.Signal.{Signal}
use Rattle.machine.specs.declared.part.Part.{Part}
use Rattle.machine.specs.Time.{last_tick}
use Rattle.machine.specs.Kind.{period}
use Rattle.machine.specs.Model.{part_at, reading0, trimmed, trimmed_part, trimmed_component}
use Rattle.machine.specs.Step.{settled}
use Rattle.machine.specs.Accept.{Class, waiting, delaying, detecting, driving, free, class_of}
use Rattle.machine.specs.Advance.{objects, objects_as}
use Rattle.words_store.specs.ModelIn.{model_in}
use Rattle.step_parts.specs.LentReading.{heard_in}
use Rattle.step_parts.specs.Settling.{settling}
use Rattle.step_parts.specs.StepShown.{Settleable}
use Rattle.ask_parts.specs.LentAsked.{PartAsked, part_here, period_here}
use Rattle.ask_parts.specs.Trials.{objects_settled}

-- whether a part objects reads nothing that trimming cuts away
objects_as_trimmed : (c : Class) (h : ℕ) (p : Part) → objects_as c h (trimmed_part p) ≡ objects_as c h p
unfolding objects_as trimmed_part trimmed_component
objects_as_trimmed waiting h p = refl
objects_as_trimmed delaying h p = refl
objects_as_trimmed detecting h p = refl
objects_as_trimmed driving h p = refl
objects_as_trimmed free h p = refl

objects_trimmed : (h : ℕ) (p : Part) → objects h (trimmed_part p) ≡ objects h p
unfolding objects trimmed_part trimmed_component
objects_trimmed h p = objects_as_trimmed (class_of p) h p

-- the part i of the trial, which reads x, and q, the part settled
module _
    {ts ss : List ℕ}
    {i : ℕ}
    {p : Part}
    (asked : PartAsked ts ss i p)
    (x : Signal)
    (q : Part)
    (settles : q ≡ settled x p) where
  -- no P is above 10^18
  pub trial_period : Settleable (trimmed (model_in ts ss)) → period q ≤ last_tick
  unfolding settled
  trial_period fit = subst (λ (r : Part). period r ≤ last_tick) (sym settles) (period_here asked fit.periods)

  -- and what the settled part answers is the definition's test of part i
  pub trial_objects :
      (h : ℕ) → x ≡ heard_in ss p.component.port0 →
      let ps = (trimmed (model_in ts ss)).parts in
      objects_settled h ps (part_at ps i) ≡ objects h q
  unfolding reading0 trimmed_part trimmed_component
  trial_objects h hears =
      ap (objects_settled h (trimmed (model_in ts ss)).parts) (part_here asked) ∙
      ap (λ (y : Signal). objects h (settled y (trimmed_part p))) (sym (asked.reads x hears)) ∙
      ap (objects h) (sym (settling.unread x p)) ∙
      objects_trimmed h (settled x p) ∙ ap (objects h) (sym settles)
