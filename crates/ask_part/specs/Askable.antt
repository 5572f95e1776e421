-- What a part has to meet to be asked for its longest step, so that a caller shows it once. Assumes nothing.
use Rattle.std.specs.Prelude.{ℕ, ◌≤◌, ◌<◌, ◌≡◌}
use Rattle.machine.specs.declared.part.Part.{Part}
use Rattle.machine.specs.Time.{last_tick}
use Rattle.machine.specs.Kind as Kind
use Rattle.machine.specs.Model.{most_spans}
use Rattle.machine.specs.Accept.{waiting, class_of}
use Rattle.step_part.specs.PartRanges.{StepFits}

-- the part has at most 8 spans and a positive ratio, P is at most 10^18, and positive where the part waits for its
-- multiples, and a step of h from tick t fits the part
pub record AskFits (t h : ℕ) (p : Part) : Type 0 where
  pub places : p.component.span_count ≤ most_spans
  pub ratio : 0 < p.ratio
  pub period : Kind.period p ≤ last_tick
  pub waits : class_of p ≡ waiting → 0 < Kind.period p
  pub step : StepFits t h p
