-- `surveyed_in` reads one part after the other.
use native.Mathlib.Omega.{arith}
use mathlib.Core.Path.{refl, ap, ◌∙◌}
use Rattle.machine.specs.declared.part.Component.{Component}
use Rattle.machine.specs.Time.{larger}
use Rattle.order_place.specs.Direct.{direct_of}
use Rattle.sound_test.specs.LentWhole.{surveying_start, surveying_more, surveying_end}
use Rattle.sound_test.proofs.survey.surveyed_in.Goals as goal

pub loop-i-init : goal.loop-i-init
loop-i-init c = surveying_start _ _ _ _ c.magnitude_of-magnitude.ensures refl refl

pub loop-i-preserved : goal.loop-i-preserved
loop-i-preserved c =
    let loop = c.loop-i in
    let component = c.component_at-c.ensures in
    surveying_more _ loop.i loop.magnitude _ loop.direct loop.order _ _ loop.invariant (omega arith)
    c.requires.few_parts
    (c.larger_of-magnitude.ensures ∙ ap (λ (p : Component). larger loop.magnitude p.preference) component)
    (c.direct_sources.ensures ∙ ap direct_of component) c.ordered_part.ensures

pub returns : goal.returns
returns c = surveying_end _ c.loop-i.i _ c.loop-i.invariant (omega arith)
