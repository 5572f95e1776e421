-- `first_parts` puts the first part of each component into its place. The loop's invariant: the first i places hold the
-- first parts of their components, and the places after are as they were.
use Prim.Native.Nat.{◌<◌}
use native.Mathlib.Omega.{arith}
use mathlib.Core.Path.{◌≡◌, refl, ap₂, ◌∙◌}
use mathlib.Core.List.{List}
use lib.ListN.{length, set}
use Rattle.machine.specs.declared.part.Part.{Part}
use Rattle.machine.specs.Model.{most_parts, blank_component}
use Rattle.laws.specs.Partway.{mapped_more}
use Rattle.load_call.specs.FirstPlaces.{first_by, first_places}
use Rattle.load_call.proofs.first.first_parts.Goals as goal

pub loop-i-init : goal.loop-i-init
loop-i-init c = (omega arith, refl)

pub loop-i-preserved : goal.loop-i-preserved
loop-i-preserved c =
    let loop = c.loop-i in
    let parts = c.args.parts in
    let full : length parts ≡ most_parts = omega arith in
    let here : loop.i < length parts = omega arith in (
      omega arith,
      ap₂ (λ (l : List Part) (p : Part). set l loop.i p) loop.invariant.1 c.first_part.ensures ∙
          mapped_more (first_by c.args.magnitude) parts _ loop.i blank_component here full,
    )

pub returns : goal.returns
unfolding first_places
returns c =
    let loop = c.loop-i in
    let count = c.args.count in
    let done : loop.i ≡ count = omega arith in
    rw done at loop.invariant.1 ∙ rw c.blank_part-all.ensures
