-- `unfilled_model` puts the first parts and the part order into a model, which is then the definition's.
use Prim.Native.Nat.{◌≤◌}
use native.Mathlib.Omega.{arith}
use mathlib.Core.Path.{ap, ◌∙◌}
use mathlib.Core.List.{List, map}
use lib.ListN.{length, take}
use Rattle.machine.specs.declared.part.Part.{Part}
use Rattle.machine.specs.Model.{trimmed, trimmed_part}
use Rattle.load_call.specs.EndRefusals.{unfilled_is}
use Rattle.load_call.specs.FirstPlaces.{first_stored}
use Rattle.load_call.proofs.ending.unfilled_model.Goals as goal

pub returns : goal.returns
unfolding trimmed
returns c =
    let read = c.args.read in
    let acceptable = c.requires in
    let few : read.count ≤ length read.parts = omega (arith, acceptable.few) in
    let firsts = c.first_parts-parts in
    let stored = ap (λ (l : List Part). map trimmed_part (take read.count l)) firsts.ensures in
    rw c.start.ensures (unfilled_is read few c.args.ending firsts.result acceptable (stored ∙
    first_stored read.count read.parts few _))
