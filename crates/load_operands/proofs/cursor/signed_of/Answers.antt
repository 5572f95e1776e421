-- `signed_of` is the definition, which is what a signed reading of the bits computes to.
use Rattle.std.proofs.Common.{◌∙◌}
use mir.Syntax.{w32, w64}
use mir.ValLaws.{to_z-of_z}
use Rattle.machine.specs.Load.{signed}
use Rattle.load_operands.proofs.cursor.signed_of.Goals as goal

pub returns : goal.returns
unfolding signed
returns c =
    let bits = c.cast_signed in
    to_z-of_z w64 c.from.result (record { sfits = c.from.type_inv }) ∙ c.from.ensures ∙
    to_z-of_z w32 bits.result (record { sfits = bits.type_inv }) ∙ bits.ensures
