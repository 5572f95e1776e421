-- `put_value_field` puts as many blanks as the value's characters leave of the width, and the value.
use native.Mathlib.Omega.{arith}
use mathlib.Core.Path.{ap}
use Prim.Native.Nat.{ℕ, ◌-◌}
use mir.Syntax.{w64}
use mir.ValLaws.{to_z-of_z}
use Rattle.machine.specs.Sheet.{output_width}
use Rattle.sheet_call.proofs.FieldsPut.{field_put}
use Rattle.sheet_call.proofs.field.put_value_field.Goals as goal

pub overflow_sub-characters : goal.overflow_sub-characters
overflow_sub-characters c =
    omega (arith, rw (to_z-of_z w64 c.args.v c.ranges.v) at c.characters_of-characters.ensures.characters)

pub put_value-requires : goal.put_value-requires
put_value-requires c =
    let back = to_z-of_z w64 c.args.v c.ranges.v in
    rw back (omega (arith, rw back at c.characters_of-characters.ensures.characters))

pub returns : goal.returns
returns c =
    let back = to_z-of_z w64 c.args.v c.ranges.v in
    let left = ap (λ (k : ℕ). output_width - k) (rw back at c.characters_of-characters.ensures.characters) in
    field_put c.requires.fits left c.put_blanks-next.ensures (rw back at c.put_value.ensures)
