-- `put_signal_field` puts ten blanks and a hyphen for an absent output, and the value of another in its field.
use native.Mathlib.Omega.{arith}
use mathlib.Core.Path.{refl}
use mir.Syntax.{w64}
use mir.Val.{SFits}
use mir.ValLaws.{to_z-of_z}
use Rattle.machine.specs.Rehearse.{signal_text}
use Rattle.sheet_call.proofs.FieldsPut.{field_put}
use Rattle.sheet_call.proofs.field.put_signal_field.Goals as goal

pub put_value_field-requires-clause-fits : goal.put_value_field-requires-clause-fits
unfolding signal_text
put_value_field-requires-clause-fits c =
    let fits : SFits w64 c.in-Value.v = record { sfits = omega arith } in
    rw (to_z-of_z w64 c.in-Value.v fits) (rw c.in-Value.is at c.requires.fits)

pub returns-in-Absent : goal.returns-in-Absent
unfolding signal_text
returns-in-Absent c =
    rw c.in-Absent.is (field_put (omega arith) refl c.put_blanks-next.ensures c.put_byte.ensures)

pub returns-in-Value : goal.returns-in-Value
unfolding signal_text
returns-in-Value c =
    let v = c.in-Value.v in
    let fits : SFits w64 v = record { sfits = omega arith } in
    rw (c.in-Value.is, ← to_z-of_z w64 v fits) c.put_value_field.ensures
