-- `put_step_row` puts the eight fields one after the other, each with what is after it.
use Prim.Native.Nat.{ℕ}
use mathlib.Core.Path.{◌≡◌}
use mathlib.Core.Bool.{true}
use mathlib.Core.List.{append_assoc}
use Rattle.machine.specs.declared.signal.Signal.{Signal}
use Rattle.machine.specs.Sheet.{ShownStep, shown_fits, shown_line, row, field_texts}
use Rattle.write_bytes.specs.Pieces.{put_then}
use Rattle.sheet_call.proofs.RowFits.{FieldsFit, fields_fit}
use Rattle.sheet_call.proofs.row.put_step_row.Goals as goal

-- what fits, of whatever is shown
all_fit : {t n step rounds revisions : ℕ} {x y z : Signal} →
    shown_fits (ShownStep t n step rounds revisions x y z) ≡ true →
    FieldsFit t n step rounds revisions x y z
all_fit fit = fields_fit _ _ _ _ _ _ _ _ fit

pub put_number_field-at-requires-clause-fits : goal.put_number_field-at-requires-clause-fits
put_number_field-at-requires-clause-fits c = (all_fit c.requires.fits).tick_fits

pub put_number_field-at-requires-2-clause-fits : goal.put_number_field-at-requires-2-clause-fits
put_number_field-at-requires-2-clause-fits c = (all_fit c.requires.fits).microstep_fits

pub put_number_field-at-requires-3-clause-fits : goal.put_number_field-at-requires-3-clause-fits
put_number_field-at-requires-3-clause-fits c = (all_fit c.requires.fits).step_fits

pub put_number_field-at-requires-4-clause-fits : goal.put_number_field-at-requires-4-clause-fits
put_number_field-at-requires-4-clause-fits c = (all_fit c.requires.fits).rounds_fit

pub put_number_field-at-requires-5-clause-fits : goal.put_number_field-at-requires-5-clause-fits
put_number_field-at-requires-5-clause-fits c = (all_fit c.requires.fits).revisions_fit

pub put_output_field-at-requires-clause-fits : goal.put_output_field-at-requires-clause-fits
put_output_field-at-requires-clause-fits c = (all_fit c.requires.fits).first_output

pub put_output_field-at-requires-2-clause-fits : goal.put_output_field-at-requires-2-clause-fits
put_output_field-at-requires-2-clause-fits c = (all_fit c.requires.fits).second_output

pub put_output_field-requires-clause-fits : goal.put_output_field-requires-clause-fits
put_output_field-requires-clause-fits c = (all_fit c.requires.fits).third_output

pub returns : goal.returns
unfolding shown_line row field_texts
returns c =
    let time = put_then c.put_number_field-at.ensures c.put_number_field-at-2.ensures in
    let counts = put_then (put_then (put_then time c.put_number_field-at-3.ensures)
    c.put_number_field-at-4.ensures) c.put_number_field-at-5.ensures in
    let outputs = put_then (put_then counts c.put_output_field-at.ensures) c.put_output_field-at-2.ensures in
    simp append_assoc at (put_then outputs c.put_output_field.ensures)
