-- `put_number_field` puts as many blanks as the digits leave of the width, the digits, and a blank after them.
use mathlib.Core.Path.{ap}
use Prim.Native.Nat.{ℕ, ◌-◌}
use Rattle.write_bytes.specs.Pieces.{put_then}
use Rattle.sheet_call.proofs.FieldsPut.{field_put}
use Rattle.sheet_call.proofs.field.put_number_field.Goals as goal

pub returns : goal.returns
returns c =
    let left = ap (λ (k : ℕ). c.args.width - k) c.digits_of-digits.ensures.digits in
    put_then (field_put c.requires.fits left c.put_blanks-next.ensures c.put_decimal-next.ensures)
    c.put_byte.ensures
