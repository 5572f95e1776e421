-- `put_refusal_row` puts what every refusal begins with, blanks up to the last column, and a line feed.
use native.Mathlib.Omega.{arith}
use Rattle.machine.specs.Sheet.{refused_row}
use Rattle.write_laws.specs.Decimal.{word_digits}
use Rattle.write_bytes.specs.Pieces.{put_then}
use Rattle.sheet_call.proofs.FieldsPut.{filled_put}
use Rattle.sheet_call.proofs.row.put_refusal_row.Goals as goal

pub put_refusal-at-requires : goal.put_refusal-at-requires
put_refusal-at-requires c =
    omega (arith, word_digits c.args.number (omega (arith, c.ranges.number)))

pub returns : goal.returns
unfolding refused_row
returns c =
    put_then (filled_put (omega (arith, c.put_refusal-at.ensures.short)) c.put_refusal-at.ensures
    c.put_blanks-at.ensures) c.put_byte.ensures
