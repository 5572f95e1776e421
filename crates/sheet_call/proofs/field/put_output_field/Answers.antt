-- `put_output_field` puts the output's field, and the character after it.
use Rattle.write_bytes.specs.Pieces.{put_then}
use Rattle.sheet_call.proofs.field.put_output_field.Goals as goal

pub returns : goal.returns
returns c =
    put_then c.put_signal_field-next.ensures c.put_byte.ensures
