-- `put_number` puts a number's digits, and a blank after them.
use Rattle.write_bytes.specs.Pieces.{put_then}
use Rattle.write_lines.proofs.line.put_number.Goals as goal

pub returns : goal.returns
returns c =
    put_then c.put_decimal-next.ensures c.put_byte.ensures
