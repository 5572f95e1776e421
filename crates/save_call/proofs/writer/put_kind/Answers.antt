-- `put_kind` puts three bytes, one after the other.
use Rattle.write_bytes.specs.Pieces.{put_then}
use Rattle.save_call.proofs.writer.put_kind.Goals as goal

pub returns : goal.returns
returns c =
    rw c.from.ensures
    at (put_then (put_then c.put_byte-next.ensures c.put_byte-next-2.ensures) c.put_byte.ensures)
