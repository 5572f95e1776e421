-- `put_begin` puts two bytes, one after the other.
use Rattle.write_bytes.specs.Pieces.{put_then}
use Rattle.save_call.proofs.writer.put_begin.Goals as goal

pub returns : goal.returns
returns c =
    put_then c.put_byte-next.ensures c.put_byte.ensures
