-- `put_span` puts the command's byte and the span's four.
use Rattle.machine.specs.TableBytes.{operand_bytes, spans_bytes}
use Rattle.write_bytes.specs.Pieces.{put_then}
use Rattle.save_call.proofs.writer.put_span.Goals as goal

pub returns : goal.returns
unfolding spans_bytes operand_bytes
returns c =
    put_then c.put_byte-next.ensures c.put_operand.ensures
