-- `put_operands` puts three operands, one after the other; the two signed ones are values.
use Rattle.std.proofs.Common.{append_assoc, to_z-of_z, w64, SFits, arith}
use Rattle.write_bytes.specs.Pieces.{put_then}
use Rattle.save_call.proofs.writer.put_operands.Goals as goal

pub returns : goal.returns
returns c =
    let fits_a : SFits w64 c.args.a = record { sfits = omega arith } in
    let fits_b : SFits w64 c.args.b = record { sfits = omega arith } in
    let put = put_then (put_then c.put_signed-next.ensures c.put_signed-next-2.ensures) c.put_operand.ensures in
    rw (append_assoc, to_z-of_z fits_a, to_z-of_z fits_b) at put
