-- `put_operand` puts the number's four bytes, which are those of the operand.
use Rattle.std.proofs.Common.{arith, ◌∙◌}
use Rattle.machine.specs.TableBytes.{operand_bytes}
use Rattle.write_bytes.specs.Pieces.{put_as}
use Rattle.save_call.proofs.Operands.{operand_le}
use Rattle.save_call.proofs.writer.put_operand.Goals as goal

pub returns : goal.returns
unfolding operand_bytes
returns c = put_as c.put_text.ensures (c.to_le_bytes.ensures ∙ operand_le c.args.v) (omega arith)
