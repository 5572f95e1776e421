-- `put_signed` puts the 32 bits of a value, which has no more.
use Rattle.std.proofs.Common.{◌∙◌, to_z-of_z}
use Rattle.save_call.proofs.Operands.{value_bits, value_fits}
use Rattle.save_call.proofs.writer.put_signed.Goals as goal

pub overflow_cast-operand : goal.overflow_cast-operand
overflow_cast-operand c = rw (to_z-of_z c.ranges.v) (value_fits c.args.v c.requires.value)

pub returns : goal.returns
returns c =
    let back = to_z-of_z (value_fits c.args.v c.requires.value) in
    let bits = rw (to_z-of_z c.ranges.v, back) at c.cast_unsigned.ensures in
    rw (bits ∙ value_bits c.args.v c.requires.value) at c.put_operand.ensures
