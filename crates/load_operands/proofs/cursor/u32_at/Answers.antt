-- `u32_at` compares what is left with four, and the number that the four bytes spell is the definition's.
use Rattle.std.proofs.Common.{arith, refl}
use Rattle.machine.specs.Load.{byte_at, word_at}
use Rattle.load_operands.specs.Operands.{whole_read}
use Rattle.load_operands.proofs.cursor.u32_at.Goals as goal

pub returns : goal.returns
unfolding byte_at word_at
returns c = whole_read _ _ 4 _ _ _ _ (record { whole = omega arith; next = refl }) (omega arith)
