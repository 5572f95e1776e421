-- `byte` compares the cursor with the length, and reads the definition's byte.
use native.Mathlib.Omega.{arith}
use mathlib.Core.Path.{refl}
use Rattle.machine.specs.Load.{byte_at}
use Rattle.load_operands.specs.Operands.{whole_read}
use Rattle.load_operands.proofs.cursor.byte.Goals as goal

pub returns : goal.returns
unfolding byte_at
returns c = whole_read _ _ 1 _ _ _ _ (record { whole = omega arith; next = refl }) refl
