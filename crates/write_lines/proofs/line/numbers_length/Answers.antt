-- `numbers_length` adds up the digits of the five numbers and four blanks.
use Rattle.std.proofs.Common.{arith}
use Rattle.write_lines.proofs.LineBounds.{numbers_size}
use Rattle.write_lines.proofs.line.numbers_length.Goals as goal

pub returns : goal.returns
returns c = simp numbers_size (omega arith)
