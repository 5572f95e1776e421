-- `output_length` is that of a blank and a hyphen for an absent output, and counts the characters of the value of
-- another.
use Rattle.std.proofs.Common.{arith, w64, SFits, to_z-of_z}
use Rattle.write_lines.proofs.LineBounds.{absent_size, value_size}
use Rattle.write_lines.proofs.length.output_length.Goals as goal

pub returns-in-Absent : goal.returns-in-Absent
returns-in-Absent c = omega (arith, absent_size c.in-Absent.is)

pub returns-in-Value : goal.returns-in-Value
returns-in-Value c =
    let fits : SFits w64 c.in-Value.v = record { sfits = omega arith } in
    omega (arith, rw (to_z-of_z fits) at c.characters_of.ensures.characters, value_size c.in-Value.is)
