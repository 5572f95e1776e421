-- `put_output` puts a blank, then a hyphen for an absent output, or the value of another.
use native.Mathlib.Omega.{arith}
use mathlib.Core.Path.{refl}
use mir.Syntax.{w64}
use mir.Val.{SFits}
use mir.ValLaws.{to_z-of_z}
use Rattle.machine.specs.Rehearse.{signal_text}
use Rattle.write_bytes.specs.Pieces.{put_then, put_as}
use Rattle.write_lines.proofs.LineBounds.{absent_size, value_size}
use Rattle.write_lines.proofs.text.put_output.Goals as goal

pub put_byte-requires : goal.put_byte-requires
put_byte-requires c = omega (arith, absent_size c.in-Absent.is)

pub put_value-requires : goal.put_value-requires
put_value-requires c =
    let fits : SFits w64 c.in-Value.v = record { sfits = omega arith } in
    rw (to_z-of_z w64 c.in-Value.v fits) (omega (arith, value_size c.in-Value.is))

pub returns-in-Absent : goal.returns-in-Absent
unfolding signal_text
returns-in-Absent c =
    rw c.in-Absent.is
    (put_as (put_then c.put_byte-next.ensures c.put_byte.ensures) refl (omega arith))

pub returns-in-Value : goal.returns-in-Value
unfolding signal_text
returns-in-Value c =
    let v = c.in-Value.v in
    let fits : SFits w64 v = record { sfits = omega arith } in
    rw (c.in-Value.is, ← to_z-of_z w64 v fits) (put_then c.put_byte-next.ensures c.put_value.ensures)
