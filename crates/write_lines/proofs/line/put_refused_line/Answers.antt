-- `put_refused_line` puts what every refusal begins with, and a line feed after it.
use native.Mathlib.Omega.{arith}
use mathlib.Core.List.{append_assoc}
use Rattle.machine.specs.Rehearse.{refused_line}
use Rattle.write_bytes.specs.Pieces.{put_then}
use Rattle.write_lines.proofs.LineBounds.{refused_size}
use Rattle.write_lines.proofs.line.put_refused_line.Goals as goal

pub put_refusal-at-requires : goal.put_refusal-at-requires
put_refusal-at-requires c =
    let room = simp refused_size at c.requires in
    omega arith

pub put_byte-requires : goal.put_byte-requires
put_byte-requires c =
    let room = simp refused_size at c.requires in
    omega arith

pub returns : goal.returns
unfolding refused_line
returns c =
    simp append_assoc at (put_then c.put_refusal-at.ensures c.put_byte.ensures)
