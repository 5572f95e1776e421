-- `put_refused_at_line` puts what every refusal begins with, the text ` at `, the position's digits and a line feed,
-- one after the other.
use native.Mathlib.Omega.{arith}
use mathlib.Core.List.{append_assoc}
use Rattle.machine.specs.Rehearse.{refused_at_line}
use Rattle.write_bytes.specs.Pieces.{put_then}
use Rattle.write_lines.proofs.LineBounds.{refused_at_size}
use Rattle.write_lines.proofs.line.put_refused_at_line.Goals as goal

pub put_refusal-at-requires : goal.put_refusal-at-requires
put_refusal-at-requires c =
    let room = simp refused_at_size at c.requires in
    omega arith

pub put_text-at-requires : goal.put_text-at-requires
put_text-at-requires c =
    let room = simp refused_at_size at c.requires in
    omega arith

pub put_decimal-at-requires : goal.put_decimal-at-requires
put_decimal-at-requires c =
    let room = simp refused_at_size at c.requires in
    omega arith

pub put_byte-requires : goal.put_byte-requires
put_byte-requires c =
    let room = simp refused_at_size at c.requires in
    omega arith

pub returns : goal.returns
unfolding refused_at_line
returns c =
    let begun = put_then c.put_refusal-at.ensures c.put_text-at.ensures in
    let whole = put_then (put_then begun c.put_decimal-at.ensures) c.put_byte.ensures in
    simp append_assoc at whole
