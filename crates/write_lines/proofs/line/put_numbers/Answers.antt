-- `put_numbers` puts the five numbers one after the other, the first four with their blanks.
use Rattle.std.proofs.Common.{arith, append_assoc, length-append}
use Rattle.write_bytes.specs.Pieces.{put_then}
use Rattle.write_lines.specs.LineNumbers.{numbers_text}
use Rattle.write_lines.proofs.LineBounds.{numbers_size}
use Rattle.write_lines.proofs.line.put_numbers.Goals as goal

pub put_number-at-requires : goal.put_number-at-requires
put_number-at-requires c =
    let room = simp numbers_size at c.requires in
    omega arith

pub put_number-at-requires-2 : goal.put_number-at-requires-2
put_number-at-requires-2 c =
    let room = simp numbers_size at c.requires in
    let end = simp length-append at c.put_number-at.ensures.position in
    omega arith

pub put_number-at-requires-3 : goal.put_number-at-requires-3
put_number-at-requires-3 c =
    let room = simp numbers_size at c.requires in
    let end = simp length-append at c.put_number-at.ensures.position in
    let end₂ = simp length-append at c.put_number-at-2.ensures.position in
    omega arith

pub put_number-at-requires-4 : goal.put_number-at-requires-4
put_number-at-requires-4 c =
    let room = simp numbers_size at c.requires in
    let end = simp length-append at c.put_number-at.ensures.position in
    let end₂ = simp length-append at c.put_number-at-2.ensures.position in
    let end₃ = simp length-append at c.put_number-at-3.ensures.position in
    omega arith

pub put_decimal-requires : goal.put_decimal-requires
put_decimal-requires c =
    let room = simp numbers_size at c.requires in
    let end = simp length-append at c.put_number-at.ensures.position in
    let end₂ = simp length-append at c.put_number-at-2.ensures.position in
    let end₃ = simp length-append at c.put_number-at-3.ensures.position in
    let end₄ = simp length-append at c.put_number-at-4.ensures.position in
    omega arith

pub returns : goal.returns
unfolding numbers_text
returns c =
    let points = put_then c.put_number-at.ensures c.put_number-at-2.ensures in
    let counts = put_then (put_then points c.put_number-at-3.ensures) c.put_number-at-4.ensures in
    simp append_assoc at (put_then counts c.put_decimal.ensures)
