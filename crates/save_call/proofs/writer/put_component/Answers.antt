-- `put_component` puts the command's first bytes, its operands and the spans in use, one after the other.
use mathlib.Core.Path.{refl}
use lib.ListN.{length-take}
use mir.Syntax.{w64}
use mir.Val.{SFits}
use mir.ValLaws.{to_z-of_z}
use native.Mathlib.Omega.{arith}
use Rattle.machine.specs.Model.{trimmed_component}
use Rattle.machine.specs.TableBytes.{part_bytes}
use Rattle.sound_laws.specs.Facts.{operand_values}
use Rattle.write_bytes.specs.Pieces.{put_then, put_as}
use Rattle.save_call.specs.LentTable.{part_text}
use borrow.Author.Rules.{rules}
use Rattle.save_call.proofs.writer.put_component.Goals as goal

pub put_operands-next-requires : goal.put_operands-next-requires
put_operands-next-requires c =
    let part = c.args.c in
    let values = operand_values part.kind part.a part.b part.p c.requires.fits in
    let fits_a : SFits w64 part.a = record { sfits = omega arith } in
    let fits_b : SFits w64 part.b = record { sfits = omega arith } in
    record {
      room = search rules;
      values = rw (to_z-of_z w64 part.a fits_a, to_z-of_z w64 part.b fits_b) values;
    }

pub returns : goal.returns
unfolding part_text part_bytes trimmed_component
returns c =
    let part = c.args.c in
    let fits_a : SFits w64 part.a = record { sfits = omega arith } in
    let fits_b : SFits w64 part.b = record { sfits = omega arith } in
    let put = put_then (put_then c.put_kind-next.ensures c.put_operands-next.ensures)
    c.put_spans.ensures in
    let whole = rw (to_z-of_z w64 part.a fits_a, to_z-of_z w64 part.b fits_b) at put in
    put_as whole refl (omega (arith, whole.short, length-take part.span_count part.spans))
