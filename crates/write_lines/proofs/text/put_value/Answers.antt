-- `put_value` puts a hyphen before the absolute of a negative value, and the absolute alone of another.
use Rattle.std.proofs.Common.{ℕ, length, arith, ap, refl, to_z-of_z}
use Rattle.machine.specs.Rehearse.{decimal}
use Rattle.write_laws.specs.Decimal.{negative_text, other_text, negative_length}
use Rattle.write_bytes.specs.Pieces.{put_then, put_as}
use Rattle.write_lines.proofs.text.put_value.Goals as goal
use Rattle.write_lines.proofs.text.put_value.Goals.{then-v-lt0, else-v-lt0}

pub put_byte-next-requires : goal.put_byte-next-requires
put_byte-next-requires c =
    let back = to_z-of_z c.ranges.v in
    omega (arith, negative_length c.args.v (rw back at c.if-v-lt0.true))

pub put_decimal-requires : goal.put_decimal-requires
put_decimal-requires c =
    let back = to_z-of_z c.ranges.v in
    let same = ap (λ (k : ℕ). length (decimal k)) (rw back at c.unsigned_abs.ensures.value) in
    elim c.if-v-lt0.branch [
      | then-v-lt0 w ↦ omega (arith, negative_length c.args.v (rw back at w.if-v-lt0.true), same)
      | else-v-lt0 w ↦ omega (arith, ap length (other_text c.args.v (rw back at w.if-v-lt0.false)), same)
    ]

pub returns : goal.returns
returns c =
    let back = to_z-of_z c.ranges.v in
    let put = rw (rw back at c.unsigned_abs.ensures.value) at c.put_decimal.ensures in
    elim c.if-v-lt0.branch [
      | then-v-lt0 w ↦
          rw (negative_text c.args.v (rw back at w.if-v-lt0.true))
          (put_then w.put_byte-next.ensures (rw (w.next-is, w.line-is) at put))
      | else-v-lt0 w ↦
          rw (other_text c.args.v (rw back at w.if-v-lt0.false))
          (put_as (rw (w.next-is, w.line-is) at put) refl (omega arith))
    ]
