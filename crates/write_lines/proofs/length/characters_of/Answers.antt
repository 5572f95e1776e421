-- `characters_of` counts the digits of the absolute, and of a negative value its hyphen too.
use Rattle.std.proofs.Common.{ℕ, length, arith, ap, to_z-of_z}
use Rattle.machine.specs.Rehearse.{decimal}
use Rattle.write_laws.specs.Decimal.{negative_length, other_text}
use Rattle.write_lines.proofs.length.characters_of.Goals as goal

pub returns-then-v-lt0-clause-characters : goal.returns-then-v-lt0-clause-characters
returns-then-v-lt0-clause-characters c =
    let back = to_z-of_z c.ranges.v in
    let same = ap (λ (k : ℕ). length (decimal k)) (rw back at c.unsigned_abs.ensures.value) in
    omega (arith, c.digits_of-digits.ensures.digits, same, negative_length c.args.v (rw back at c.if-v-lt0.true))

pub returns-else-v-lt0-clause-characters : goal.returns-else-v-lt0-clause-characters
returns-else-v-lt0-clause-characters c =
    let back = to_z-of_z c.ranges.v in
    let same = ap (λ (k : ℕ). length (decimal k)) (rw back at c.unsigned_abs.ensures.value) in
    omega (
      arith,
      c.digits_of-digits.ensures.digits,
      same,
      ap length (other_text c.args.v (rw back at c.if-v-lt0.false)),
    )
