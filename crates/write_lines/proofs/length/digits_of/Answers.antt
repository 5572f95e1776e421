-- `digits_of` takes tenth parts up to one of a single digit. The invariant: the digits counted so far and those of what
-- is left are those of the number and one more, since the first was counted before the loop; the measure is what is
-- left.
use native.Mathlib.Omega.{arith}
use mathlib.Core.Path.{ap}
use lib.ListN.{length}
use Rattle.write_laws.specs.Decimal.{one_digit, some_digits, tenth_digits, word_digits}
use Rattle.write_lines.proofs.length.digits_of.Goals as goal

pub loop-rest-init : goal.loop-rest-init
loop-rest-init c = omega arith

pub overflow_add-digits : goal.overflow_add-digits
overflow_add-digits c =
    omega (arith, some_digits c.loop-rest.rest, word_digits c.args.n (omega (arith, c.ranges.n)))

pub loop-rest-smaller : goal.loop-rest-smaller
loop-rest-smaller c = omega arith

pub loop-rest-preserved : goal.loop-rest-preserved
loop-rest-preserved c = omega (arith, tenth_digits c.loop-rest.rest c.loop-rest-test.true)

pub returns-clause-digits : goal.returns-clause-digits
returns-clause-digits c = omega (arith, ap length (one_digit c.loop-rest.rest c.loop-rest-test.false))

pub returns-clause-few_digits : goal.returns-clause-few_digits
returns-clause-few_digits c =
    omega (
      arith,
      ap length (one_digit c.loop-rest.rest c.loop-rest-test.false),
      word_digits c.args.n (omega (arith, c.ranges.n)),
    )
