-- The measure: the number, of which a hundredth part is less.
use Rattle.write_lines.proofs.text.+put_decimal.Given as goal

abbrev pub decreases-put_decimal : goal.decreases-put_decimal
decreases-put_decimal l = l.n
