-- What the arithmetic of values needs: that sums and products fit a word, and that a number is read back from its bits.
use Rattle.std.specs.Prelude.{◌≤◌, ◌≡◌, true, nat_abs}
use Rattle.std.proofs.Common.{arith}
use Rattle.std.proofs.lemmas.Int.{to_z-of_z, to_z_pos}
use Rattle.machine.specs.declared.signal.Signal.{Signal}
use Rattle.machine.specs.declared.signal.Signal.TheVariants.{Absent, Value}
use Rattle.machine.specs.Signal.{integrated, is_signal, largest_value}
use Rattle.laws.specs.Signed.{product_fits, product_most, signal_most, sum_fits, value_most}

-- what a signal counts as is a value
pub integrated_most : (x : Signal) → is_signal x ≡ true → nat_abs (integrated x) ≤ largest_value
unfolding is_signal
integrated_most Absent h = omega arith
integrated_most (Value v) h = value_most v h

pub ruleset values =
    (product_fits, product_most, sum_fits, signal_most, value_most, integrated_most, to_z-of_z, to_z_pos)
