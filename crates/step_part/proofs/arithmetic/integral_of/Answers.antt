-- `integral_of` is `integral`: d is at most 10^9, so the product fits, and so does the sum with a held value.
use Rattle.std.specs.Prelude.{pos, ◌+ℤ◌, ◌*ℤ◌}
use Rattle.std.proofs.Common.{arith}
use Rattle.std.proofs.lemmas.Int.{to_z-of_z, to_z_pos}
use Rattle.std.specs.Int.{w64}
use Rattle.machine.specs.Signal.{integral, integrated}
use Rattle.laws.specs.Signed.{product_fits, product_most, sum_fits, value_most}
use Rattle.step_part.proofs.Values.{integrated_most}
use Rattle.step_part.proofs.arithmetic.integral_of.Goals as goal

pub returns : goal.returns
unfolding integral
returns c =
    let held = c.args.held in
    let moves = integrated c.args.x *ℤ pos c.args.d.0 in
    let few = integrated_most c.args.x c.requires.x_value in
    let product = product_fits (integrated c.args.x) (pos c.args.d.0) few c.requires.d_bound in
    let most = product_most (integrated c.args.x) (pos c.args.d.0) few c.requires.d_bound in
    let sum = sum_fits held moves (value_most held c.requires.held_value) most in
    rw (
      to_z-of_z w64 c.clamped.result (record { sfits = c.clamped.type_inv }),
      c.clamped.ensures,
      to_z-of_z w64 c.integrated_of.result (record { sfits = c.integrated_of.type_inv }),
      c.integrated_of.ensures,
      to_z_pos w64 c.args.d.0 (omega arith),
      to_z-of_z w64 moves product,
      to_z-of_z w64 held c.ranges.held,
      to_z-of_z w64 (held +ℤ moves) sum,
    )
