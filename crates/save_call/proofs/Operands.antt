-- A number of four bytes as the library puts it, and a value as a signed one. Assumes nothing.
use Rattle.std.proofs.Common.{ℕ, ◌≡◌, ◌/◌, true, refl, arith, w32, ℤ, pos, negsuc, of_z, FitsSigned, leb-true}
use Rattle.std.specs.Int.{to_le_bytes}
use Rattle.machine.specs.Signal.{is_value, largest_value}
use Rattle.machine.specs.TableBytes.{operand_bytes, signed_operand}

-- four bytes, the lowest first
pub operand_le : (v : ℕ) → to_le_bytes w32 v ≡ operand_bytes v
unfolding operand_bytes
operand_le v =
    let second : v / 256 / 256 ≡ v / 65536 = omega arith in
    let third : v / 256 / 256 / 256 ≡ v / 16777216 = omega arith in
    rw (third, second) refl

-- a value has 32 bits, and those of its signed operand
pub value_fits : (z : ℤ) → is_value z ≡ true → FitsSigned w32 z
unfolding is_value
value_fits (pos n) h = let few = leb-true n largest_value h in record { sfits = omega arith }
value_fits (negsuc n) h = let few = leb-true _ largest_value h in record { sfits = omega arith }

pub value_bits : (z : ℤ) → is_value z ≡ true → of_z w32 z ≡ signed_operand z
unfolding is_value signed_operand
value_bits (pos n) h = refl
value_bits (negsuc n) h = omega arith
