-- The library's casts between signed and unsigned numbers of 64 bits are two's complement, as `specs/Words.antt` has
-- it. Assumes nothing.
use Rattle.std.specs.Prelude.{ℕ, suc, ◌-◌, ◌≡◌, refl, cond, ltb, ℤ, pos, negsuc}
use Rattle.std.proofs.Common.{arith, ap}
use Rattle.std.specs.Int.{w64, cast_unsigned, cast_signed}
use Rattle.words_codec.specs.Words.{encode_signed, decode_signed}

pub encode_cast : (z : ℤ) → cast_unsigned w64 z ≡ encode_signed z
unfolding encode_signed
encode_cast (pos n) = refl
encode_cast (negsuc n) = omega arith

pub decode_cast : (w : ℕ) → cast_signed w64 w ≡ decode_signed w
unfolding decode_signed
decode_cast w =
    let same : 18446744073709551616 - suc w ≡ 18446744073709551615 - w = omega arith in
    ap (λ (k : ℕ). cond (ltb w 9223372036854775808) (pos w) (negsuc k)) same
