-- Numbers as words: a signed one is in two's complement of 64 bits; and a list given by what is at each place. Assumes
-- nothing.
use Rattle.std.specs.Prelude.{ℕ, zero, suc, ◌-◌, cond, List, [], ◌∷◌, ◌++◌, ltb, ℤ, pos, negsuc}

-- f 0 to f (n − 1)
unfoldable pub tabulate {ℓ} : {A : Type ℓ} → (ℕ → A) → ℕ → List A
tabulate f zero = []
tabulate f (suc n) = tabulate f n ++ (f n ∷ [])

-- a signed number as a word, −(n + 1) being 2^64 − 1 − n, and the signed number of a word
unfoldable pub encode_signed : ℤ → ℕ
encode_signed (pos n) = n
encode_signed (negsuc n) = 18446744073709551615 - n

unfoldable pub decode_signed : ℕ → ℤ
decode_signed w = cond (ltb w 9223372036854775808) (pos w) (negsuc (18446744073709551615 - w))
