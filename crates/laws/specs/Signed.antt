-- Laws of signed numbers: what the code's tests show of one, differences, the absolute values of sums and products,
-- which numbers fit a word, and what values and clamping are by these. A signed number is `pos n` or `negsuc n`, which
-- is −(n + 1), so each law goes by cases on these, and a bound on it is a bound on its absolute value, `nat_abs`.
-- Assumes nothing.
use Rattle.std.specs.Prelude.{ℕ, zero, suc, ◌+◌, ◌-◌, ◌*◌, ◌^◌, ◌≤◌, ◌<◌, min, ◌≡◌, refl, Bool, true, false, cond}
use Rattle.std.specs.Prelude.{eqb, ltb, ℤ, pos, negsuc, nat_abs, neg_ℤ, ◌+ℤ◌, ◌-ℤ◌, ◌*ℤ◌}
use Rattle.std.proofs.Common.{mul-le-mul, le_trans, le_of_eq, arith, ap, true≢false, leb-true, le-leb, ltb-true}
use Rattle.std.proofs.Common.{ltb-false, lt-ltb, ne_eqb}
use Rattle.std.proofs.lemmas.Bool.{false≢true, lt-leb}
use Rattle.std.proofs.Math.IntN.{sub_ℕ}
use Rattle.std.specs.Int.Signed.{mag, lt_z, le_z}
use Rattle.std.specs.Int.{Width, w64}
use mir.Val.{SFits, hbits, of_z, to_z}
use Rattle.std.proofs.lemmas.Int.{to_z-of_z}
use Rattle.machine.specs.declared.signal.Signal.{Signal}
use Rattle.machine.specs.declared.signal.Signal.TheVariants.{Value}
use Rattle.machine.specs.Signal.{clamp, integral, integrated, is_value, is_signal, largest_value}
use Rattle.machine.specs.Kind.{is_zero}

-- a number below 0 is −(n + 1), and another is n, n being what `mag` gives of either
pub negative : (v : ℤ) → lt_z v (pos 0) ≡ true → v ≡ negsuc (mag v)
negative (pos n) below = absurd (omega (arith, ltb-true n 0 below))
negative (negsuc n) below = refl

pub not_negative : (v : ℤ) → lt_z v (pos 0) ≡ false → v ≡ pos (mag v)
not_negative (pos n) from = refl
not_negative (negsuc n) from = absurd (true≢false from)

-- a number above 0 is n + 1, n being one less than what `mag` gives, and one neither below nor above 0 is 0
pub positive : (v : ℤ) → lt_z (pos 0) v ≡ true → v ≡ pos (suc (mag v - 1))
positive (pos zero) above = absurd (omega (arith, ltb-true 0 0 above))
positive (pos (suc n)) above = let same : n ≡ suc n - 1 = omega arith in ap (λ (k : ℕ). pos (suc k)) same
positive (negsuc n) above = absurd (false≢true above)

pub only_zero : (v : ℤ) → lt_z v (pos 0) ≡ false → lt_z (pos 0) v ≡ false → v ≡ pos zero
only_zero (pos n) from to = ap pos (omega (arith, ltb-false 0 n to))
only_zero (negsuc n) from to = absurd (true≢false from)

-- a word's bits are 0 where its number is
pub zero_bits : (v : ℤ) → SFits w64 v → eqb (of_z w64 v) 0 ≡ is_zero v
zero_bits (pos n) f = refl
zero_bits (negsuc n) f = ne_eqb (of_z w64 (negsuc n)) 0 (λ e. omega (arith, f.sfits))

-- a number less a larger one
pub larger_taken : (a b : ℕ) → a < b → pos a -ℤ pos b ≡ negsuc (b - suc a)
larger_taken a zero h = absurd (omega arith)
larger_taken a (suc b) h = rw (lt-ltb a (suc b) h)

-- −1 less n is −(n + 1)
pub minus_one_less : (n : ℕ) → negsuc 0 -ℤ pos n ≡ negsuc n
minus_one_less zero = refl
minus_one_less (suc n) = let same : 0 + n ≡ n = omega arith in ap (λ (k : ℕ). negsuc (suc k)) same

-- |a − b| is at most a + b
difference_most : (a b : ℕ) → nat_abs (sub_ℕ a b) ≤ a + b
difference_most a b = by (ltb a b) refl
  where
    by : (t : Bool) → ltb a b ≡ t → nat_abs (cond t (negsuc (b - suc a)) (pos (a - b))) ≤ a + b
    by true h = omega (arith, ltb-true a b h)
    by false h = omega arith

-- |a + b| is at most |a| + |b|
sum_most : (a b : ℤ) → nat_abs (a +ℤ b) ≤ nat_abs a + nat_abs b
sum_most (pos a) (pos b) = omega arith
sum_most (pos a) (negsuc b) = difference_most a (suc b)
sum_most (negsuc a) (pos b) = omega (arith, difference_most b (suc a))
sum_most (negsuc a) (negsuc b) = omega arith

-- |−n| is n
negated_absolute : (n : ℕ) → nat_abs (neg_ℤ (pos n)) ≡ n
negated_absolute zero = refl
negated_absolute (suc n) = refl

-- |a × b| is |a| × |b|
product_absolute : (a b : ℤ) → nat_abs (a *ℤ b) ≡ nat_abs a * nat_abs b
product_absolute (pos a) (pos b) = refl
product_absolute (pos a) (negsuc b) = negated_absolute (a * suc b)
product_absolute (negsuc a) (pos b) = negated_absolute (suc a * b)
product_absolute (negsuc a) (negsuc b) = refl

-- the product of two numbers of absolute value at most 10^9 has one of at most 10^18
pub product_most : (a b : ℤ) → nat_abs a ≤ largest_value → nat_abs b ≤ largest_value →
    nat_abs (a *ℤ b) ≤ 1_000_000_000_000_000_000
product_most a b ha hb = le_trans (le_of_eq (product_absolute a b)) (mul-le-mul ha hb)

-- a number fits a signed word of any width whose half its absolute value is below
fits : (w : Width) (v : ℤ) → nat_abs v < 2 ^ hbits w → SFits w v
fits w (pos n) small = record { sfits = omega arith }
fits w (negsuc n) small = record { sfits = omega arith }

-- the product of two numbers of absolute value at most 10^9 fits an i64
pub product_fits : (a b : ℤ) → nat_abs a ≤ largest_value → nat_abs b ≤ largest_value → SFits w64 (a *ℤ b)
product_fits a b ha hb = fits w64 (a *ℤ b) (omega (arith, product_most a b ha hb))

-- the sum of two numbers, of absolute values at most 10^9 and 10^18, fits an i64
pub sum_fits : (a b : ℤ) → nat_abs a ≤ largest_value → nat_abs b ≤ 1_000_000_000_000_000_000 → SFits w64 (a +ℤ b)
sum_fits a b ha hb = fits w64 (a +ℤ b) (omega (arith, sum_most a b))

-- a value's absolute value is at most 10^9
pub value_most : (v : ℤ) → is_value v ≡ true → nat_abs v ≤ largest_value
unfolding is_value
value_most v h = leb-true (nat_abs v) largest_value h

-- the same of the number of a signal that is present
pub signal_most : (x : Signal) (v : ℤ) → x ≡ Value v → is_signal x ≡ true → nat_abs v ≤ largest_value
unfolding is_signal
signal_most x v e h = value_most v (rw e at h)

-- a value is read back from its bits as itself
pub value_back : (v : ℤ) → is_value v ≡ true → to_z w64 (of_z w64 v) ≡ v
value_back v h = to_z-of_z w64 v (fits w64 v (omega (arith, value_most v h)))

-- below −10^9 no number is a value, and from there on those up to 10^9 are
pub value_below : (v : ℤ) → lt_z v (negsuc 999_999_999) ≡ true → is_value v ≡ false
unfolding is_value
value_below (pos n) h = absurd (false≢true h)
value_below (negsuc n) h = lt-leb (suc n) 1_000_000_000 (omega (arith, ltb-true 999_999_999 n h))

pub value_from : (v : ℤ) → lt_z v (negsuc 999_999_999) ≡ false → is_value v ≡ le_z v (pos 1_000_000_000)
unfolding is_value
value_from (pos n) h = refl
value_from (negsuc n) h = le-leb (suc n) 1_000_000_000 (omega (arith, ltb-false 999_999_999 n h))

-- clamping a number above 10^9, one below −10^9, and one in between
pub clamp_above : (v : ℤ) → lt_z (pos 1_000_000_000) v ≡ true → pos 1_000_000_000 ≡ clamp v
unfolding clamp
clamp_above (pos n) h = ap pos (omega (arith, ltb-true 1_000_000_000 n h))
clamp_above (negsuc n) h = absurd (false≢true h)

pub clamp_below : (v : ℤ) → lt_z v (negsuc 999_999_999) ≡ true → negsuc 999_999_999 ≡ clamp v
unfolding clamp
clamp_below (pos n) h = absurd (false≢true h)
clamp_below (negsuc n) h = ap negsuc (omega (arith, ltb-true 999_999_999 n h))

pub clamp_between : (v : ℤ) → lt_z (pos 1_000_000_000) v ≡ false → lt_z v (negsuc 999_999_999) ≡ false → v ≡ clamp v
unfolding clamp
clamp_between (pos n) h k = ap pos (omega (arith, ltb-false 1_000_000_000 n h))
clamp_between (negsuc n) h k = ap negsuc (omega (arith, ltb-false 999_999_999 n k))

-- clamping gives a value, and so does integrating
pub clamp_value : (z : ℤ) → is_value (clamp z) ≡ true
unfolding clamp is_value
clamp_value (pos n) = le-leb (min n 1_000_000_000) largest_value (omega arith)
clamp_value (negsuc n) = le-leb (suc (min n 999_999_999)) largest_value (omega arith)

pub integral_value : (held : ℤ) (x : Signal) (d : ℕ) → is_value (integral held x d) ≡ true
unfolding integral
integral_value held x d = clamp_value (held +ℤ (integrated x *ℤ pos d))
