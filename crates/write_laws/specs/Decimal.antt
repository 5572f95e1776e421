-- Laws of `decimal`: it is the digits of the tenth part with the last digit after them, and a number below 10 ^ k has
-- at most k digits; and of `signed_decimal`, by the sign. The definition puts digits in front of characters, with fuel;
-- that the characters are after, and that more fuel changes nothing (`digits_enough` of `write_laws`), give the laws.
-- Assumes nothing.
use Rattle.std.specs.Prelude.{ℕ, zero, suc, ◌+◌, ◌/◌, ◌%◌, ◌^◌, ◌≤◌, ◌<◌, ◌≡◌, refl, true, false, ◌⊎◌, List, [], ◌∷◌}
use Rattle.std.specs.Prelude.{◌++◌, length, ℤ, pos, negsuc, nat_abs, ltb}
use Rattle.std.proofs.Common.{pow-suc, arith, ap, ◌∙◌, inl, inr, append_assoc, length-append, SFits, lt-ltb, le-ltb}
use Rattle.std.proofs.Common.{ltb-true, ltb-false}
use Rattle.std.specs.Int.Signed.{lt_z}
use Rattle.std.specs.Int.{w64}
use Rattle.machine.specs.Rehearse.{hyphen, digits_before, decimal, signed_decimal}
use Rattle.laws.specs.Bools.{either}
use Rattle.laws.specs.Signed.{negative, not_negative}
use Rattle.write_laws.specs.LineFuel.{digits_enough}

-- the characters given are after the digits
before_append : (f n : ℕ) (cs : List ℕ) → digits_before f n cs ≡ digits_before f n [] ++ cs
unfolding digits_before
before_append zero n cs = refl
before_append (suc f) n cs =
    cases (either (ltb n 10)) (before_append f (n / 10) ((48 + n % 10) ∷ cs))
    (before_append f (n / 10) ((48 + n % 10) ∷ []))
  where
    cases :
        (ltb n 10 ≡ true) ⊎ (ltb n 10 ≡ false) →
        digits_before f (n / 10) ((48 + n % 10) ∷ cs) ≡ digits_before f (n / 10) [] ++ ((48 + n % 10) ∷ cs) →
        digits_before f (n / 10) ((48 + n % 10) ∷ []) ≡ digits_before f (n / 10) [] ++ ((48 + n % 10) ∷ []) →
        digits_before (suc f) n cs ≡ digits_before (suc f) n [] ++ cs
    cases (inl e) with_cs alone = simp e
    cases (inr e) with_cs alone = simp (e, with_cs, alone, append_assoc)

-- a number of one digit
pub one_digit : (n : ℕ) → n < 10 → decimal n ≡ (48 + n % 10) ∷ []
unfolding decimal digits_before
one_digit zero h = refl
one_digit (suc n) h = simp (lt-ltb (suc n) 10 h)

-- a number of more digits
pub more_digits : (n : ℕ) → 10 ≤ n → decimal n ≡ decimal (n / 10) ++ ((48 + n % 10) ∷ [])
unfolding decimal digits_before
more_digits zero h = absurd (omega arith)
more_digits (suc f) h =
    let n = suc f in
    let e = le-ltb n 10 h in
    simp e (before_append f (n / 10) ((48 + n % 10) ∷ []) ∙
    ap (λ l. l ++ ((48 + n % 10) ∷ [])) (digits_enough f (n / 10) (n / 10) [] (omega arith) (omega arith)))

-- how many digits a number has at most
pub few_digits : (k n : ℕ) → n < 10 ^ suc k → length (decimal n) ≤ suc k
few_digits zero n h = simp (one_digit n h) (omega arith)
few_digits (suc k) n h = cases (either (ltb n 10)) (few_digits k (n / 10))
  where
    cases :
        (ltb n 10 ≡ true) ⊎ (ltb n 10 ≡ false) →
        (n / 10 < 10 ^ suc k → length (decimal (n / 10)) ≤ suc k) →
        length (decimal n) ≤ suc (suc k)
    cases (inl e) later = simp (one_digit n (ltb-true n 10 e)) (omega arith)
    cases (inr e) later =
        let less = later (omega (arith, pow-suc 10 (suc k))) in
        simp (more_digits n (ltb-false n 10 e), length-append) (omega arith)

-- a number has a digit, and one digit more than its tenth part; of more than two, two more than its hundredth
pub some_digits : (n : ℕ) → 0 < length (decimal n)
some_digits n = cases (either (ltb n 10))
  where
    cases : (ltb n 10 ≡ true) ⊎ (ltb n 10 ≡ false) → 0 < length (decimal n)
    cases (inl e) = simp (one_digit n (ltb-true n 10 e)) (omega arith)
    cases (inr e) = simp (more_digits n (ltb-false n 10 e), length-append) (omega arith)

pub tenth_digits : (n : ℕ) → 10 ≤ n → length (decimal n) ≡ length (decimal (n / 10)) + 1
tenth_digits n h = simp (more_digits n h, length-append)

pub hundredth_digits : (n : ℕ) → 100 ≤ n → length (decimal n) ≡ length (decimal (n / 100)) + 2
hundredth_digits n h =
    let same : n / 10 / 10 ≡ n / 100 = omega arith in
    omega (
      arith,
      tenth_digits n (omega arith),
      tenth_digits (n / 10) (omega arith),
      ap (λ (k : ℕ). length (decimal k)) same,
    )

-- a value's text, by its sign
pub negative_text : (v : ℤ) → lt_z v (pos 0) ≡ true → signed_decimal v ≡ hyphen ∷ decimal (nat_abs v)
unfolding signed_decimal
negative_text v below = rw (negative v below) refl

pub other_text : (v : ℤ) → lt_z v (pos 0) ≡ false → signed_decimal v ≡ decimal (nat_abs v)
unfolding signed_decimal
other_text v from = rw (not_negative v from) refl

-- so that of a negative one is longer by its hyphen
pub negative_length : (v : ℤ) → lt_z v (pos 0) ≡ true → length (signed_decimal v) ≡ length (decimal (nat_abs v)) + 1
negative_length v below = rw (negative_text v below) (omega arith)

-- a number of 64 bits has at most 20
pub word_digits : (n : ℕ) → n < 18446744073709551616 → length (decimal n) ≤ 20
word_digits n h = few_digits 19 n (omega arith)

-- and a signed one, with its hyphen, at most 21 characters
pub signed_short : (v : ℤ) → SFits w64 v → length (signed_decimal v) ≤ 21
unfolding signed_decimal
signed_short (pos n) h = omega (arith, word_digits n (omega (arith, h.sfits)))
signed_short (negsuc n) h = omega (arith, word_digits (suc n) (omega (arith, h.sfits)))
