-- A field of a sheet line reads back as what was put into it: a number in base ten as itself, and an output as itself,
-- whatever blanks are before. The characters of `decimal n` are digits and spell n, by induction from a number to its
-- tenth part; blanks and hyphens are no digits. Assumes nothing.
use Rattle.std.specs.Prelude.{ℕ, zero, suc, ◌+◌, ◌-◌, ◌*◌, ◌/◌, ◌%◌, ◌≤◌, ◌<◌, ◌≡◌, refl, Bool, true, false, cond}
use Rattle.std.specs.Prelude.{◌⊎◌, List, [], ◌∷◌, ◌++◌, length, get_or, replicate, pos, negsuc, eqb, leb, ltb}
use Rattle.std.proofs.Common.{arith, ◌∙◌, inl, inr, le-leb, ltb-true, ltb-false, ne_eqb}
use Rattle.machine.specs.declared.signal.Signal.{Signal}
use Rattle.machine.specs.declared.signal.Signal.TheVariants.{Absent, Value}
use Rattle.machine.specs.Lists.{any, member, All}
use Rattle.machine.specs.Rehearse.{blank, hyphen, decimal, signed_decimal, signal_text}
use Rattle.machine.specs.Sheet.{right_aligned, is_digit, digits_read, number_read, signal_read}
use Rattle.laws.specs.Bools.{either, and_intro}
use Rattle.laws.specs.Alls.{all_append}
use Rattle.laws.specs.ListLaws.{any_intro, all_at}
use Rattle.write_laws.specs.Decimal.{one_digit, more_digits, some_digits}

-- the character is one of ten
abbrev pub Digit : ℕ → Type 0
Digit c = (48 ≤ c) × (c ≤ 57)

-- induction on a number's digits: what holds of numbers below 10, and of a larger number where it holds of its tenth
-- part, holds of all numbers. First of those up to a bound
up_to : (P : ℕ → Type 0) → ((n : ℕ) → n < 10 → P n) → ((n : ℕ) → 10 ≤ n → P (n / 10) → P n) → (most n : ℕ) → n ≤ most →
    P n
up_to P one more zero n h = one n (omega arith)
up_to P one more (suc most) n h = by_test (either (ltb n 10)) (up_to P one more most (n / 10))
  where
    by_test : (ltb n 10 ≡ true) ⊎ (ltb n 10 ≡ false) → (n / 10 ≤ most → P (n / 10)) → P n
    by_test (inl e) tenth = one n (ltb-true n 10 e)
    by_test (inr e) tenth =
        let large : 10 ≤ n = ltb-false n 10 e in
        more n large (tenth (omega arith))

by_digits : (P : ℕ → Type 0) → ((n : ℕ) → n < 10 → P n) → ((n : ℕ) → 10 ≤ n → P (n / 10) → P n) → (n : ℕ) → P n
by_digits P one more n = up_to P one more n n (omega arith)

-- the last character of a number in base ten is a digit, and so are all
last_digit : (n : ℕ) → Digit (48 + n % 10)
last_digit n = (omega arith, omega arith)

pub all_digits : (n : ℕ) → All Digit (decimal n)
all_digits =
    by_digits (λ n. All Digit (decimal n)) (λ n h. rw (one_digit n h) (last_digit n, tt)) (λ n h tenth.
    rw (more_digits n h) (all_append Digit (decimal (n / 10)) ((48 + n % 10) ∷ []) tenth (last_digit n, tt)))

-- the test of a digit
digit_passes : (c : ℕ) → Digit c → is_digit c ≡ true
unfolding is_digit
digit_passes c h = and_intro (leb 48 c) (leb c 57) (le-leb 48 c h.0) (le-leb c 57 h.1)

-- what is read of a text after another
pub read_append : (n : ℕ) (a b : List ℕ) → digits_read n (a ++ b) ≡ digits_read (digits_read n a) b
unfolding digits_read
read_append n [] b = refl
read_append n (c ∷ cs) b = read_append (cond (is_digit c) (10 * n + (c - 48)) n) cs b

-- nothing is read of blanks
pub read_blanks : (n k : ℕ) → digits_read n (replicate k blank) ≡ n
unfolding digits_read is_digit
read_blanks n zero = refl
read_blanks n (suc k) = read_blanks n k

-- a digit read
read_digit : (n c : ℕ) → Digit c → digits_read n (c ∷ []) ≡ 10 * n + (c - 48)
unfolding digits_read
read_digit n c h = rw (digit_passes c h) refl

-- a number in base ten reads back
pub decimal_read : (n : ℕ) → number_read (decimal n) ≡ n
unfolding number_read
decimal_read =
    by_digits (λ n. digits_read 0 (decimal n) ≡ n)
    (λ n h. rw (one_digit n h, read_digit 0 (48 + n % 10) (last_digit n)) (omega arith))
    (λ n h tenth. rw (
      more_digits n h,
      read_append 0 (decimal (n / 10)) ((48 + n % 10) ∷ []),
      tenth,
      read_digit (n / 10) (48 + n % 10) (last_digit n),
    )
    (omega arith))

-- the blanks before a text in a field change nothing of the number read
number_unfilled : (w : ℕ) (t : List ℕ) → number_read (right_aligned w t) ≡ number_read t
unfolding number_read right_aligned
number_unfilled w t = rw (read_append 0 (replicate (w - length t) blank) t, read_blanks 0 (w - length t)) refl

-- so a number in a field reads back
pub number_aligned : (w n : ℕ) → number_read (right_aligned w (decimal n)) ≡ n
number_aligned w n = number_unfilled w (decimal n) ∙ decimal_read n

-- a test that blanks do not pass finds nothing in those before a text in a field
any_unfilled : (f : ℕ → Bool) (k : ℕ) (t : List ℕ) → f blank ≡ false → any f (replicate k blank ++ t) ≡ any f t
unfolding any
any_unfilled f zero t e = refl
any_unfilled f (suc k) t e = rw e (any_unfilled f k t e)

-- nor do they change anything of the signal read
signal_unfilled : (w : ℕ) (t : List ℕ) → signal_read (right_aligned w t) ≡ signal_read t
unfolding signal_read right_aligned member is_digit
signal_unfilled w t =
    let k = w - length t in
    rw (any_unfilled is_digit k t refl, any_unfilled (eqb hyphen) k t refl, number_unfilled w t) refl

-- a number in base ten has a digit
has_digit : (n : ℕ) → any is_digit (decimal n) ≡ true
has_digit n =
    any_intro is_digit (decimal n) 0 0 (some_digits n)
    (digit_passes (get_or (decimal n) 0 0) (all_at Digit (decimal n) 0 0 (all_digits n) (some_digits n)))

-- a test that fails of each element, as that of a hyphen of each digit
any_none : (f : ℕ → Bool) (P : ℕ → Type 0) (l : List ℕ) → ((a : ℕ) → P a → f a ≡ false) → All P l → any f l ≡ false
unfolding any
any_none f P [] fails h = refl
any_none f P (x ∷ xs) fails h = rw (fails x h.0) (any_none f P xs fails h.1)

no_hyphen : (n : ℕ) → member hyphen (decimal n) ≡ false
unfolding member
no_hyphen n = any_none (eqb hyphen) Digit (decimal n) (λ c h. ne_eqb hyphen c (λ e. omega arith)) (all_digits n)

-- an output's text reads back, in a field too
text_read : (x : Signal) → signal_read (signal_text x) ≡ x
unfolding signal_read signal_text signed_decimal any is_digit member number_read digits_read
text_read Absent = refl
text_read (Value (pos n)) = rw (has_digit n, no_hyphen n, decimal_read n) refl
text_read (Value (negsuc n)) = rw (has_digit (suc n), decimal_read (suc n)) refl

pub signal_aligned : (w : ℕ) (x : Signal) → signal_read (right_aligned w (signal_text x)) ≡ x
signal_aligned w x = signal_unfilled w (signal_text x) ∙ text_read x
