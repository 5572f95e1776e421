-- The marks of a word: its binary digits as a list of Bools, lowest first; how trailing zeros find the first one, and
-- what clearing one by subtraction comes to. Every law is over the width, the number of digits, by induction on it with
-- a split on the lowest digit. Assumes nothing.
use Rattle.std.specs.Prelude.{ℕ, zero, suc, ◌-◌, ◌*◌, ◌/◌, ◌%◌, ◌^◌, ◌≤◌, ◌<◌, ◌≡◌, refl, Bool, true, false, List, []}
use Rattle.std.specs.Prelude.{◌∷◌, length, get_or, set, replicate}
use Rattle.std.proofs.Common.{arith, pow-suc, mul_comm, one-mul, div-one, ap, ◌∙◌, pow_pos, shl_exact}
use Rattle.std.proofs.Math.Nat.{div-div-eq-div-mul}
use Rattle.std.proofs.lemmas.Bool.{false≢true}
use Rattle.std.proofs.Math.ListN.{get_or-eq_default}
use Rattle.std.specs.Int.Count.{ones, ones_step, count_trailing_zeros, under}

-- the mark that a binary digit is
abbrev pub digit_mark : ℕ → Bool
digit_mark zero = false
digit_mark (suc d) = true

-- the marks of the n lowest digits of a word
unfoldable pub marks_of : ℕ → ℕ → List Bool
marks_of zero w = []
marks_of (suc n) w = digit_mark (w % 2) ∷ marks_of n (w / 2)

-- as many marks as digits
length_marks : (n w : ℕ) → length (marks_of n w) ≡ n
unfolding marks_of
length_marks zero w = refl
length_marks (suc n) w = ap suc (length_marks n (w / 2))

-- after the last digit there is no mark
pub none_behind : (n w k : ℕ) → n ≤ k → get_or (marks_of n w) k false ≡ false
none_behind n w k p = get_or-eq_default (marks_of n w) false {n = k} (rw length_marks p)

-- a set digit is not 0
marked_digit : (d : ℕ) → digit_mark d ≡ true → 0 < d
marked_digit zero e = absurd (false≢true e)
marked_digit (suc d) e = omega arith

-- the mark at k is the digit there
pub mark_at : (n w k : ℕ) → k < n → get_or (marks_of n w) k false ≡ digit_mark (w / 2 ^ k % 2)
unfolding marks_of
mark_at zero w k p = absurd (omega arith)
mark_at (suc n) w zero p = rw div-one
mark_at (suc n) w (suc k) p = rw (pow-suc, mul_comm, ← div-div-eq-div-mul) (mark_at n (w / 2) k (omega arith))

-- the first mark of a list is at t
pub record FirstMark (marks : List Bool) (t : ℕ) : Type 0 where
  pub marked : get_or marks t false ≡ true
  pub before : (j : ℕ) → j < t → get_or marks j false ≡ false

-- trailing zeros find the first mark of a word that is not 0
pub first_mark : (n w : ℕ) → 0 < w → w < 2 ^ n → FirstMark (marks_of n w) (count_trailing_zeros n w)
unfolding marks_of count_trailing_zeros
first_mark zero w some fits = absurd (omega arith)
first_mark (suc n) w some fits = by_digit (w % 2) refl (λ p. first_mark n (w / 2) p (omega arith))
  where
    by_digit : (d : ℕ) → w % 2 ≡ d → (0 < w / 2 → FirstMark (marks_of n (w / 2)) (count_trailing_zeros n (w / 2))) →
        FirstMark (digit_mark d ∷ marks_of n (w / 2)) (under d (count_trailing_zeros n (w / 2)))
    by_digit zero e later =
        let rest = later (omega arith) in
        record { marked = rest.marked; before = elim [ zero ↦ λ p. refl | suc j ↦ λ p. rest.before j (omega arith) ] }
    by_digit (suc d) e later = record { marked = refl; before = λ j p. absurd (omega arith) }

-- a word of n ones has n marks
pub all_marks : (n : ℕ) → marks_of n (2 ^ n - 1) ≡ replicate n true
unfolding marks_of
all_marks zero = refl
all_marks (suc n) =
    let some : 0 < 2 ^ n = pow_pos n in
    let odd : (2 ^ suc n - 1) % 2 ≡ 1 = omega arith in
    let half : (2 ^ suc n - 1) / 2 ≡ 2 ^ n - 1 = omega arith in
    rw (odd, half, all_marks n)

-- the word 0 has no marks
pub no_marks : (n j : ℕ) → get_or (marks_of n 0) j false ≡ false
unfolding marks_of
no_marks zero j = refl
no_marks (suc n) zero = refl
no_marks (suc n) (suc j) = no_marks n j

-- a word of n digits has the same marks at a greater width
pub wider : (n m w j : ℕ) → n ≤ m → w < 2 ^ n → get_or (marks_of m w) j false ≡ get_or (marks_of n w) j false
unfolding marks_of
wider zero m w j p fits = let empty : w ≡ 0 = omega arith in rw empty (no_marks m j)
wider (suc n) zero w j p fits = absurd (omega arith)
wider (suc n) (suc m) w zero p fits = refl
wider (suc n) (suc m) w (suc j) p fits = wider n m (w / 2) j (omega arith) (omega arith)

-- the word whose one mark is k, by a shift
pub one_mark : (n k : ℕ) → k < n → (1 * 2 ^ k) % 2 ^ n ≡ 2 ^ k
one_mark n k p = shl_exact {a = 1} 1 k n (omega arith) (omega arith) ∙ one-mul (2 ^ k)

-- what clearing a mark by subtraction comes to
pub record Cleared (n w k : ℕ) : Type 0 where
  pub below : k < n
  pub fits : 2 ^ k ≤ w
  pub less : w - 2 ^ k < w
  pub marks : marks_of n (w - 2 ^ k) ≡ set (marks_of n w) k false
  pub fewer : ones w ≡ suc (ones (w - 2 ^ k))

-- the lowest mark cleared: the digit 1 becomes 0, and the rest of the word stays
cleared_lowest : (n w : ℕ) → 0 < w % 2 → Cleared (suc n) w zero
unfolding marks_of
cleared_lowest n w some =
    let even : (w - 1) % 2 ≡ 0 = omega arith in
    let half : (w - 1) / 2 ≡ w / 2 = omega arith in
    record {
      below = omega arith;
      fits = omega arith;
      less = omega arith;
      marks = rw (even, half);
      fewer = rw (ones_step w, ones_step (w - 1), even, half) (omega arith);
    }

-- a mark above the lowest cleared: the lowest digit stays, and the rest of the word is cleared
cleared_above : (n w k : ℕ) → Cleared n (w / 2) k → Cleared (suc n) w (suc k)
unfolding marks_of
cleared_above n w k rest =
    let fits_half : 2 ^ k ≤ w / 2 = rest.fits in
    let less_half : w / 2 - 2 ^ k < w / 2 = rest.less in
    let below_half : k < n = rest.below in
    let same : (w - 2 ^ suc k) % 2 ≡ w % 2 = omega arith in
    let half : (w - 2 ^ suc k) / 2 ≡ w / 2 - 2 ^ k = omega arith in
    record {
      below = omega arith;
      fits = omega arith;
      less = omega arith;
      marks = rw (same, half, rest.marks);
      fewer = rw (ones_step w, ones_step (w - 2 ^ suc k), same, half, rest.fewer) (omega arith);
    }

-- a mark that is set is cleared by subtraction
pub mark_cleared : (n w k : ℕ) → get_or (marks_of n w) k false ≡ true → Cleared n w k
unfolding marks_of
mark_cleared zero w k e = absurd (false≢true e)
mark_cleared (suc n) w zero e = cleared_lowest n w (marked_digit (w % 2) e)
mark_cleared (suc n) w (suc k) e = cleared_above n w k (mark_cleared n (w / 2) k e)
