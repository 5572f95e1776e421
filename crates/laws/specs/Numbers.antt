-- Laws of numbers that are not in the library: of two numbers, and of division. Assumes nothing.
use Rattle.std.specs.Prelude.{ℕ, zero, suc, ◌+◌, ◌*◌, ◌/◌, ◌≤◌, ◌<◌, min, max, ◌≡◌, true, false, not, ◌&&◌, ◌⊎◌, leb}
use Rattle.std.specs.Prelude.{ltb}
use Rattle.std.proofs.Common.{arith, le-div_iff_mul-le, div-lt_iff_lt-mul, div-mul-le_self, le-mul_of_pos_right}
use Rattle.std.proofs.Common.{le_trans, inl, inr, ⊎_elim, leb-true, leb-false, le-leb, ltb-true, ltb-false}
use Rattle.std.proofs.Math.Nat.{lt-div-mul-add, div-zero}
use Rattle.std.proofs.Math.Logic.{⊎_map}
use Rattle.std.proofs.lemmas.Bool.{lt-leb}
use Rattle.laws.specs.Bools.{either}

-- of two numbers one is at most the other
at_most : (a b : ℕ) → (a ≤ b) ⊎ (b < a)
at_most a b = ⊎_map (leb-true a b) (leb-false a b) (either (leb a b))

-- the larger of two numbers is one of them
pub max_one : (a b : ℕ) → (max a b ≡ a) ⊎ (max a b ≡ b)
max_one a b = ⊎_elim (λ le. inr (omega arith)) (λ lt. inl (omega arith)) (at_most a b)

-- so is the smaller
pub min_one : (a b : ℕ) → (min a b ≡ a) ⊎ (min a b ≡ b)
min_one a b = ⊎_elim (λ le. inl (omega arith)) (λ lt. inr (omega arith)) (at_most a b)

-- as tests: not below is at least
pub not_ltb : (a b : ℕ) → not (ltb a b) ≡ leb b a
not_ltb a b = by_test (either (ltb a b))
  where
    by_test : (ltb a b ≡ true) ⊎ (ltb a b ≡ false) → not (ltb a b) ≡ leb b a
    by_test (inl t) = rw (t, lt-leb b a (ltb-true a b t))
    by_test (inr t) = rw (t, le-leb b a (ltb-false a b t))

-- both of two numbers are at most p where the larger is
pub and_leb : (a b p : ℕ) → (leb a p && leb b p) ≡ leb (max a b) p
and_leb a b p = by_test (either (leb a p)) (either (leb b p))
  where
    by_test : (leb a p ≡ true) ⊎ (leb a p ≡ false) → (leb b p ≡ true) ⊎ (leb b p ≡ false) →
        (leb a p && leb b p) ≡ leb (max a b) p
    by_test (inl t) (inl u) = rw (t, u, le-leb (max a b) p (omega (arith, leb-true a p t, leb-true b p u)))
    by_test (inl t) (inr u) = rw (t, u, lt-leb (max a b) p (omega (arith, leb-false b p u)))
    by_test (inr t) other = rw (t, lt-leb (max a b) p (omega (arith, leb-false a p t)))

-- a larger number divided is no smaller, whatever the divisor: divided by 0 both give 0
pub div_grows : (r a b : ℕ) → a ≤ b → a / r ≤ b / r
div_grows zero a b h = rw (div-zero a, div-zero b) (omega arith)
div_grows (suc r) a b h =
    let some : 0 < suc r = omega arith in
    (le-div_iff_mul-le some).1 (le_trans (div-mul-le_self a (suc r)) h)

-- a number larger by h, divided, is larger by at most h
pub div_more : (r a h : ℕ) → (a + h) / r ≤ a / r + h
div_more zero a h = rw (div-zero (a + h)) (omega arith)
div_more (suc r) a h =
    let some : 0 < suc r = omega arith in
    let below : a < a / suc r * suc r + suc r = lt-div-mul-add some in
    let grown : h ≤ h * suc r = le-mul_of_pos_right h some in
    let more : a + h < (a / suc r + h + 1) * suc r = omega arith in
    let least : (a + h) / suc r < a / suc r + h + 1 = (div-lt_iff_lt-mul some).1 more in
    omega arith
