-- Laws of refusals one after the other, and of the tests that are their causes. Assumes nothing.
use Rattle.std.specs.Prelude.{ℕ, suc, ◌≡◌, refl, Bool, true, false, cond, not, ◌⊎◌, eqb, leb, ltb}
use Rattle.std.proofs.Common.{arith, inl, inr, ne_eqb, leb-true, leb-false, lt-ltb, le-ltb}
use Rattle.laws.specs.Bools.{either}

-- the first of a refusal and another number is the refusal where there is cause for it, and else the other
pub first_refusal : (cause : Bool) (n other : ℕ) → cond (eqb (cond cause (suc n) 0) 0) other (cond cause (suc n) 0) ≡
    cond cause (suc n) other
first_refusal true n other = let some : suc n ≡ 0 → ⊥ = λ e. omega arith in rw (ne_eqb (suc n) 0 some)
first_refusal false n other = refl

-- what the denial of a test picks
pub cond_not : (b : Bool) (x y : ℕ) → cond (not b) x y ≡ cond b y x
cond_not true x y = refl
cond_not false x y = refl

-- a number is above another where it is not at most that
pub above : (a b : ℕ) → ltb a b ≡ not (leb b a)
above a b = by_test (either (leb b a))
  where
    by_test : (leb b a ≡ true) ⊎ (leb b a ≡ false) → ltb a b ≡ not (leb b a)
    by_test (inl e) = rw (e, le-ltb a b (leb-true b a e))
    by_test (inr e) = rw (e, lt-ltb a b (leb-false b a e))
