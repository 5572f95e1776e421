-- Laws of the comparisons that the refusals of commands depend on. Assumes nothing.
use Rattle.std.specs.Prelude.{ℕ, min, ◌<◌, ◌≡◌, true, false, cond, ◌⊎◌, leb}
use Rattle.std.proofs.Common.{arith, inl, inr, leb-true, leb-false, le-leb}
use Rattle.std.proofs.lemmas.Bool.{lt-leb}
use Rattle.laws.specs.Bools.{either}

-- a number is at least n where what n leaves of it is
pub at_least_min : (n a : ℕ) → leb n (min a n) ≡ leb n a
at_least_min n a = by_test (either (leb n a))
  where
    by_test : (leb n a ≡ true) ⊎ (leb n a ≡ false) → leb n (min a n) ≡ leb n a
    by_test (inl e) = let least = leb-true n a e in rw (e, le-leb n (min a n) (omega arith))
    by_test (inr e) = let most = leb-false n a e in rw (e, lt-leb n (min a n) (omega arith))

-- there is room where the refusal of one too many, 6, has no cause
pub room_left : (most count rest : ℕ) → cond (leb most count) 6 rest ≡ 0 → count < most
room_left most count rest none = by_test (either (leb most count))
  where
    by_test : (leb most count ≡ true) ⊎ (leb most count ≡ false) → count < most
    by_test (inl e) = absurd (omega (arith, rw e at none))
    by_test (inr e) = leb-false most count e
