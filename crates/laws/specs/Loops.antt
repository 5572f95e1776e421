-- A loop over a list, by its index i: what a fold or a test comes to over the elements before i, and what a test comes
-- to over those from i on. Each law is a loop's turn, or its end. Assumes nothing.
use Rattle.std.specs.Prelude.{ℕ, ◌+◌, ◌≤◌, ◌<◌, ◌≡◌, Bool, true, false, ◌&&◌, length, get_or, take, drop}
use Rattle.std.proofs.Common.{add-one, drop_of_length-le, take-suc, drop-cons}
use mathlib.Core.List.{List, [], ◌∷◌, ◌++◌, foldl, foldl-append}
use Rattle.machine.specs.Lists.{every, any}
use Rattle.laws.specs.Bools.{or_false_left, or_false_right}

-- a fold over the elements before i, one element further
pub foldl_further {ℓ ℓ'} : {A : Type ℓ} {B : Type ℓ'} (f : B → A → B) (b : B) (l : List A) (i : ℕ) (d : A) →
    i < length l →
    foldl f b (take (i + 1) l) ≡ f (foldl f b (take i l)) (get_or l i d)
foldl_further f b l i d h = rw (add-one i, take-suc l i d h) (foldl-append f b (take i l) (get_or l i d ∷ []))

module _ {ℓ} {A : Type ℓ} (f : A → Bool) where
  -- where no element passes the test, and one more does not, none of them all does
  any_added : (l : List A) (a : A) → any f l ≡ false → f a ≡ false → any f (l ++ (a ∷ [])) ≡ false
  unfolding any
  any_added [] a none more = rw more
  any_added (x ∷ xs) a none more =
      rw (or_false_left (f x) (any f xs) none) (any_added xs a (or_false_right (f x) (any f xs) none) more)

  -- the same of the elements before i, one element further
  pub any_further :
      (l : List A) (i : ℕ) (d : A) → i < length l → any f (take i l) ≡ false → f (get_or l i d) ≡ false →
      any f (take (i + 1) l) ≡ false
  any_further l i d h none more = rw (add-one i, take-suc l i d h) (any_added (take i l) (get_or l i d) none more)

  -- all elements from i on pass the test where the element i does and those after it
  pub every_on : (l : List A) (i : ℕ) (d : A) → i < length l →
      every f (drop i l) ≡ (f (get_or l i d) && every f (drop (i + 1) l))
  unfolding every
  every_on l i d h = rw (drop-cons l i d h, add-one)

  -- after the last element all do
  pub every_end : (l : List A) (i : ℕ) → length l ≤ i → every f (drop i l) ≡ true
  unfolding every
  every_end l i h = rw (drop_of_length-le l h)
