-- Laws of a list's last element, and of one element more. Assumes nothing.
use Rattle.std.specs.Prelude.{ℕ, zero, suc, ◌-◌, ◌<◌, ◌≡◌, refl, List, [], ◌∷◌, ◌++◌, length, get_or, set}
use Rattle.std.proofs.Common.{arith, sub-one, length-append, length-set, get_or-set_same}
use Rattle.std.proofs.Math.Seq.{get_or-append_seam, set-append_seam}

module _ {ℓ} {A : Type ℓ} where
  -- one element more
  pub length_added : (l : List A) (a : A) → length (l ++ (a ∷ [])) ≡ suc (length l)
  length_added l a = omega (arith, length-append l (a ∷ []))

  -- the default does not matter where there is an element
  get_d_any : (l : List A) (i : ℕ) (d e : A) → i < length l → get_or l i d ≡ get_or l i e
  get_d_any [] i d e h = absurd (omega arith)
  get_d_any (x ∷ xs) zero d e h = refl
  get_d_any (x ∷ xs) (suc i) d e h = get_d_any xs i d e (omega arith)

  -- the last element, where one was added
  pub last_of_added : (l : List A) (a d : A) → get_or (l ++ (a ∷ [])) (length (l ++ (a ∷ [])) - 1) d ≡ a
  last_of_added l a d = rw (length_added l a, sub-one) (get_or-append_seam l a [] d)

  -- the last element replaced, where one was added
  pub set_last_of_added : (l : List A) (a b : A) → set (l ++ (a ∷ [])) (length (l ++ (a ∷ [])) - 1) b ≡ l ++ (b ∷ [])
  set_last_of_added l a b = rw (length_added l a, sub-one) (set-append_seam l a [] b)

  -- the last element, where it was replaced
  pub last_of_set : (l : List A) (a d : A) → 0 < length l →
      get_or (set l (length l - 1) a) (length (set l (length l - 1) a) - 1) d ≡ a
  last_of_set l a d h =
      let there : length l - 1 < length l = omega arith in
      rw (length-set l (length l - 1) a) (get_or-set_same l (length l - 1) a d there)

  -- the last element, of a list and of its tail
  pub last_of_tail : (d x : A) (xs : List A) → get_or (x ∷ xs) (length (x ∷ xs) - 1) d ≡ get_or xs (length xs - 1) x
  last_of_tail d x [] = refl
  last_of_tail d x (y ∷ ys) = simp sub-one (get_d_any (y ∷ ys) (length ys) d x (omega arith))
