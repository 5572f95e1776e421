-- Marks, a list of Bools, of which some are cleared: which are left, and how many. Assumes nothing.
use Rattle.std.specs.Prelude.{ℕ, zero, suc, ◌<◌, ◌≡◌, refl, Bool, true, false, length, get_or, set, replicate}
use Rattle.std.proofs.Common.{arith, ap, ◌∙◌, length-set, get_or-set_other}
use Rattle.std.proofs.lemmas.Bool.{false≢true}
use mathlib.Core.List.{List, [], ◌∷◌, ◌++◌, Memᴰ}

-- a mark is one of the list's
pub marked_below : (marks : List Bool) (k : ℕ) → get_or marks k false ≡ true → k < length marks
marked_below [] k e = absurd (false≢true e)
marked_below (b ∷ marks) zero e = omega arith
marked_below (b ∷ marks) (suc k) e = omega (arith, marked_below marks k e)

-- the marks that are left once those of the list are cleared
unfoldable pub cleared : List Bool → List ℕ → List Bool
cleared marks [] = marks
cleared marks (k ∷ ks) = cleared (set marks k false) ks

-- one number more is cleared
pub cleared_added : (marks : List Bool) (ks : List ℕ) (k : ℕ) →
    cleared marks (ks ++ (k ∷ [])) ≡ set (cleared marks ks) k false
unfolding cleared
cleared_added marks [] k = refl
cleared_added marks (j ∷ ks) k = cleared_added (set marks j false) ks k

-- there are as many places for marks as before
pub length_cleared : (marks : List Bool) (ks : List ℕ) → length (cleared marks ks) ≡ length marks
unfolding cleared
length_cleared marks [] = refl
length_cleared marks (k ∷ ks) = length_cleared (set marks k false) ks ∙ length-set marks k false

-- how many marks there are
unfoldable pub left : List Bool → ℕ
left [] = 0
left (true ∷ marks) = suc (left marks)
left (false ∷ marks) = left marks

-- a mark that is cleared is clear
pub clear_set : (marks : List Bool) (k : ℕ) → get_or (set marks k false) k false ≡ false
clear_set [] k = refl
clear_set (b ∷ marks) zero = refl
clear_set (b ∷ marks) (suc k) = clear_set marks k

-- clearing one mark sets no other
pub marked_before : (marks : List Bool) (k j : ℕ) → get_or (set marks k false) j false ≡ true → get_or marks j false ≡
    true
marked_before [] k j e = e
marked_before (b ∷ marks) zero zero e = absurd (false≢true e)
marked_before (b ∷ marks) zero (suc j) e = e
marked_before (b ∷ marks) (suc k) zero e = e
marked_before (b ∷ marks) (suc k) (suc j) e = marked_before marks k j e

-- a number that is not in the list keeps its mark
pub cleared_other : (ks : List ℕ) (marks : List Bool) (j : ℕ) → (Memᴰ j ks → ⊥) →
    get_or (cleared marks ks) j false ≡ get_or marks j false
unfolding cleared
cleared_other [] marks j out = refl
cleared_other (k ∷ ks) marks j out =
    cleared_other ks (set marks k false) j (λ m. out (Memᴰ.tail m)) ∙
    get_or-set_other marks k j false false (λ e. out (Memᴰ.head e))

-- a mark that is left was there before
pub cleared_marked : (ks : List ℕ) (marks : List Bool) (j : ℕ) → get_or (cleared marks ks) j false ≡ true →
    get_or marks j false ≡ true
unfolding cleared
cleared_marked [] marks j e = e
cleared_marked (k ∷ ks) marks j e = marked_before marks k j (cleared_marked ks (set marks k false) j e)

-- clearing a mark leaves one fewer
pub left_set : (marks : List Bool) (k : ℕ) → get_or marks k false ≡ true → suc (left (set marks k false)) ≡ left marks
unfolding left
left_set [] k e = absurd (false≢true e)
left_set (true ∷ marks) zero e = refl
left_set (false ∷ marks) zero e = absurd (false≢true e)
left_set (true ∷ marks) (suc k) e = ap suc (left_set marks k e)
left_set (false ∷ marks) (suc k) e = left_set marks k e

-- where no mark is left none is set
pub none_left : (marks : List Bool) (j : ℕ) → left marks ≡ 0 → get_or marks j false ≡ true → ⊥
none_left marks j e m = omega (arith, left_set marks j m)

-- where marks are left there is one
pub one_left : (marks : List Bool) → 0 < left marks → (k : ℕ) × (get_or marks k false ≡ true)
unfolding left
one_left [] h = absurd (omega arith)
one_left (true ∷ marks) h = (0, refl)
one_left (false ∷ marks) h = let (k, e) = one_left marks h in (suc k, e)

-- of n marks that are all set n are left
pub left_replicate : (n : ℕ) → left (replicate n true) ≡ n
unfolding left
left_replicate zero = refl
left_replicate (suc n) = ap suc (left_replicate n)
