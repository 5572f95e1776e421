-- What the other files say of lists in general; nothing here is document 01's. Assumes nothing.
use Rattle.std.specs.Prelude.{ℕ, Bool, true, false, cond, ◌&&◌, ◌||◌, List, [], ◌∷◌, eqb}

-- f holds of every element
unfoldable pub every {ℓ} : {A : Type ℓ} → (A → Bool) → List A → Bool
every f [] = true
every f (x ∷ xs) = f x && every f xs

-- f holds of some element
unfoldable pub any {ℓ} : {A : Type ℓ} → (A → Bool) → List A → Bool
any f [] = false
any f (x ∷ xs) = f x || any f xs

-- the elements of which f holds, in their order
unfoldable pub selected {ℓ} : {A : Type ℓ} → (A → Bool) → List A → List A
selected f [] = []
selected f (x ∷ xs) = cond (f x) (x ∷ selected f xs) (selected f xs)

-- the number n is in the list
unfoldable pub member : ℕ → List ℕ → Bool
member n xs = any (eqb n) xs

-- the two lists of numbers are the same
unfoldable pub same : List ℕ → List ℕ → Bool
same [] [] = true
same [] (y ∷ ys) = false
same (x ∷ xs) [] = false
same (x ∷ xs) (y ∷ ys) = eqb x y && same xs ys

-- P holds of every element, as a statement
abbrev pub All {ℓ} : {A : Type ℓ} → (A → Type 0) → List A → Type 0
All P [] = Unit {0}
All P (x ∷ xs) = P x × All P xs
