-- The first elements of a list, mapped; and a list whose first elements are changed and whose others are not yet, which
-- is what a loop over an array holds partway. Assumes nothing.
use Rattle.std.specs.Prelude.{ℕ, zero, suc, ◌+◌, ◌≤◌, ◌<◌, ◌≡◌, refl, List, [], ◌∷◌, ◌++◌, map, length, get_or, set}
use Rattle.std.specs.Prelude.{take, drop}
use Rattle.std.proofs.Common.{arith, add-one, ap, ap₂, sym, ◌∙◌, length-take, get_or-take, length-take-le, take_at}
use Rattle.std.proofs.lemmas.List.{length-map}
use Rattle.laws.specs.ListLaws.{getD_map_in}

module _ {ℓ ℓ'} {A : Type ℓ} {B : Type ℓ'} (f : A → B) where
  -- the first n elements, mapped, are n where the list has as many, and back
  pub mapped_length : (n : ℕ) (l : List A) → n ≤ length l → length (map f (take n l)) ≡ n
  mapped_length n l h = length-map (take n l) f ∙ length-take-le n l h

  pub mapped_places : (n : ℕ) (l : List A) → n ≡ length (map f (take n l)) → n ≤ length l
  mapped_places n l e = omega (arith, length-map (take n l) f, length-take n l)

  -- each is that of its place in the list
  pub mapped_at : (n : ℕ) (l : List A) (i : ℕ) (d : A) (e : B) → i < n → n ≤ length l →
      get_or (map f (take n l)) i e ≡ f (get_or l i d)
  mapped_at n l i d e below few =
      let within : i < length (take n l) = omega (arith, length-take-le n l few) in
      getD_map_in f (take n l) i d e within ∙ ap f (get_or-take n l i d below)

  -- they are the front of a list in which they are stored
  pub mapped_front : (n : ℕ) (l : List A) (r : List B) → n ≤ length l →
      take n (map f (take n l) ++ r) ≡ map f (take n l)
  mapped_front n l r h = take_at (map f (take n l)) r n (mapped_length n l h)

  -- a list r in which the first i elements of l are stored, changed by f: the next one stored
  mapped_suc : (l : List A) (r : List B) (i : ℕ) (d : A) → i < length l → length l ≡ length r →
      set (map f (take i l) ++ drop i r) i (f (get_or l i d)) ≡ map f (take (suc i) l) ++ drop (suc i) r
  mapped_suc [] r i d h e = absurd (omega arith)
  mapped_suc (x ∷ xs) [] i d h e = absurd (omega arith)
  mapped_suc (x ∷ xs) (y ∷ ys) zero d h e = refl
  mapped_suc (x ∷ xs) (y ∷ ys) (suc i) d h e = ap (λ l. f x ∷ l) (mapped_suc xs ys i d (omega arith) (omega arith))

  -- the same, as a loop counts
  pub mapped_more : (l : List A) (r : List B) (i : ℕ) (d : A) → i < length l → length l ≡ length r →
      set (map f (take i l) ++ drop i r) i (f (get_or l i d)) ≡ map f (take (i + 1) l) ++ drop (i + 1) r
  mapped_more l r i d h e = rw add-one (mapped_suc l r i d h e)

module _ {ℓ} {A : Type ℓ} (f : A → A) where
  -- the first i elements changed by f
  abbrev pub partway : ℕ → List A → List A
  partway i l = map f (take i l) ++ drop i l

  -- the next element changed
  pub partway_next : (i : ℕ) (l : List A) (d : A) → i < length l →
      set (partway i l) i (f (get_or l i d)) ≡ partway (i + 1) l
  partway_next i l d h = mapped_more f l l i d h refl

  -- the next element passed over, since f keeps it
  partway_same_suc : (i : ℕ) (l : List A) (d : A) → f (get_or l i d) ≡ get_or l i d → i < length l →
      partway i l ≡ partway (suc i) l
  partway_same_suc i [] d e h = absurd (omega arith)
  partway_same_suc zero (x ∷ xs) d e h = ap (λ y. y ∷ xs) (sym e)
  partway_same_suc (suc i) (x ∷ xs) d e h = ap (λ l. f x ∷ l) (partway_same_suc i xs d e (omega arith))

  -- the same, as a loop counts
  pub partway_same : (i : ℕ) (l : List A) (d : A) → f (get_or l i d) ≡ get_or l i d → i < length l →
      partway i l ≡ partway (i + 1) l
  partway_same i l d e h = rw add-one (partway_same_suc i l d e h)

  -- an element that is not changed yet
  pub partway_later : (i : ℕ) (l : List A) (k : ℕ) (d : A) → i ≤ k → get_or (partway i l) k d ≡ get_or l k d
  partway_later zero l k d h = refl
  partway_later (suc i) [] k d h = refl
  partway_later (suc i) (x ∷ xs) zero d h = absurd (omega arith)
  partway_later (suc i) (x ∷ xs) (suc k) d h = partway_later i xs k d (omega arith)

  -- what f keeps of each element
  pub partway_kept {κ} : {B : Type κ} (g : A → B) (i : ℕ) (l : List A) → ((a : A) → g (f a) ≡ g a) →
      map g (partway i l) ≡ map g l
  partway_kept g zero l keeps = refl
  partway_kept g (suc i) [] keeps = refl
  partway_kept g (suc i) (x ∷ xs) keeps = ap₂ ◌∷◌ (keeps x) (partway_kept g i xs keeps)
