-- Laws of what holds of all elements of a list, and of lists that are mapped. Assumes nothing.
use Rattle.std.specs.Prelude.{ℕ, zero, suc, ◌≡◌, Bool, true, length, get_or, set}
use Rattle.std.proofs.Math.Path.{refl}
use Rattle.std.proofs.Common.{sym, ap, ap₂, ◌∙◌}
use Rattle.std.proofs.Math.Bool.{and-eq-true_iff}
use mathlib.Core.List.{List, [], ◌∷◌, ◌++◌, map, Memᴰ}
use Rattle.std.proofs.lemmas.List.{length-map}
use Rattle.std.proofs.Math.ListN.{get_or-map}
use Rattle.machine.specs.Lists.{every, All}

module _ {ℓ} {A : Type ℓ} (P : A → Type 0) where
  -- where all elements have P, and the default too, so has what is at any index
  pub all_default : (l : List A) (d : A) (i : ℕ) → All P l → P d → P (get_or l i d)
  all_default [] d i h p = p
  all_default (x ∷ xs) d zero h p = h.0
  all_default (x ∷ xs) d (suc i) h p = all_default xs d i h.1 p

  -- what holds of each member of a list holds of all its elements
  pub members_all : (l : List A) → ((a : A) → Memᴰ a l → P a) → All P l
  members_all [] h = tt
  members_all (x ∷ xs) h = (h x (Memᴰ.head refl), members_all xs (λ a m. h a (Memᴰ.tail m)))

  -- where the test f shows P, all elements of a list that passes it have P
  pub every_all : (f : A → Bool) (l : List A) → ((a : A) → f a ≡ true → P a) → every f l ≡ true → All P l
  unfolding every
  every_all f [] shows h = tt
  every_all f (x ∷ xs) shows h =
      let (first, others) = (and-eq-true_iff (f x) (every f xs)).0 h in
      (shows x first, every_all f xs shows others)

  -- where P passes the test f, a list of elements that have P passes it
  pub all_every : (f : A → Bool) (l : List A) → ((a : A) → P a → f a ≡ true) → All P l → every f l ≡ true
  unfolding every
  all_every f [] passes h = refl
  all_every f (x ∷ xs) passes h = (and-eq-true_iff (f x) (every f xs)).1 (passes x h.0, all_every f xs passes h.1)

  -- an element replaced by one that has P, at any index
  pub all_set : (l : List A) (i : ℕ) (a : A) → All P l → P a → All P (set l i a)
  all_set [] i a h p = tt
  all_set (x ∷ xs) zero a h p = (p, h.1)
  all_set (x ∷ xs) (suc i) a h p = (h.0, all_set xs i a h.1 p)

  -- one element more that has P
  pub all_added : (l : List A) (a : A) → All P l → P a → All P (l ++ (a ∷ []))
  all_added [] a h p = (p, tt)
  all_added (x ∷ xs) a h p = (h.0, all_added xs a h.1 p)

  -- two lists one after the other
  pub all_append : (k l : List A) → All P k → All P l → All P (k ++ l)
  all_append [] l h p = p
  all_append (x ∷ xs) l h p = (h.0, all_append xs l h.1 p)

  -- where P gives Q, all elements that have P have Q
  pub all_give : (Q : A → Type 0) (l : List A) → ((a : A) → P a → Q a) → All P l → All Q l
  all_give Q [] gives h = tt
  all_give Q (x ∷ xs) gives h = (gives x h.0, all_give Q xs gives h.1)

-- lists that are mapped to the same are of the same length
pub length_same_map {ℓ κ} : {A : Type ℓ} {B : Type κ} (f : A → B) (k l : List A) → map f k ≡ map f l →
    length k ≡ length l
length_same_map f k l e = sym (length-map k f) ∙ ap length e ∙ length-map l f

-- and their elements at each index are mapped to the same
pub same_at {ℓ κ} : {A : Type ℓ} {B : Type κ} (f : A → B) (k l : List A) (i : ℕ) (d : A) → map f k ≡ map f l →
    f (get_or k i d) ≡ f (get_or l i d)
same_at f k l i d e = sym (get_or-map f k i d) ∙ ap (λ x. get_or x i (f d)) e ∙ get_or-map f l i d

module _ {ℓ} {A B : Type ℓ} (f : A → B) where
  -- what g keeps of each element, it keeps of the list
  pub map_kept : (g : A → A) (l : List A) → ((a : A) → f (g a) ≡ f a) → map f (map g l) ≡ map f l
  map_kept g [] h = refl
  map_kept g (x ∷ xs) h = ap₂ ◌∷◌ (h x) (map_kept g xs h)

  -- where f takes what has P to what has Q, all elements of the mapped list have Q
  pub all_map : (P : A → Type 0) (Q : B → Type 0) (l : List A) → ((a : A) → P a → Q (f a)) → All P l → All Q (map f l)
  all_map P Q [] keeps h = tt
  all_map P Q (x ∷ xs) keeps h = (keeps x h.0, all_map P Q xs keeps h.1)

  -- what holds of all elements of a mapped list holds of all elements once mapped
  all_unmapped : (P : B → Type 0) (l : List A) → All P (map f l) → All (λ a. P (f a)) l
  all_unmapped P [] h = tt
  all_unmapped P (x ∷ xs) h = (h.0, all_unmapped P xs h.1)

  -- what holds of all elements once mapped holds of all elements of a list that is mapped to the same
  pub all_same_map : (P : B → Type 0) (k l : List A) → map f k ≡ map f l → All (λ a. P (f a)) l → All (λ a. P (f a)) k
  all_same_map P k l e h = all_unmapped P k (rw e (all_map (λ a. P (f a)) P l (λ a p. p) h))
