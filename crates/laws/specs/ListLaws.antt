-- Laws of lists: `every`, `any`, `member` and `same` as statements, elements of mapped lists, what holds of all
-- elements, and where an element is. Assumes nothing.
use Prim.Native.Nat.{ℕ, zero, suc, ◌*◌, ◌≤◌, ◌<◌}
use native.Mathlib.Omega.{arith}
use Rattle.std.proofs.Common.{mul-suc, ap, ap₂, sym, subst, ◌∙◌, inl, inr, ⊎_elim, length-append, eqb-true, eq-eqb}
use Rattle.std.specs.Prelude.{◌≡◌, Bool, false, ◌&&◌, ◌⊎◌, get_or, set, take, eqb}
use Rattle.std.proofs.Math.Path.{refl}
use Rattle.std.proofs.Math.Bool.{true}
use Rattle.std.proofs.lemmas.Bool.{false≢true}
use mathlib.Core.List.Memᴰ
use mathlib.Core.List.{List, [], ◌∷◌, ◌++◌, append-nil, map, flat_map, Memᴰ}
use Rattle.std.proofs.Math.ListN.{length}
use Rattle.std.proofs.Math.Seq.{append_snoc}
use Rattle.machine.specs.Lists.{every, any, member, same, All}
use Rattle.laws.specs.Bools.{either, and_left, and_right, and_intro, or_cases, or_left, or_right}

module _ {ℓ} {A : Type ℓ} where
  -- what `every` says at each index, and back
  pub every_at : (f : A → Bool) (l : List A) (d : A) (i : ℕ) → every f l ≡ true → i < length l → f (get_or l i d) ≡ true
  unfolding every
  every_at f [] d i h p = absurd (omega arith)
  every_at f (x ∷ xs) d zero h p = and_left (f x) (every f xs) h
  every_at f (x ∷ xs) d (suc i) h p = every_at f xs d i (and_right (f x) (every f xs) h) (omega arith)

  pub every_intro : (f : A → Bool) (l : List A) (d : A) → ((i : ℕ) → i < length l → f (get_or l i d) ≡ true) →
      every f l ≡ true
  unfolding every
  every_intro f [] d h = refl
  every_intro f (x ∷ xs) d h =
      and_intro (f x) (every f xs) (h 0 (omega arith)) (every_intro f xs d (λ i p. h (suc i) (omega arith)))

  -- where `any` is true some element passes the test, and back
  pub any_one : (f : A → Bool) (l : List A) (d : A) → any f l ≡ true → (i : ℕ) × (i < length l) ×
      (f (get_or l i d) ≡ true)
  unfolding any
  any_one f [] d h = absurd (false≢true h)
  any_one f (x ∷ xs) d h = at_head_or_later (or_cases (f x) (any f xs) h) (any_one f xs d)
    where
      at_head_or_later :
          (f x ≡ true) ⊎ (any f xs ≡ true) →
          (any f xs ≡ true → (i : ℕ) × (i < length xs) × (f (get_or xs i d) ≡ true)) →
          (i : ℕ) × (i < length (x ∷ xs)) × (f (get_or (x ∷ xs) i d) ≡ true)
      at_head_or_later (inl e) later = (0, omega arith, e)
      at_head_or_later (inr e) later = let (i, p, q) = later e in (suc i, omega arith, q)

  pub any_intro : (f : A → Bool) (l : List A) (d : A) (i : ℕ) → i < length l → f (get_or l i d) ≡ true → any f l ≡ true
  unfolding any
  any_intro f [] d i p h = absurd (omega arith)
  any_intro f (x ∷ xs) d zero p h = or_left (f x) (any f xs) h
  any_intro f (x ∷ xs) d (suc i) p h = or_right (f x) (any f xs) (any_intro f xs d i (omega arith) h)

  -- `All` at each index, and back
  pub all_at : (P : A → Type 0) (l : List A) (d : A) (i : ℕ) → All P l → i < length l → P (get_or l i d)
  all_at P [] d i h p = absurd (omega arith)
  all_at P (x ∷ xs) d zero h p = h.0
  all_at P (x ∷ xs) d (suc i) h p = all_at P xs d i h.1 (omega arith)

  pub all_intro : (P : A → Type 0) (l : List A) (d : A) → ((i : ℕ) → i < length l → P (get_or l i d)) → All P l
  all_intro P [] d h = tt
  all_intro P (x ∷ xs) d h = (h 0 (omega arith), all_intro P xs d (λ i p. h (suc i) (omega arith)))

-- an element of a mapped list, whatever the defaults
pub getD_map_in {ℓ ℓ'} : {A : Type ℓ} {B : Type ℓ'} (f : A → B) (l : List A) (i : ℕ) (d : A) (e : B) → i < length l →
    get_or (map f l) i e ≡ f (get_or l i d)
getD_map_in f [] i d e p = absurd (omega arith)
getD_map_in f (x ∷ xs) zero d e p = refl
getD_map_in f (x ∷ xs) (suc i) d e p = getD_map_in f xs i d e (omega arith)

-- the first elements of a mapped list
pub take_map {ℓ ℓ'} : {A : Type ℓ} {B : Type ℓ'} (f : A → B) (n : ℕ) (l : List A) → take n (map f l) ≡ map f (take n l)
take_map f zero l = refl
take_map f (suc n) [] = refl
take_map f (suc n) (x ∷ xs) = ap (λ t. f x ∷ t) (take_map f n xs)

-- an element replaced in a mapped list
pub map_set {ℓ ℓ'} : {A : Type ℓ} {B : Type ℓ'} (f : A → B) (l : List A) (i : ℕ) (a : A) →
    map f (set l i a) ≡ set (map f l) i (f a)
map_set f [] i a = refl
map_set f (x ∷ xs) zero a = refl
map_set f (x ∷ xs) (suc i) a = ap (λ t. f x ∷ t) (map_set f xs i a)

-- a test of a mapped list
pub every_map {ℓ ℓ'} : {A : Type ℓ} {B : Type ℓ'} (f : B → Bool) (g : A → B) (l : List A) →
    every f (map g l) ≡ every (λ a. f (g a)) l
unfolding every
every_map f g [] = refl
every_map f g (x ∷ xs) = ap (λ (b : Bool). f (g x) && b) (every_map f g xs)

-- lists of numbers that are the same are equal, and back
pub same_equal : (xs ys : List ℕ) → same xs ys ≡ true → xs ≡ ys
unfolding same
same_equal [] [] h = refl
same_equal [] (y ∷ ys) h = absurd (false≢true h)
same_equal (x ∷ xs) [] h = absurd (false≢true h)
same_equal (x ∷ xs) (y ∷ ys) h =
    ap₂ ◌∷◌ (eqb-true x y (and_left (eqb x y) (same xs ys) h)) (same_equal xs ys (and_right (eqb x y) (same xs ys) h))

same_refl : (xs : List ℕ) → same xs xs ≡ true
unfolding same
same_refl [] = refl
same_refl (x ∷ xs) = and_intro (eqb x x) (same xs xs) (eq-eqb x x refl) (same_refl xs)

pub equal_same : (xs ys : List ℕ) → xs ≡ ys → same xs ys ≡ true
equal_same xs ys e = rw e (same_refl ys)

-- lists of numbers made of the elements of l, in the second by way of k, are the same where the two numbers of each
-- element are equal
pub same_map {ℓ ℓ'} : {A : Type ℓ} {B : Type ℓ'} (f : A → ℕ) (g : B → ℕ) (k : A → B) (l : List A) →
    same (map f l) (map g (map k l)) ≡ every (λ a. eqb (f a) (g (k a))) l
unfolding same every
same_map f g k [] = refl
same_map f g k (x ∷ xs) = ap (λ (b : Bool). eqb (f x) (g (k x)) && b) (same_map f g k xs)

-- `member` as membership, and back
pub member_in : (n : ℕ) (xs : List ℕ) → member n xs ≡ true → Memᴰ n xs
unfolding member any
member_in n [] h = absurd (false≢true h)
member_in n (x ∷ xs) h = at_head_or_later (or_cases (eqb n x) (member n xs) h) (member_in n xs)
  where
    at_head_or_later : (eqb n x ≡ true) ⊎ (member n xs ≡ true) → (member n xs ≡ true → Memᴰ n xs) →
        Memᴰ n (x ∷ xs)
    at_head_or_later (inl e) later = Memᴰ.head (eqb-true n x e)
    at_head_or_later (inr e) later = Memᴰ.tail (later e)

pub in_member : (n : ℕ) (xs : List ℕ) → Memᴰ n xs → member n xs ≡ true
unfolding member any
in_member n [] m = absurd (Memᴰ.not-nil m)
in_member n (x ∷ xs) m = at_head_or_later (Memᴰ.cases_cons m) (in_member n xs)
  where
    at_head_or_later : (n ≡ x) ⊎ Memᴰ n xs → (Memᴰ n xs → member n xs ≡ true) → member n (x ∷ xs) ≡ true
    at_head_or_later (inl e) later = or_left (eqb n x) (member n xs) (eq-eqb n x e)
    at_head_or_later (inr m') later = or_right (eqb n x) (member n xs) (later m')

-- a number is in a list, or is not
pub in_or_not : (k : ℕ) (ks : List ℕ) → Memᴰ k ks ⊎ (Memᴰ k ks → ⊥)
in_or_not k ks = by_test (either (member k ks))
  where
    by_test : (member k ks ≡ true) ⊎ (member k ks ≡ false) → Memᴰ k ks ⊎ (Memᴰ k ks → ⊥)
    by_test (inl e) = inl (member_in k ks e)
    by_test (inr e) = inr (λ m. false≢true (sym e ∙ in_member k ks m))

-- a list with an element in it splits there
pub split_in {ℓ} : {A : Type ℓ} {a : A} {l : List A} → Memᴰ a l → (front : List A) × (back : List A) ×
    (l ≡ front ++ a ∷ back)
split_in (Memᴰ.head {xs = xs} e) = ([], xs, ap (λ x. x ∷ xs) (sym e))
split_in (Memᴰ.tail {x = x} m) = let (front, back, e) = split_in m in (x ∷ front, back, ap (λ l. x ∷ l) e)

-- induction along a list: what holds of each element where it holds of those before it, holds of all
module _
    (ks : List ℕ)
    (P : ℕ → Type 0)
    (step : (front back : List ℕ) (k : ℕ) → ks ≡ front ++ k ∷ back → ((i : ℕ) → Memᴰ i front → P i) → P k) where
  -- from a front of which it holds already, it goes on along what is left of the list
  along_from : (back front : List ℕ) → ks ≡ front ++ back → ((i : ℕ) → Memᴰ i front → P i) → (i : ℕ) →
      Memᴰ i ks → P i
  along_from [] front e before = λ i m. before i (rw (e, append-nil) at m)
  along_from (k ∷ back) front e before =
      along_from back (front ++ (k ∷ [])) (e ∙ sym (append_snoc front k back)) (λ j n.
      ⊎_elim (before j) (λ o. subst P (sym (Memᴰ.eq_of_singleton o)) (step front back k e before))
      (Memᴰ.append_cases front n))

  -- from the empty front on
  pub along : (i : ℕ) → Memᴰ i ks → P i
  along = along_from ks [] refl (λ j n. absurd (Memᴰ.not-nil n))

-- lists of at most n numbers for each element of a list are together at most n times as long as it
pub flatMap_few :
    {A : Type 0} (f : A → List ℕ) (l : List A) (d : A) (n : ℕ) →
    ((i : ℕ) → i < length l → length (f (get_or l i d)) ≤ n) →
    length (flat_map f l) ≤ n * length l
unfolding flat_map
flatMap_few f [] d n few = omega arith
flatMap_few f (x ∷ xs) d n few =
    let head : length (f x) ≤ n = few 0 (omega arith) in
    let rest : length (flat_map f xs) ≤ n * length xs = flatMap_few f xs d n (λ i p. few (suc i) (omega arith)) in
    rw (length-append (f x) (flat_map f xs), mul-suc n (length xs)) (omega arith)

-- the front of two lists is the same where each element of it is
pub take_same : (n : ℕ) (k l : List ℕ) → length k ≡ length l →
    ((j : ℕ) → j < n → j < length l → get_or k j 0 ≡ get_or l j 0) → take n k ≡ take n l
take_same zero k l size each = refl
take_same (suc n) [] [] size each = refl
take_same (suc n) [] (y ∷ l) size each = absurd (omega arith)
take_same (suc n) (x ∷ k) [] size each = absurd (omega arith)
take_same (suc n) (x ∷ k) (y ∷ l) size each =
    ap₂ ◌∷◌ (each 0 (omega arith) (omega arith))
    (take_same n k l (omega arith) (λ j low inside. each (suc j) (omega arith) (omega arith)))
