-- Laws of tables: how long they are and what is where; and an array that is filled from the front with a table's
-- elements. Assumes nothing.
use Prim.Native.Nat.{ℕ, zero, suc, ◌+◌, ◌<◌, ◌≤◌}
use Rattle.std.proofs.Common.{add-one, subst, ◌∙◌, inl, inr, length-append, take_all, ext_get_or}
use native.Mathlib.Omega.{arith}
use Rattle.std.specs.Prelude.{◌≡◌, true, false, ◌⊎◌, take, set, ltb}
use Rattle.std.proofs.Math.Path.{refl, sym, ap, ap₂}
use mathlib.Core.List.{List, [], ◌∷◌, ◌++◌, map, map-append}
use Rattle.std.proofs.Math.ListN.{length, get_or, length-set, get_or-append}
use Rattle.std.proofs.Math.Seq.{take-suc-set, get_or_at}
use borrow.Author.Tests.{ltb-true, ltb-false}
use Rattle.laws.specs.Bools.{either}
use Rattle.words_codec.specs.Words.{tabulate}

module _ {ℓ} {A : Type ℓ} where
  -- as many as the table's number
  pub length_table : (f : ℕ → A) (n : ℕ) → length (tabulate f n) ≡ n
  unfolding tabulate
  length_table f zero = refl
  length_table f (suc n) =
      let later = length_table f n in
      rw (length-append (tabulate f n) (f n ∷ [])) (omega arith)

  -- the first i of an array's n places hold a table's elements
  abbrev pub Filled : (ℕ → A) → ℕ → ℕ → List A → Type ℓ
  Filled f n i l = (i ≤ n) × (length l ≡ n) × (take i l ≡ tabulate f i)

  -- one place more, and all of them
  pub filled_more : (f : ℕ → A) (n i : ℕ) (l : List A) (v : A) → Filled f n i l → i < n → v ≡ f i →
      Filled f n (i + 1) (set l i v)
  unfolding tabulate
  filled_more f n i l v filled low e =
      let inside : i < length l = omega (arith, filled.1) in
      (omega arith, simp length-set filled.1, rw (add-one, take-suc-set l i v inside, filled.2, e) refl)

  pub filled_all : (f : ℕ → A) (n i : ℕ) (l : List A) → Filled f n i l → n ≤ i → l ≡ tabulate f n
  filled_all f n i l filled past =
      let done : i ≡ n = omega (arith, filled.0) in
      sym (take_all i l (omega (arith, filled.1))) ∙ filled.2 ∙ ap (tabulate f) done

  -- what is at a place
  pub table_at : (f : ℕ → A) (n i : ℕ) (d : A) → i < n → get_or (tabulate f n) i d ≡ f i
  unfolding tabulate
  table_at f zero i d h = absurd (omega arith)
  table_at f (suc n) i d h = cases (either (ltb i n)) (table_at f n i d)
    where
      cases : (ltb i n ≡ true) ⊎ (ltb i n ≡ false) → (i < n → get_or (tabulate f n) i d ≡ f i) →
          get_or (tabulate f (suc n)) i d ≡ f i
      cases (inl e) later =
          let low = ltb-true i n e in
          let inside : i < length (tabulate f n) = rw (length_table f n) low in
          get_or-append (tabulate f n) (f n ∷ []) d i inside ∙ later low
      cases (inr e) later =
          let same : i ≡ n = omega (arith, ltb-false i n e) in
          get_or_at (tabulate f n) (f n) [] d i (length_table f n ∙ sym same) ∙ ap f (sym same)

  -- tables of the same elements, and the table of a list's elements
  pub table_same : (f g : ℕ → A) (n : ℕ) → ((i : ℕ) → i < n → f i ≡ g i) → tabulate f n ≡ tabulate g n
  unfolding tabulate
  table_same f g zero h = refl
  table_same f g (suc n) h =
      ap₂ (λ (l : List A) (x : A). l ++ (x ∷ [])) (table_same f g n (λ i p. h i (omega arith))) (h n (omega arith))

  pub table_list : (l : List A) (d : A) (n : ℕ) → length l ≡ n → tabulate (λ (i : ℕ). get_or l i d) n ≡ l
  table_list l d n e =
      let f : ℕ → A = λ (i : ℕ). get_or l i d in
      let wide = length_table f n in
      ext_get_or d (tabulate f n) l (wide ∙ sym e) (λ i p. table_at f n i d (omega arith))

-- the elements of a table, each taken to another
pub map_table : {A B : Type 0} (g : A → B) (f : ℕ → A) (n : ℕ) → map g (tabulate f n) ≡ tabulate (λ (i : ℕ). g (f i)) n
unfolding tabulate
map_table g f zero = refl
map_table g f (suc n) = simp (map-append g (tabulate f n) (f n ∷ []), map_table g f n)

-- what holds of the elements before a place, and at it, holds of those before the next
pub below_more : (P : ℕ → Type 0) (i : ℕ) → ((j : ℕ) → j < i → P j) → P i → (j : ℕ) → j < i + 1 → P j
below_more P i before here j h = cases (either (ltb j i))
  where
    cases : (ltb j i ≡ true) ⊎ (ltb j i ≡ false) → P j
    cases (inl e) = before j (ltb-true j i e)
    cases (inr e) = let same : i ≡ j = omega (arith, ltb-false j i e) in subst P same here
