-- A drive's steps, by its ratio, its tick and its spans alone: the last step that adds v local ticks, and the largest
-- of 0 and the spans below d. The idea: from tick t, a step of h leads into the local tick floor((t + h) / r), so that
-- the steps which add at most v are those that end before the tick (floor(t / r) + v + 1) × r. Assumes nothing.
use Rattle.std.specs.Prelude.{ℕ, ◌+◌, ◌-◌, ◌*◌, ◌/◌, ◌≤◌, ◌<◌, max, ◌≡◌, refl, Bool, true, false, cond, ◌⊎◌, ltb}
use Rattle.std.proofs.Common.{arith, div-lt_iff_lt-mul, le-div_iff_mul-le, ◌∙◌, inl, inr, ltb-true, ltb-false}
use Rattle.std.proofs.Math.Nat.{div-add-mod', mod-lt, div-eq_of_lt-le}
use mathlib.Core.List.Memᴰ
use mathlib.Core.List.{List, [], ◌∷◌, foldl, Memᴰ}
use Rattle.machine.specs.Accept.{last_adding, largest_below}
use Rattle.laws.specs.Numbers.{max_one}

-- the local ticks of r master ticks that a step of h from tick t adds
abbrev pub added : ℕ → ℕ → ℕ → ℕ
added r t h = (t + h) / r - t / r

module _ (r t v : ℕ) (positive : 0 < r) where
  -- the last step that adds v ends one tick before the next local tick begins
  last_adding_end : t + last_adding r t v + 1 ≡ (t / r + v + 1) * r
  unfolding last_adding
  last_adding_end = omega (arith, div-add-mod' t r, mod-lt t positive)

  -- it adds v
  pub last_adding_adds : added r t (last_adding r t v) ≡ v
  last_adding_adds =
      let low : (t / r + v) * r ≤ t + last_adding r t v = omega (arith, last_adding_end) in
      let high : t + last_adding r t v < (t / r + v + 1) * r = omega (arith, last_adding_end) in
      omega (arith, div-eq_of_lt-le r low high)

  -- no later step adds as little
  pub last_adding_most : (j : ℕ) → added r t j ≤ v → j ≤ last_adding r t v
  last_adding_most j few =
      let tick : (t + j) / r < t / r + v + 1 = omega arith in
      omega (arith, last_adding_end, (div-lt_iff_lt-mul positive).0 tick)

  -- a step that adds more is longer
  pub last_adding_within : (h : ℕ) → v < added r t h → last_adding r t v ≤ h
  last_adding_within h more =
      let tick : t / r + v + 1 ≤ (t + h) / r = omega arith in
      omega (arith, last_adding_end, (le-div_iff_mul-le positive).0 tick)

-- what the largest below d comes to, begun at v: it is v or a span, at least v and every span below d, and itself below
-- d where v is
pub record LargestFrom (spans : List ℕ) (d v largest : ℕ) : Type 0 where
  pub among : Memᴰ largest (v ∷ spans)
  pub least : v ≤ largest
  pub below : v < d → largest < d
  pub most : (s : ℕ) → Memᴰ s spans → s < d → s ≤ largest

-- what one span s makes of v
abbrev larger_below : ℕ → ℕ → ℕ → ℕ
larger_below d v s = cond (ltb s d) (max v s) v

-- where the first span x makes u of v, the largest begun at u over the other spans is the largest begun at v over all
one_more :
    {x : ℕ} {xs : List ℕ} {d v u largest : ℕ} → (u ≡ v) ⊎ (u ≡ x) → v ≤ u → (v < d → u < d) → (x < d → x ≤ u) →
    LargestFrom xs d u largest → LargestFrom (x ∷ xs) d v largest
one_more {x} {xs} {d} {v} {u} {largest} one least below most later =
    record {
      among = found (Memᴰ.cases_cons later.among) one;
      least = omega (arith, later.least);
      below = λ p. later.below (below p);
      most = λ s m p. reached s p (Memᴰ.cases_cons m);
    }
  where
    found : (largest ≡ u) ⊎ Memᴰ largest xs → (u ≡ v) ⊎ (u ≡ x) → Memᴰ largest (v ∷ x ∷ xs)
    found (inl e) (inl f) = Memᴰ.head (e ∙ f)
    found (inl e) (inr f) = Memᴰ.tail (Memᴰ.head (e ∙ f))
    found (inr m) f = Memᴰ.tail (Memᴰ.tail m)

    reached : (s : ℕ) → s < d → (s ≡ x) ⊎ Memᴰ s xs → s ≤ largest
    reached s p (inl e) =
        let fits : x < d = omega arith in
        omega (arith, most fits, later.least)
    reached s p (inr m) = later.most s m p

-- the largest below d, begun at v, is what the fold over the spans gives
largest_from : (spans : List ℕ) (d v : ℕ) → LargestFrom spans d v (foldl (larger_below d) v spans)
largest_from [] d v =
    record {
      among = Memᴰ.head refl;
      least = omega arith;
      below = λ p. p;
      most = λ s m. absurd (Memᴰ.not-nil m);
    }
largest_from (x ∷ xs) d v = by_test (ltb x d) refl (largest_from xs d)
  where
    by_test :
        (b : Bool) → ltb x d ≡ b → ((u : ℕ) → LargestFrom xs d u (foldl (larger_below d) u xs)) →
        LargestFrom (x ∷ xs) d v (foldl (larger_below d) (cond b (max v x) v) xs)
    by_test true e later =
        let fits : x < d = ltb-true x d e in
        one_more (max_one v x) (omega arith) (λ p. omega arith) (λ p. omega arith) (later (max v x))
    by_test false e later =
        let over : d ≤ x = ltb-false x d e in
        one_more (inl refl) (omega arith) (λ p. p) (λ p. omega arith) (later v)

-- so `largest_below` gives it, begun at 0
pub largest_below_is : (spans : List ℕ) (d : ℕ) → LargestFrom spans d 0 (largest_below spans d)
unfolding largest_below
largest_below_is spans d = largest_from spans d 0
