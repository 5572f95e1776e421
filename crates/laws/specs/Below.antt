-- How many numbers of a list lie below h: no more than the list has, and fewer below a smaller h that is one of them.
-- Assumes nothing.
use Rattle.std.specs.Prelude.{ℕ, ◌+◌, ◌≤◌, ◌<◌, cond, length, ltb}
use Rattle.std.proofs.Common.{arith, ltb-true, lt-ltb, le-ltb}
use mathlib.Core.List.{List, [], ◌∷◌, Memᴰ}
use Rattle.laws.specs.Bools.{cond_cases}

-- how many numbers of a list lie below h
unfoldable pub below : ℕ → List ℕ → ℕ
below h [] = 0
below h (x ∷ xs) = cond (ltb x h) 1 0 + below h xs

-- they are no more than the list has
pub below_few : (h : ℕ) (l : List ℕ) → below h l ≤ length l
unfolding below
below_few h [] = omega arith
below_few h (x ∷ xs) =
    let later = below_few h xs in
    cond_cases (λ (n : ℕ). n + below h xs ≤ length (x ∷ xs)) (ltb x h) 1 0 (λ e. omega arith) (λ e. omega arith)

-- one number counts no more below a than below a larger h
one_below : (a h x : ℕ) → a ≤ h → cond {A = ℕ} (ltb x a) 1 0 ≤ cond (ltb x h) 1 0
one_below a h x le =
    cond_cases (λ (n : ℕ). n ≤ cond (ltb x h) 1 0) (ltb x a) 1 0
    (λ e. rw (lt-ltb x h (omega (arith, ltb-true x a e))) (omega arith)) (λ e. omega arith)

-- nor does a list
pub below_mono : (a h : ℕ) (l : List ℕ) → a ≤ h → below a l ≤ below h l
unfolding below
below_mono a h [] le = omega arith
below_mono a h (x ∷ xs) le = omega (arith, one_below a h x le, below_mono a h xs le)

-- below a number of the list there are fewer than below a larger one
pub below_drops : (a h : ℕ) {l : List ℕ} → Memᴰ a l → a < h → below a l < below h l
unfolding below
below_drops a h (Memᴰ.head {x} {xs} e) lt =
    rw (le-ltb x a (omega arith), lt-ltb x h (omega arith)) (omega (arith, below_mono a h xs (omega arith)))
below_drops a h (Memᴰ.tail {x} {xs} m) lt = omega (arith, one_below a h x (omega arith), below_drops a h m lt)
