-- Lists of numbers in which no number occurs twice. Clearing marks of which none is named twice leaves as many fewer;
-- so numbers below n, none twice, are at most n: the pigeonhole law. Assumes nothing.
use Rattle.std.specs.Prelude.{ℕ, suc, ◌+◌, ◌≤◌, ◌<◌, ◌≡◌, refl, Bool, true, false, ◌⊎◌, length, get_or, set, replicate}
use Rattle.std.proofs.Common.{arith, sym, ◌∙◌, inl, inr, ⊎_elim, get_or-set_other}
use mathlib.Core.List.Memᴰ
use mathlib.Core.List.{List, [], ◌∷◌, ◌++◌, Memᴰ}
use Rattle.std.proofs.lemmas.List.{get_or-replicate}
use Rattle.laws.specs.ListLaws.{in_or_not}
use Rattle.laws.specs.Marks.{cleared, left, left_set, left_replicate}

-- no number occurs twice
abbrev pub Once : List ℕ → Type 0
Once [] = Unit {0}
Once (k ∷ ks) = (Memᴰ k ks → ⊥) × Once ks

-- where no number occurs twice, none is both in the front and in the rest
pub once_apart : (front rest : List ℕ) (i : ℕ) → Once (front ++ rest) → Memᴰ i front → Memᴰ i rest → ⊥
once_apart [] rest i once m n = Memᴰ.not-nil m
once_apart (j ∷ front) rest i once (Memᴰ.head e) n = once.0 (Memᴰ.append_right front (Memᴰ.cast (sym e) n))
once_apart (j ∷ front) rest i once (Memᴰ.tail m) n = once_apart front rest i once.1 m n

-- nor does one occur twice in the rest
pub once_rest : (front rest : List ℕ) → Once (front ++ rest) → Once rest
once_rest [] rest once = once
once_rest (j ∷ front) rest once = once_rest front rest once.1

-- numbers other than the one cleared, where all were marked, are marked still
still_marked : (marks : List Bool) (k : ℕ) (ks : List ℕ) → (Memᴰ k ks → ⊥) →
    ((j : ℕ) → Memᴰ j (k ∷ ks) → get_or marks j false ≡ true) →
    (j : ℕ) → Memᴰ j ks → get_or (set marks k false) j false ≡ true
still_marked marks k ks out marked j m =
    get_or-set_other marks k j false false (λ e. out (Memᴰ.cast (sym e) m)) ∙ marked j (Memᴰ.tail m)

-- clearing numbers that are all marked, none twice, leaves as many fewer as they are
pub left_cleared : (ks : List ℕ) (marks : List Bool) → Once ks →
    ((k : ℕ) → Memᴰ k ks → get_or marks k false ≡ true) →
    length ks + left (cleared marks ks) ≡ left marks
unfolding cleared
left_cleared [] marks once marked = omega arith
left_cleared (k ∷ ks) marks once marked =
    omega (
      arith,
      left_cleared ks (set marks k false) once.1 (still_marked marks k ks once.0 marked),
      left_set marks k (marked k (Memᴰ.head refl)),
    )

-- the pigeonhole law: numbers below n, none twice, are at most n
pub once_short : (ks : List ℕ) (n : ℕ) → Once ks → ((k : ℕ) → Memᴰ k ks → k < n) → length ks ≤ n
once_short ks n once below =
    let marked : (k : ℕ) → Memᴰ k ks → get_or (replicate n true) k false ≡ true =
    λ k m. get_or-replicate n k true false (below k m) in
    omega (arith, left_cleared ks (replicate n true) once marked, left_replicate n)

-- and if they are n, every number below n is among them
pub once_all : (ks : List ℕ) (n : ℕ) → Once ks → ((k : ℕ) → Memᴰ k ks → k < n) → length ks ≡ n → (k : ℕ) → k < n →
    Memᴰ k ks
once_all ks n once below full k h = among (in_or_not k ks)
  where
    among : Memᴰ k ks ⊎ (Memᴰ k ks → ⊥) → Memᴰ k ks
    among (inl m) = m
    among (inr out) =
        let all : (j : ℕ) → Memᴰ j (k ∷ ks) → j < n =
        λ j m. ⊎_elim (λ e. omega arith) (below j) (Memᴰ.cases_cons m) in
        let one_more : suc (length ks) ≤ n = once_short (k ∷ ks) n (out, once) all in
        absurd (omega arith)
