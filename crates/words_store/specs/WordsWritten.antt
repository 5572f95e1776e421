-- Words written one after another: what a slice holds after stores at k + j, k + j + 1 and so on, and what is
-- where. Assumes nothing.
use Rattle.std.specs.Prelude.{ℕ, zero, suc, ◌+◌, ◌≤◌, ◌<◌, ◌≡◌, refl, ◌⊎◌, List, [], ◌∷◌, length, get_or, set}
use Rattle.std.proofs.Common.{arith, ap, ◌∙◌, inl, inr, length-set, get_or-set_same, get_or-set_other}

-- the words b are the words a with the word at k written anew
pub record FieldPut (k v : ℕ) (a b : List ℕ) : Type 0 where
  pub size : length b ≡ length a
  pub is : b ≡ set a k v

-- the words b are the words a with the words at k and l written anew
pub record PairPut (k v l w : ℕ) (a b : List ℕ) : Type 0 where
  pub size : length b ≡ length a
  pub is : b ≡ set (set a k v) l w

-- one word after the other, and two words after what was written before
pub pair_put : {k v l w : ℕ} {a b c : List ℕ} → FieldPut k v a b → FieldPut l w b c → PairPut k v l w a c
pair_put {l = l} {w = w} first second =
    record { size = second.size ∙ first.size; is = second.is ∙ ap (λ (s : List ℕ). set s l w) first.is }

pub pair_after : {k v l w : ℕ} {a b c : List ℕ} → b ≡ a → PairPut k v l w b c → c ≡ set (set a k v) l w
pair_after {k} {v} {l} {w} before put = put.is ∙ ap (λ (s : List ℕ). set (set s k v) l w) before

-- the words vs put at k + j and the places after it
unfoldable pub written : List ℕ → ℕ → ℕ → List ℕ → List ℕ
written l k j [] = l
written l k j (v ∷ vs) = written (set l (k + j) v) k (j + 1) vs

-- the slice is as long as before
pub length_written : (l : List ℕ) (k j : ℕ) (vs : List ℕ) → length (written l k j vs) ≡ length l
unfolding written
length_written l k j [] = refl
length_written l k j (v ∷ vs) = length_written (set l (k + j) v) k (j + 1) vs ∙ length-set l (k + j) v

-- a place before them or after them
abbrev pub Outside : ℕ → ℕ → ℕ → Type 0
Outside from to x = (x < from) ⊎ (to ≤ x)

-- which keeps its word
pub written_before : (l : List ℕ) (k j x : ℕ) (vs : List ℕ) → x < k + j → get_or (written l k j vs) x 0 ≡ get_or l x 0
unfolding written
written_before l k j x [] low = refl
written_before l k j x (v ∷ vs) low =
    written_before (set l (k + j) v) k (j + 1) x vs (omega arith) ∙ get_or-set_other l (k + j) x v 0 (λ e. omega arith)

written_behind : (l : List ℕ) (k j x : ℕ) (vs : List ℕ) → k + j + length vs ≤ x →
    get_or (written l k j vs) x 0 ≡ get_or l x 0
unfolding written
written_behind l k j x [] high = refl
written_behind l k j x (v ∷ vs) high =
    written_behind (set l (k + j) v) k (j + 1) x vs (omega arith) ∙ get_or-set_other l (k + j) x v 0 (λ e. omega arith)

pub written_outside : (l : List ℕ) (k j x : ℕ) (vs : List ℕ) → Outside (k + j) (k + j + length vs) x →
    get_or (written l k j vs) x 0 ≡ get_or l x 0
written_outside l k j x vs (inl low) = written_before l k j x vs low
written_outside l k j x vs (inr high) = written_behind l k j x vs high

-- the places themselves hold the words
pub written_at : (l : List ℕ) (k j n : ℕ) (vs : List ℕ) → n < length vs → k + j + length vs ≤ length l →
    get_or (written l k j vs) (k + (j + n)) 0 ≡ get_or vs n 0
unfolding written
written_at l k j n [] low room = absurd (omega arith)
written_at l k j zero (v ∷ vs) low room =
    let first : k + (j + 0) ≡ k + j = omega arith in
    ap (λ (x : ℕ). get_or (written (set l (k + j) v) k (j + 1) vs) x 0) first ∙
    written_before (set l (k + j) v) k (j + 1) (k + j) vs (omega arith) ∙ get_or-set_same l (k + j) v 0 (omega arith)
written_at l k j (suc n) (v ∷ vs) low room =
    let next : k + (j + suc n) ≡ k + (j + 1 + n) = omega arith in
    let rest : k + (j + 1) + length vs ≤ length (set l (k + j) v) = rw (length-set l (k + j) v) (omega arith) in
    ap (λ (x : ℕ). get_or (written (set l (k + j) v) k (j + 1) vs) x 0) next ∙
    written_at (set l (k + j) v) k (j + 1) n vs (omega arith) rest
