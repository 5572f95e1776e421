-- Laws of words that spell a model: the loops that test them, turn by turn, and what a caller may take from the
-- answer. Assumes nothing.
use Prim.Native.Nat.{ℕ, zero, suc, ◌+◌, ◌≤◌, ◌<◌}
use Rattle.std.proofs.Common.{eq-or-lt_of_le, ◌∙◌, inl, inr, drop_of_length-le, drop-cons}
use Rattle.std.proofs.Math.Numerals.{add-one}
use native.Mathlib.Omega.{arith}
use Rattle.std.specs.Prelude.{◌≡◌, Bool, true, ◌&&◌, ◌⊎◌, List, ◌∷◌, length, get_or, take, drop, replicate}
use Rattle.std.proofs.Math.Path.{refl, ap}
use Rattle.std.proofs.Math.Bool.{false, and-eq-true_iff}
use Rattle.std.proofs.Math.Dec.{leb}
use borrow.Author.Tests.{leb-true, le-leb, lt-leb}
use Rattle.machine.specs.Model.{most_parts, most_spans}
use Rattle.words_store.specs.ModelIn.{slot, part_count, table_words, state_words, WordsThere}
use Rattle.words_store.specs.Form.{any_32, spans_used, span_limits, words_within}
use Rattle.words_store.specs.Form.{part_spelled, parts_spelled, spelled}

-- the words at k and the limits, from place j on: the first of them, and those after it
module _ (ws : List ℕ) (k : ℕ) (ls : List ℕ) where
  within_on :
      (j : ℕ) → j < length ls →
      words_within ws (k + j) (drop j ls) ≡
      (leb (slot ws (k + j)) (get_or ls j 0) && words_within ws (k + (j + 1)) (drop (j + 1) ls))
  unfolding words_within
  within_on j low =
      let next : k + j + 1 ≡ k + suc j = omega arith in
      rw (drop-cons ls j 0 low, add-one j)
      (ap (λ (x : ℕ). leb (slot ws (k + j)) (get_or ls j 0) && words_within ws x (drop (suc j) ls)) next)

  -- from the first on, all
  pub within_start : words_within ws k ls ≡ words_within ws (k + 0) (drop 0 ls)
  within_start = let same : k ≡ k + 0 = omega arith in ap (λ (x : ℕ). words_within ws x ls) same

  -- a word within its limit leaves the test to those after it
  pub within_more : (all : Bool) (j : ℕ) → j < length ls → all ≡ words_within ws (k + j) (drop j ls) →
      slot ws (k + j) ≤ get_or ls j 0 →
      all ≡ words_within ws (k + (j + 1)) (drop (j + 1) ls)
  within_more all j low e fits = e ∙ simp (le-leb _ _ fits) at (within_on j low)

  -- a word above its limit fails it
  pub within_fails : (all : Bool) (j : ℕ) → j < length ls → all ≡ words_within ws (k + j) (drop j ls) →
      get_or ls j 0 < slot ws (k + j) →
      all ≡ false
  within_fails all j low e above = e ∙ simp (lt-leb _ _ above) at (within_on j low)

  -- after the last limit it holds
  pub within_end : (all : Bool) (j : ℕ) → length ls ≤ j → all ≡ words_within ws (k + j) (drop j ls) → all ≡ true
  unfolding words_within
  within_end all j past e = e ∙ rw (drop_of_length-le ls past) refl

-- the limits of the spans in use are the first of those of all places
take_replicate : (n m x : ℕ) → n ≤ m → take n (replicate m x) ≡ replicate n x
take_replicate zero m x few = refl
take_replicate (suc n) zero x few = absurd (omega arith)
take_replicate (suc n) (suc m) x few = ap (λ (l : List ℕ). x ∷ l) (take_replicate n m x (omega arith))

pub spans_first : (count : ℕ) → take (spans_used count) (replicate most_spans any_32) ≡ span_limits count
spans_first count = take_replicate (spans_used count) most_spans any_32 (omega arith)

-- a test and one that fails
and_false : (b : Bool) → b && false ≡ false
and_false true = refl
and_false false = refl

-- the first i parts, and one more
module _ (ts ss : List ℕ) where
  pub parts_more : (i : ℕ) → parts_spelled ts ss i ≡ true → part_spelled ts ss i ≡ true →
      parts_spelled ts ss (i + 1) ≡ true
  unfolding parts_spelled
  parts_more i before here = rw (add-one i, before) here

  -- where one part is not spelled, no more parts are
  pub parts_fail : (n i : ℕ) → i < n → part_spelled ts ss i ≡ false → parts_spelled ts ss n ≡ false
  unfolding parts_spelled
  parts_fail zero i low here = absurd (omega arith)
  parts_fail (suc n) i low here = cases (eq-or-lt_of_le low) (λ less. parts_fail n i less here)
    where
      cases : (suc i ≡ suc n) ⊎ (suc i < suc n) → (i < n → parts_spelled ts ss n ≡ false) →
          parts_spelled ts ss n && part_spelled ts ss n ≡ false
      cases (inl same) before =
          let last : n ≡ i = omega arith in
          let fails : part_spelled ts ss n ≡ false = ap (part_spelled ts ss) last ∙ here in
          rw fails (and_false (parts_spelled ts ss n))
      cases (inr less) before = rw (before (omega arith)) refl

  -- what the tests say of words that spell a model, but for the words of the parts
  pub record SpellingFacts : Type 0 where
    pub two : 2 ≤ length ts
    pub magnitude : slot ts 0 ≤ 255
    pub few : part_count ts ≤ most_parts
    pub table : table_words (part_count ts) ≤ length ts
    pub state : state_words (part_count ts) ≤ length ss

  pub spelled_facts : spelled ts ss ≡ true → SpellingFacts
  unfolding spelled
  spelled_facts h =
      let (((((two, magnitude), few), table), state), parts) = simp and-eq-true_iff at h in
      record {
        two = leb-true _ _ two;
        magnitude = leb-true _ _ magnitude;
        few = leb-true _ _ few;
        table = leb-true _ _ table;
        state = leb-true _ _ state;
      }

  -- where they hold, the words spell a model where those of the parts do
  pub spelled_parts : SpellingFacts → spelled ts ss ≡ parts_spelled ts ss (part_count ts)
  unfolding spelled
  spelled_parts f = rw (
    le-leb _ _ f.two,
    le-leb _ _ f.magnitude,
    le-leb _ _ f.few,
    le-leb _ _ f.table,
    le-leb _ _ f.state,
  )

  -- so all words are there, of no more parts than a model may have
  pub spelled_room : spelled ts ss ≡ true → WordsThere ts ss
  spelled_room h = let f = spelled_facts h in record { table = f.table; state = f.state }

  pub spelled_few : spelled ts ss ≡ true → part_count ts ≤ most_parts
  spelled_few h = (spelled_facts h).few
