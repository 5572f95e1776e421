-- Words that spell a model give states within their limits, and such a state of the same table, in as many words,
-- spells one too. Assumes nothing.
use Rattle.std.specs.Prelude.{ℕ, zero, suc, ◌≤◌, ◌<◌, ◌≡◌, refl, true, false, ◌⊎◌, List, length, ltb}
use Rattle.std.proofs.Common.{arith, sym, ◌∙◌, inl, inr, ltb-true, ltb-false}
use Rattle.std.proofs.Math.Bool.{and-eq-true_iff}
use Rattle.laws.specs.Bools.{either}
use Rattle.words_store.specs.ModelIn.{part_count, state_words}
use Rattle.words_store.specs.Form.{component_spelled, part_spelled, parts_spelled, spelled}
use Rattle.words_store.specs.Updated.{state_spelled}
use Rattle.words_store.specs.Spelling.{SpellingFacts, spelled_facts, spelled_parts}

-- each of the first n parts is spelled, where all are; and all are where each is
parts_at : (ts ss : List ℕ) (n j : ℕ) → parts_spelled ts ss n ≡ true → j < n →
    (component_spelled ts j ≡ true) × (state_spelled ss j ≡ true)
unfolding parts_spelled part_spelled
parts_at ts ss zero j all low = absurd (omega arith)
parts_at ts ss (suc n) j all low =
    cases (either (ltb j n)) (simp and-eq-true_iff at all) (λ rest below. parts_at ts ss n j rest below)
  where
    cases :
        (ltb j n ≡ true) ⊎ (ltb j n ≡ false) →
        (parts_spelled ts ss n ≡ true) × ((component_spelled ts n ≡ true) × (state_spelled ss n ≡ true)) →
        (parts_spelled ts ss n ≡ true → j < n → (component_spelled ts j ≡ true) × (state_spelled ss j ≡ true)) →
        (component_spelled ts j ≡ true) × (state_spelled ss j ≡ true)
    cases (inl e) both before = before both.0 (ltb-true j n e)
    cases (inr e) both before =
        let same : j ≡ n = omega (arith, ltb-false j n e) in
        rw same both.1

pub parts_all : (ts ss : List ℕ) (n : ℕ) →
    ((j : ℕ) → j < n → (component_spelled ts j ≡ true) × (state_spelled ss j ≡ true)) → parts_spelled ts ss n ≡ true
unfolding parts_spelled part_spelled
parts_all ts ss zero each = refl
parts_all ts ss (suc n) each =
    let last = each n (omega arith) in
    rw (parts_all ts ss n (λ j low. each j (omega arith)), last.0, last.1) refl

-- the parts of words that spell a model are spelled
all_parts : (ts ss : List ℕ) → spelled ts ss ≡ true → parts_spelled ts ss (part_count ts) ≡ true
all_parts ts ss h = sym (spelled_parts ts ss (spelled_facts ts ss h)) ∙ h

-- the states are within their limits
pub states_spelled : (ts ss : List ℕ) → spelled ts ss ≡ true → (j : ℕ) → j < part_count ts → state_spelled ss j ≡ true
states_spelled ts ss h j low = (parts_at ts ss (part_count ts) j (all_parts ts ss h) low).1

-- another state of the table that is
pub respelled : (ts os ss : List ℕ) → spelled ts os ≡ true → state_words (part_count ts) ≤ length ss →
    ((j : ℕ) → j < part_count ts → state_spelled ss j ≡ true) → spelled ts ss ≡ true
respelled ts os ss h deep each =
    let had = spelled_facts ts os h in
    let kept : SpellingFacts ts ss =
    record { two = had.two; magnitude = had.magnitude; few = had.few; table = had.table; state = deep } in
    spelled_parts ts ss kept ∙
    parts_all ts ss (part_count ts) (λ j low. (
      (parts_at ts os (part_count ts) j (all_parts ts os h) low).0,
      each j low,
    ))
