-- Laws of a sheet line on lent words: what refuses it, test by test, what is so of one that nothing refuses, and what
-- it shows, by the words. The idea: of a sound model t, n and outputs always fit, so that the counts decide. Assumes
-- nothing.
use Rattle.std.specs.Prelude.{ℕ, ◌<◌, ◌≡◌, Bool, true, false, cond, ◌&&◌, ◌⊎◌, List, ltb, leb, length}
use Rattle.std.proofs.Common.{arith, sym, ap, ◌∙◌, inl, inr, le-leb, ltb-true, eq-eqb, ne_eqb}
use Rattle.std.proofs.Math.Decide.{ℕ_discrete}
use Rattle.std.proofs.Math.Path.{refl}
use Rattle.machine.specs.declared.part.Part.{Part}
use Rattle.machine.specs.declared.model.Model.{Model}
use Rattle.machine.specs.Time.{tick}
use Rattle.machine.specs.Model.{trimmed_part}
use Rattle.machine.specs.Sound.{sound}
use Rattle.machine.specs.Rehearse.{decimal, signal_text}
use Rattle.machine.specs.Sheet.{step_width, rounds_width, revisions_width, output_width, ShownStep, ShownRefusal}
use Rattle.machine.specs.Sheet.{output_of, shown, texts_fit, field_texts, shown_fits, has_part, sheet_line}
use Rattle.machine.specs.Sheet.{sheet_refusal, number_taken}
use Rattle.laws.specs.Bools.{either, and_left, and_right, cond_both, cond_either}
use Rattle.sound_laws.specs.SoundParts.{sound_time, sound_output}
use Rattle.write_laws.specs.SheetLines.{shown_length}
use Rattle.write_laws.specs.SheetCounts.{tick_short, microstep_short, signal_short}
use Rattle.words_store.specs.ModelIn.{part_count, stored_state, stored_part}
use Rattle.words_store.specs.Form.{spelled}
use Rattle.step_parts.specs.LentReading.{lent_many, lent_part}
use Rattle.machine.specs.declared.model.Outcome.{Outcome}
use Rattle.advance_call.specs.Into.{lent_model}
use Rattle.sheet_call.specs.SheetInto.{outcome_answer, lent_sheet_refusal}

-- the counts of an answer are no wider than their fields
abbrev pub counts_short : (step rounds revisions : ℕ) → Bool
counts_short step rounds revisions =
    leb (length (decimal step)) step_width && leb (length (decimal rounds)) rounds_width &&
    leb (length (decimal revisions)) revisions_width

-- a table of so many parts has all three
abbrev pub all_there : (count a b c : ℕ) → Bool
all_there count a b c = ltb a count && ltb b count && ltb c count

-- three tests in either order of brackets
regrouped : (p q r : Bool) → p && (q && (r && true)) ≡ p && q && r
regrouped true true true = refl
regrouped true true false = refl
regrouped true false r = refl
regrouped false q r = refl

-- an output of a sound model fits
output_fits : (m : Model) (k : ℕ) → sound m ≡ true → k < length m.parts →
    leb (length (signal_text (output_of m k))) output_width ≡ true
unfolding output_of
output_fits m k sounds low = le-leb _ _ (signal_short (output_of m k) (sound_output m sounds k low))

-- so do t and n, so that the counts decide
pub counts_decide : (m : Model) (step rounds revisions a b c : ℕ) → sound m ≡ true → a < length m.parts →
    b < length m.parts → c < length m.parts →
    shown_fits (ShownStep (tick m.point) m.point.n step rounds revisions (output_of m a) (output_of m b)
    (output_of m c)) ≡
    counts_short step rounds revisions
unfolding shown_fits texts_fit field_texts
counts_decide m step rounds revisions a b c sounds first second third =
    let time = sound_time m sounds in
    rw (
      le-leb _ _ (tick_short (tick m.point) time.0),
      le-leb _ _ (microstep_short m.point.n time.1),
      output_fits m a sounds first,
      output_fits m b sounds second,
      output_fits m c sounds third,
    )
    (regrouped (leb (length (decimal step)) step_width) (leb (length (decimal rounds)) rounds_width)
    (leb (length (decimal revisions)) revisions_width))

-- the parts that are chosen, by the words
there_lent : (ts ss : List ℕ) (a b c : ℕ) →
    (has_part (lent_model ts ss) a && has_part (lent_model ts ss) b && has_part (lent_model ts ss) c) ≡
    all_there (part_count ts) a b c
unfolding has_part
there_lent ts ss a b c = rw (lent_many ts ss) refl

-- their outputs
pub output_lent : (ts ss : List ℕ) (k : ℕ) → k < part_count ts →
    output_of (lent_model ts ss) k ≡ (stored_state ss k).output
unfolding output_of stored_part trimmed_part
output_lent ts ss k low = ap (λ (p : Part). p.state.output) (lent_part ts ss k low)

-- all three are there
pub record Chosen (count a b c : ℕ) : Type 0 where
  pub first : a < count
  pub second : b < count
  pub third : c < count

pub chosen_there : (count a b c : ℕ) → all_there count a b c ≡ true → Chosen count a b c
chosen_there count a b c all =
    let two = and_left (ltb a count && ltb b count) (ltb c count) all in
    record {
      first = ltb-true a count (and_left (ltb a count) (ltb b count) two);
      second = ltb-true b count (and_right (ltb a count) (ltb b count) two);
      third = ltb-true c count (and_right (ltb a count && ltb b count) (ltb c count) all);
    }

module _ (ts ss : List ℕ) (v : Outcome) (a b c : ℕ) where
  -- what is shown of a refused answer, and of a committed one
  pub refusal_shown : (v.number ≡ 0 → ⊥) → shown (outcome_answer ts ss v) a b c ≡ ShownRefusal v.number
  unfolding shown
  refusal_shown some = rw (ne_eqb v.number 0 some) refl

  pub step_shown : v.number ≡ 0 →
      shown (outcome_answer ts ss v) a b c ≡
      ShownStep (tick (lent_model ts ss).point) (lent_model ts ss).point.n v.step v.rounds v.revisions
      (output_of (lent_model ts ss) a)
      (output_of (lent_model ts ss) b) (output_of (lent_model ts ss) c)
  unfolding shown
  step_shown none = rw (eq-eqb v.number 0 none) refl

  -- words that spell no sound model
  pub unsound_sheet : (spelled ts ss && sound (lent_model ts ss)) ≡ false → lent_sheet_refusal ts ss v a b c ≡ 24
  unfolding lent_sheet_refusal sheet_refusal
  unsound_sheet none = cond_either (spelled ts ss) (sound (lent_model ts ss)) _ 24 none

  module _ (sounds : (spelled ts ss && sound (lent_model ts ss)) ≡ true) where
    -- words that spell one leave the number to the choice and to what is shown
    told_sheet : lent_sheet_refusal ts ss v a b c ≡
        cond (all_there (part_count ts) a b c && shown_fits (shown (outcome_answer ts ss v) a b c)) 0 26
    unfolding lent_sheet_refusal sheet_refusal
    told_sheet = cond_both (spelled ts ss) (sound (lent_model ts ss)) _ 24 sounds ∙ rw (there_lent ts ss a b c) refl

    -- a chosen part is not there
    pub missing_sheet : all_there (part_count ts) a b c ≡ false → lent_sheet_refusal ts ss v a b c ≡ 26
    missing_sheet missing = told_sheet ∙ rw missing refl

    module _ (there : all_there (part_count ts) a b c ≡ true) where
      -- a refused answer
      pub refused_sheet : (v.number ≡ 0 → ⊥) → lent_sheet_refusal ts ss v a b c ≡ 0
      unfolding shown_fits
      refused_sheet some = told_sheet ∙ rw (there, refusal_shown some) refl

      -- and a committed one, by its counts
      pub counted_sheet : v.number ≡ 0 →
          lent_sheet_refusal ts ss v a b c ≡ cond (counts_short v.step v.rounds v.revisions) 0 26
      counted_sheet none =
          let chosen = chosen_there (part_count ts) a b c there in
          let is_sound = and_right (spelled ts ss) (sound (lent_model ts ss)) sounds in
          let first : a < length (lent_model ts ss).parts = rw (lent_many ts ss) chosen.first in
          let second : b < length (lent_model ts ss).parts = rw (lent_many ts ss) chosen.second in
          let third : c < length (lent_model ts ss).parts = rw (lent_many ts ss) chosen.third in
          told_sheet ∙ rw (
            there,
            step_shown none,
            counts_decide (lent_model ts ss) v.step v.rounds v.revisions a b c is_sound first second third,
          )
          refl

  -- what is so where nothing refuses the line
  pub record SheetFree : Type 0 where
    pub spells : spelled ts ss ≡ true
    pub sounds : sound (lent_model ts ss) ≡ true
    pub chosen : Chosen (part_count ts) a b c
    pub fits : shown_fits (shown (outcome_answer ts ss v) a b c) ≡ true

  pub sheet_free : lent_sheet_refusal ts ss v a b c ≡ 0 → SheetFree
  sheet_free free = sounded (either (spelled ts ss && sound (lent_model ts ss)))
    where
      both : (t : Bool) → ◌≡◌ {A = ℕ} (cond t 0 26) 0 → t ≡ true
      both true e = refl
      both false e = absurd (omega arith)

      sounded : ((spelled ts ss && sound (lent_model ts ss)) ≡ true) ⊎
          ((spelled ts ss && sound (lent_model ts ss)) ≡ false) → SheetFree
      sounded (inr none) = let h : ◌≡◌ {A = ℕ} 24 0 = sym (unsound_sheet none) ∙ free in absurd (omega arith)
      sounded (inl sounds) =
          let there = all_there (part_count ts) a b c in
          let fit = shown_fits (shown (outcome_answer ts ss v) a b c) in
          let all = both (there && fit) (sym (told_sheet sounds) ∙ free) in
          record {
            spells = and_left (spelled ts ss) (sound (lent_model ts ss)) sounds;
            sounds = and_right (spelled ts ss) (sound (lent_model ts ss)) sounds;
            chosen = chosen_there (part_count ts) a b c (and_left there fit all);
            fits = and_right there fit all;
          }

  -- its number is one that a call can be handed
  pub shown_taken : v.number < 18446744073709551616 → number_taken (shown (outcome_answer ts ss v) a b c)
  shown_taken small = by_number (ℕ_discrete v.number 0)
    where
      by_number : Dec (v.number ≡ 0) → number_taken (shown (outcome_answer ts ss v) a b c)
      by_number (yes none) = rw (step_shown none) tt
      by_number (no some) = rw (refusal_shown some) small

  -- such a line has 79 bytes
  pub line_length : v.number < 18446744073709551616 → lent_sheet_refusal ts ss v a b c ≡ 0 →
      length (sheet_line (outcome_answer ts ss v) a b c) ≡ 79
  unfolding sheet_line
  line_length small free = shown_length (shown (outcome_answer ts ss v) a b c) (sheet_free free).fits
      (shown_taken small)
