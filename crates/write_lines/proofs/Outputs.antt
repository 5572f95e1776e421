-- Laws of the line of a call on lent words: its outputs one by one, as the words hold them, how long they are, and its
-- text as the pieces in which the code puts it. The idea: the model that the words mean has as many places as parts,
-- trimming it leaves its outputs, and whatever a word is, the signed number that it means has 64 bits. Assumes nothing.
use Prim.Native.Nat.{ℕ, zero, suc, ◌+◌, ◌*◌, ◌-◌, ◌≤◌, ◌<◌}
use native.Mathlib.Numerals.{add-one}
use native.Mathlib.Omega.{arith}
use mathlib.Core.Path.{◌≡◌, refl, sym, ap}
use mathlib.Core.Bool.{true, false}
use mathlib.Core.Logic.{◌⊎◌, inl, inr}
use mathlib.Core.List.{List, [], ◌∷◌, ◌++◌, map, append_assoc, append-nil}
use lib.ListN.{length, get_or, take, length-append}
use lib.Seq.{take_all}
use lib.Dec.{eqb, ltb}
use borrow.Author.Tests.{eq-eqb, ltb-true, ltb-false, ne_eqb}
use Rattle.machine.specs.declared.time.Point.{Point}
use Rattle.machine.specs.declared.part.Part.{Part}
use Rattle.machine.specs.Time.{tick}
use Rattle.machine.specs.Model.{blank_part, trimmed, trimmed_part}
use Rattle.machine.specs.Rehearse.{answer_line, blank, committed_line, line_feed, outputs_text, refused_line}
use Rattle.machine.specs.Rehearse.{signal_text, signed_decimal}
use Rattle.laws.specs.Bools.{either}
use Rattle.write_laws.specs.Decimal.{few_digits}
use Rattle.words_codec.specs.Words.{decode_signed}
use Rattle.words_codec.specs.Decoded.{decode_signal}
use Rattle.words_store.specs.ModelIn.{model_in, part_count, stored_part, stored_point, stored_state}
use Rattle.words_store.specs.StoreFrame.{held_many, held_part}
use Rattle.write_lines.specs.LineNumbers.{numbers_text}
use Rattle.write_lines.specs.LentLines.{lent_answer}

-- the outputs of one part more
outputs_suc : (ps : List Part) (i : ℕ) (d : Part) → i < length ps →
    outputs_text (take i ps) ++ (blank ∷ signal_text (get_or ps i d).state.output) ≡ outputs_text (take (suc i) ps)
unfolding outputs_text
outputs_suc [] i d h = absurd (omega arith)
outputs_suc (p ∷ ps) zero d h = simp append-nil
outputs_suc (p ∷ ps) (suc i) d h = simp (append_assoc, outputs_suc ps i d (omega arith))

pub outputs_more : (ps : List Part) (i : ℕ) (d : Part) → i < length ps →
    outputs_text (take i ps) ++ (blank ∷ signal_text (get_or ps i d).state.output) ≡ outputs_text (take (i + 1) ps)
outputs_more ps i d h = rw add-one (outputs_suc ps i d h)

-- the outputs of the first parts are no longer than those of all
pub outputs_within : (ps : List Part) (i : ℕ) → length (outputs_text (take i ps)) ≤ length (outputs_text ps)
unfolding outputs_text
outputs_within [] zero = omega arith
outputs_within [] (suc i) = omega arith
outputs_within (p ∷ ps) zero = omega arith
outputs_within (p ∷ ps) (suc i) =
    let later = outputs_within ps i in
    simp length-append (omega arith)

-- trimmed parts have the same outputs
outputs_trimmed : (ps : List Part) → outputs_text (map trimmed_part ps) ≡ outputs_text ps
unfolding outputs_text trimmed_part
outputs_trimmed [] = refl
outputs_trimmed (p ∷ ps) = simp (outputs_trimmed ps)

-- the stored output of a part of the model that words mean
pub lent_output : (ts ss : List ℕ) (i : ℕ) → i < part_count ts →
    (stored_state ss i).output ≡ (get_or (model_in ts ss).parts i blank_part).state.output
unfolding stored_part
lent_output ts ss i low = sym (ap (λ (p : Part). p.state.output) (held_part ts ss i low))

-- an output has at most 20 characters, whatever its words are: 2 ^ 63 has 19 digits
value_short : (w : ℕ) → length (signed_decimal (decode_signed w)) ≤ 20
unfolding decode_signed signed_decimal
value_short w = cases (either (ltb w 9223372036854775808))
  where
    cases : (ltb w 9223372036854775808 ≡ true) ⊎ (ltb w 9223372036854775808 ≡ false) →
        length (signed_decimal (decode_signed w)) ≤ 20
    cases (inl e) = rw e (omega (arith, few_digits 18 w (omega (arith, ltb-true w 9223372036854775808 e))))
    cases (inr e) = rw e (omega
        (arith, few_digits 18 (suc (18446744073709551615 - w)) (omega (arith, ltb-false w 9223372036854775808 e))))

signal_short : (code w : ℕ) → length (signal_text (decode_signal code w)) ≤ 20
unfolding decode_signal signal_text
signal_short code w = cases (either (eqb code 1))
  where
    cases : (eqb code 1 ≡ true) ⊎ (eqb code 1 ≡ false) → length (signal_text (decode_signal code w)) ≤ 20
    cases (inl e) = rw e (value_short w)
    cases (inr e) = rw e (omega arith)

output_short : (ss : List ℕ) (i : ℕ) → length (signal_text (stored_state ss i).output) ≤ 20
unfolding stored_state
output_short ss i = signal_short _ _

-- one output more is that much longer; so the outputs of i parts take at most 21 bytes for each
pub outputs_longer : (ts ss : List ℕ) (i : ℕ) → i < part_count ts →
    length (outputs_text (take (i + 1) (model_in ts ss).parts)) ≡
    length (outputs_text (take i (model_in ts ss).parts)) + length (blank ∷ signal_text (stored_state ss i).output)
outputs_longer ts ss i low =
    let inside : i < length (model_in ts ss).parts = rw (held_many ts ss) low in
    rw (← outputs_more (model_in ts ss).parts i blank_part inside, length-append, lent_output ts ss i low) refl

pub outputs_few : (ts ss : List ℕ) (i : ℕ) → i ≤ part_count ts →
    length (outputs_text (take i (model_in ts ss).parts)) ≤ 21 * i
unfolding outputs_text
outputs_few ts ss zero h = omega arith
outputs_few ts ss (suc i) h =
    let low : i < part_count ts = omega arith in
    rw (← add-one i) (omega (arith, outputs_longer ts ss i low, outputs_few ts ss i (omega arith), output_short ss i))

-- and those of all parts
pub all_parts : (ts ss : List ℕ) → take (part_count ts) (model_in ts ss).parts ≡ (model_in ts ss).parts
all_parts ts ss = take_all (part_count ts) (model_in ts ss).parts (omega (arith, held_many ts ss))

outputs_most : (ts ss : List ℕ) → length (outputs_text (model_in ts ss).parts) ≤ 21 * part_count ts
outputs_most ts ss = rw (all_parts ts ss) at (outputs_few ts ss (part_count ts) (omega arith))

-- the line of a committed call on lent words as its pieces, how long it is, and at most
abbrev pub lent_text : List ℕ → List ℕ → Point → (step rounds revisions : ℕ) → List ℕ
lent_text ts ss now step rounds revisions =
    (numbers_text (tick now) now.n step rounds revisions ++ outputs_text (model_in ts ss).parts) ++ (line_feed ∷ [])

module _ (ts ss : List ℕ) (now : Point) (step rounds revisions : ℕ) where
  pub lent_size :
      length (lent_text ts ss now step rounds revisions) ≡
      length (numbers_text (tick now) now.n step rounds revisions) + length
      (outputs_text (model_in ts ss).parts) + 1
  lent_size = simp length-append (omega arith)

  pub lent_most : length (numbers_text (tick now) now.n step rounds revisions) ≤ 104 →
      length (lent_text ts ss now step rounds revisions) ≤ 21 * part_count ts + 105
  lent_most few = omega (arith, lent_size, outputs_most ts ss)

-- the line of a call on lent words: of a refused one, and of a committed one
pub refused_lent : (ts ss : List ℕ) (number step rounds revisions : ℕ) → (number ≡ 0 → ⊥) → (ceiling : ℕ) →
    refused_line number ≡ answer_line (lent_answer ts ss number step rounds revisions ceiling)
unfolding answer_line
refused_lent ts ss number step rounds revisions h ceiling = simp (ne_eqb _ _ h)

pub committed_lent : (ts ss : List ℕ) (number step rounds revisions : ℕ) {now : Point} → number ≡ 0 →
    now ≡ stored_point ss → (ceiling : ℕ) →
    lent_text ts ss now step rounds revisions ≡ answer_line (lent_answer ts ss number step rounds revisions ceiling)
unfolding answer_line committed_line numbers_text trimmed model_in
committed_lent ts ss number step rounds revisions h same ceiling =
    simp (same, eq-eqb _ _ h, append_assoc, outputs_trimmed, all_parts)
