-- `refusal_of` makes the definition's tests in their order: soundness, the chosen parts, and of a committed answer its
-- counts.
use Rattle.std.proofs.Common.{ℕ, ◌≡◌, ◌∙◌, ◌&&◌, Bool, Err, true, false, cond, not, sym, ap, refl, ne_eqb}
use Rattle.std.proofs.Common.{arith}
use Rattle.std.proofs.lemmas.Result.{err_from_is_err_and}
use Rattle.machine.specs.Sound.{sound}
use Rattle.laws.specs.Bools.{and_left}
use Rattle.refusals.specs.declared.Refusal.TheVariants.{NotPrintable, NotSound}
use Rattle.refusals.specs.Numbers.{refused_number}
use Rattle.refusals.specs.Told.{failed, passed, refused_when}
use Rattle.words_store.specs.ModelIn.{part_count}
use Rattle.words_store.specs.Form.{spelled}
use Rattle.words_store.specs.Spelling.{spelled_room}
use Rattle.advance_call.specs.Into.{lent_model}
use Rattle.sheet_call.specs.LentSheet.{all_there, unsound_sheet, missing_sheet, refused_sheet}
use Rattle.sheet_call.specs.LentSheet.{counted_sheet}
use Rattle.sheet_call.proofs.refusal_of.Goals as goal
use Rattle.sheet_call.proofs.refusal_of.Goals.{then-outcome-ne0, else-outcome-ne0}

-- the number of a refusal where a test does not hold
number_when : (b : Bool) → refused_number (refused_when (not b) NotPrintable) ≡ cond b 0 26
number_when true = refl
number_when false = refl

-- the test of the chosen parts is of the count that was read
there_is : (n a b c : ℕ) {count : ℕ} {r : Bool} → count ≡ n → r ≡ all_there count a b c → r ≡ all_there n a b c
there_is n a b c same is = rw (← same) is

pub returns-in_err-when : goal.returns-in_err-when
returns-in_err-when c =
    let args = c.args in
    let ts = args.table.now in
    let ss = args.state.now in
    let told = err_from_is_err_and c.from_residual.result c.from_residual.ensures.1 in
    let test = failed (spelled ts ss && sound (lent_model ts ss)) NotSound c.is_sound_in.ensures c.when.ensures
    c.in_err-when.was in
    let same : told.0 ≡ c.in_err-when.field-0.0 = told.2 in
    ap refused_number (told.1 ∙ ap Err (same ∙ test.1)) ∙
    sym (unsound_sheet ts ss args.outcome args.first args.second args.third test.0)

pub parts_of-requires : goal.parts_of-requires
parts_of-requires c =
    let ts = c.args.table.now in
    let ss = c.args.state.now in
    let both = passed (spelled ts ss && sound (lent_model ts ss)) NotSound c.is_sound_in.ensures c.when.ensures
    c.in_ok-when.was in
    omega (arith, (spelled_room ts ss (and_left (spelled ts ss) (sound (lent_model ts ss)) both)).table)

pub returns-in_err-when-2 : goal.returns-in_err-when-2
returns-in_err-when-2 c =
    let args = c.args in
    let ts = args.table.now in
    let ss = args.state.now in
    let told = err_from_is_err_and c.from_residual-in_err-when-2.result c.from_residual-in_err-when-2.ensures.1 in
    let sounds = passed (spelled ts ss && sound (lent_model ts ss)) NotSound c.is_sound_in.ensures c.when.ensures
    c.in_ok-when.was in
    let test = failed (all_there (part_count ts) args.first args.second args.third) NotPrintable
    (there_is (part_count ts) args.first args.second args.third c.parts_of.ensures c.parts_there.ensures)
    c.when-2.ensures c.in_err-when-2.was in
    let same : told.0 ≡ c.in_err-when-2.field-0.0 = told.2 in
    ap refused_number (told.1 ∙ ap Err (same ∙ test.1)) ∙
    sym (missing_sheet ts ss args.outcome args.first args.second args.third sounds test.0)

pub returns : goal.returns
returns c =
    let args = c.args in
    let ts = args.table.now in
    let ss = args.state.now in
    let sounds = passed (spelled ts ss && sound (lent_model ts ss)) NotSound c.is_sound_in.ensures c.when.ensures
    c.in_ok-when.was in
    let there = passed (all_there (part_count ts) args.first args.second args.third) NotPrintable
    (there_is (part_count ts) args.first args.second args.third c.parts_of.ensures c.parts_there.ensures)
    c.when-2.ensures c.in_ok-when-2.was in
    elim c.if-outcome-ne0.branch [
      | then-outcome-ne0 w ↦
          ap refused_number c.when-3.ensures ∙ number_when c.if-outcome-ne0.shown ∙
          ap (λ (b : Bool). cond b 0 26) w.shown-is ∙ rw (ne_eqb _ 0 w.if-outcome-ne0.true) refl ∙
          sym (refused_sheet ts ss args.outcome args.first args.second args.third sounds there w.if-outcome-ne0.true)
      | else-outcome-ne0 w ↦
          ap refused_number c.when-3.ensures ∙ number_when c.if-outcome-ne0.shown ∙
          ap (λ (b : Bool). cond b 0 26) (w.shown-is ∙ w.counts_fit-shown.ensures) ∙
          sym (counted_sheet ts ss args.outcome args.first args.second args.third sounds there w.if-outcome-ne0.false)
    ]
