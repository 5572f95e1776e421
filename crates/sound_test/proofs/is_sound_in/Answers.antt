-- `is_sound_in` makes the tests of the model that the words mean one by one: where one fails the answer is no,
-- whatever the others say.
use native.Mathlib.Omega.{arith}
use mathlib.Core.Path.{sym, ◌∙◌}
use mathlib.Core.Bool.{true≢false}
use borrow.Author.Tests.{leb-true}
use Rattle.machine.specs.Model.{trimmed}
use Rattle.machine.specs.Table.{table_of}
use Rattle.machine.specs.Time.{last_magnitude, magnitude_known}
use Rattle.words_store.specs.ModelIn.{model_in}
use Rattle.sound_test.specs.Whole.{passed, failed}
use Rattle.sound_test.specs.LentWhole.{by_each, lent_directs, by_order}
use Rattle.sound_test.proofs.Tested.{no_parts, by_time, by_magnitude}
use Rattle.sound_test.proofs.is_sound_in.Goals as goal
use Rattle.sound_test.proofs.is_sound_in.Goals.{then-count-lt1-via-then-count-lt1}
use Rattle.sound_test.proofs.is_sound_in.Goals.{then-count-lt1-via-else-count-lt1+then-not-is_in_time}
use Rattle.sound_test.proofs.is_sound_in.Goals.{then-magnitude_known, else-magnitude_known}

pub returns-then-count-lt1 : goal.returns-then-count-lt1
returns-then-count-lt1 c =
    let ts = c.args.table.now in
    let ss = c.args.state.now in
    let now = c.point_of-now in
    let spells = sym c.spelled.ensures ∙ c.if-not-spelled.false in
    elim c.then-count-lt1.branch [
      | then-count-lt1-via-then-count-lt1 w ↦ no_parts ts ss spells (omega arith)
      | then-count-lt1-via-else-count-lt1+then-not-is_in_time w ↦
          let time = w.is_in_time in
          failed _ _ _ (by_time ts ss spells now.result time.result (omega arith) now.ensures time.ensures)
          w.if-not-is_in_time.true
    ]

pub parts_fit_in-requires-clause-magnitude_known : goal.parts_fit_in-requires-clause-magnitude_known
unfolding magnitude_known
parts_fit_in-requires-clause-magnitude_known c = leb-true _ last_magnitude (sym c.if-magnitude_known.ensures)

pub returns-then-parts_fit_in : goal.returns-then-parts_fit_in
returns-then-parts_fit_in c =
    let ts = c.args.table.now in
    let ss = c.args.state.now in
    let now = c.point_of-now in
    let survey = c.surveyed_in-survey in
    let spells = sym c.spelled.ensures ∙ c.if-not-spelled.false in
    let known =
    by_magnitude ts ss spells now.result survey.result c.magnitude_known.result (omega arith) now.ensures
    c.if-not-is_in_time.ensures survey.ensures c.magnitude_known.ensures in
    elim c.if-magnitude_known.branch [
      | then-magnitude_known w ↦
          by_order ts ss c.parts_of-count.result survey.result.order c.follows.result c.parts_of-count.ensures
          (survey.ensures.order ss)
          (c.follows.ensures (table_of (trimmed (model_in ts ss))).parts
          (lent_directs ts ss c.parts_of-count.result survey.result.direct c.parts_of-count.ensures
          (survey.ensures.direct ss))) ∙
          sym (passed _ _ _ (passed _ _ _ known w.if-magnitude_known.true ∙
          by_each ts ss survey.result.magnitude now.result w.parts_fit_in.result now.ensures w.parts_fit_in.ensures)
          (sym w.value-is ∙ c.if-parts_fit_in.true))
      | else-magnitude_known w ↦
          absurd (true≢false (sym c.if-parts_fit_in.true ∙ w.value-is ∙ w.if-magnitude_known.false))
    ]

pub returns-else-parts_fit_in : goal.returns-else-parts_fit_in
returns-else-parts_fit_in c =
    let ts = c.args.table.now in
    let ss = c.args.state.now in
    let now = c.point_of-now in
    let survey = c.surveyed_in-survey in
    let spells = sym c.spelled.ensures ∙ c.if-not-spelled.false in
    let known =
    by_magnitude ts ss spells now.result survey.result c.magnitude_known.result (omega arith) now.ensures
    c.if-not-is_in_time.ensures survey.ensures c.magnitude_known.ensures in
    c.if-parts_fit_in.false ∙
    elim c.if-magnitude_known.branch [
      | then-magnitude_known w ↦
          failed _ _ _ (passed _ _ _ known w.if-magnitude_known.true ∙
          by_each ts ss survey.result.magnitude now.result w.parts_fit_in.result now.ensures w.parts_fit_in.ensures)
          (sym w.value-is ∙ c.if-parts_fit_in.false)
      | else-magnitude_known w ↦ failed _ _ _ known w.if-magnitude_known.false
    ]
