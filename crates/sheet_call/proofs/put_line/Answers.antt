-- `put_line` puts the row of what is shown, which the words tell: of a refused answer its number, of a committed one
-- the point, the counts and the stored outputs.
use Prim.Native.Nat.{ℕ, ◌+◌, ◌≤◌}
use native.Mathlib.Omega.{arith}
use mathlib.Core.Path.{◌≡◌, refl, sym, ap, ◌∙◌}
use mathlib.Core.List.{List}
use lib.ListN.{length}
use Rattle.machine.specs.declared.time.Point.{Point}
use Rattle.machine.specs.declared.signal.Signal.{Signal}
use Rattle.machine.specs.Time.{tick}
use Rattle.machine.specs.Model.{trimmed}
use Rattle.machine.specs.Sheet.{ShownStep, shown, shown_line, shown_fits, sheet_line}
use Rattle.words_store.specs.ModelIn.{model_in, state_words, stored_point, stored_state}
use Rattle.words_store.specs.Spelling.{spelled_room}
use Rattle.machine.specs.declared.model.Outcome.{Outcome}
use Rattle.sheet_call.specs.SheetInto.{outcome_answer, lent_sheet_refusal}
use Rattle.sheet_call.specs.LentSheet.{output_lent, refusal_shown, step_shown, sheet_free}
use Rattle.sheet_call.proofs.put_line.Goals as goal

-- what the words of a committed answer show, where nothing refuses the line
words_shown : (ts ss : List ℕ) (v : Outcome) (a b c : ℕ) {now : Point} {x y z : Signal} →
    lent_sheet_refusal ts ss v a b c ≡ 0 → v.number ≡ 0 → now ≡ stored_point ss →
    x ≡ (stored_state ss a).output → y ≡ (stored_state ss b).output → z ≡ (stored_state ss c).output →
    shown (outcome_answer ts ss v) a b c ≡ ShownStep (tick now) now.n v.step v.rounds v.revisions x y z
unfolding trimmed model_in
words_shown ts ss v a b c free none at first second third =
    let chosen = (sheet_free ts ss v a b c free).chosen in
    step_shown ts ss v a b c none ∙
    rw (
      at,
      first,
      second,
      third,
      output_lent ts ss a chosen.first,
      output_lent ts ss b chosen.second,
      output_lent ts ss c chosen.third,
    ) refl

-- the words of each chosen part's state are there
record ChosenRooms (a b c : ℕ) (ss : List ℕ) : Type 0 where
  first : state_words (a + 1) ≤ length ss
  second : state_words (b + 1) ≤ length ss
  third : state_words (c + 1) ≤ length ss

chosen_rooms : (ts ss : List ℕ) (v : Outcome) (a b c : ℕ) → lent_sheet_refusal ts ss v a b c ≡ 0 → ChosenRooms a b c ss
chosen_rooms ts ss v a b c free =
    let told = sheet_free ts ss v a b c free in
    let words = (spelled_room ts ss told.spells).state in
    let chosen = told.chosen in
    record {
      first = omega (arith, chosen.first);
      second = omega (arith, chosen.second);
      third = omega (arith, chosen.third);
    }

pub returns-then-outcome-ne0 : goal.returns-then-outcome-ne0
unfolding sheet_line shown_line
returns-then-outcome-ne0 c =
    let args = c.args in
    rw (refusal_shown args.table.now args.state.now args.outcome args.first args.second args.third
    c.if-outcome-ne0.true) c.put_refusal_row.ensures

pub point_of-now-requires : goal.point_of-now-requires
point_of-now-requires c =
    let args = c.args in
    omega (
      arith,
      (spelled_room args.table.now args.state.now
          (sheet_free _ _ _ _ _ _ c.requires.not_refused).spells).state,
    )

pub output_at-x-requires : goal.output_at-x-requires
output_at-x-requires c =
    let room = chosen_rooms _ _ _ _ _ _ c.requires.not_refused in
    omega (arith, room.first, room.second, room.third)

pub output_at-y-requires : goal.output_at-y-requires
output_at-y-requires c =
    let room = chosen_rooms _ _ _ _ _ _ c.requires.not_refused in
    omega (arith, room.first, room.second, room.third)

pub output_at-z-requires : goal.output_at-z-requires
output_at-z-requires c =
    let room = chosen_rooms _ _ _ _ _ _ c.requires.not_refused in
    omega (arith, room.first, room.second, room.third)

pub put_step_row-requires-clause-fits : goal.put_step_row-requires-clause-fits
put_step_row-requires-clause-fits c =
    ap shown_fits (sym (words_shown _ _ _ _ _ _ c.requires.not_refused c.if-outcome-ne0.false c.point_of-now.ensures
    c.output_at-x.ensures
    c.output_at-y.ensures c.output_at-z.ensures)) ∙ (sheet_free _ _ _ _ _ _ c.requires.not_refused).fits

pub returns : goal.returns
unfolding sheet_line
returns c =
    rw (words_shown _ _ _ _ _ _ c.requires.not_refused c.if-outcome-ne0.false c.point_of-now.ensures
    c.output_at-x.ensures c.output_at-y.ensures
    c.output_at-z.ensures) c.put_step_row.ensures
