-- `save` makes the definition's test, and then has the bytes of the table that the words mean, which is that of their
-- model.
use Rattle.std.proofs.Common.{ℕ, ◌≡◌, ◌∙◌, ◌&&◌, Bool, List, true, sym, arith}
use Rattle.machine.specs.Model.{trimmed}
use Rattle.machine.specs.Sound.{sound}
use Rattle.machine.specs.Save.{saved_bytes}
use Rattle.laws.specs.Bools.{and_left, and_right}
use Rattle.sound_laws.specs.Facts.{sound_facts}
use Rattle.write_bytes.specs.Fitting.{nothing_written}
use Rattle.words_store.specs.ModelIn.{model_in}
use Rattle.words_store.specs.Form.{spelled}
use Rattle.words_store.specs.Spelling.{spelled_room}
use Rattle.save_call.specs.LentTable.{lent_table_is}
use Rattle.save_call.specs.SavedInto.{sound_saved, unsound_refused}
use Rattle.save_call.proofs.save.Goals as goal

-- what the test showed where it holds
passed : (ts ss : List ℕ) {b : Bool} → b ≡ (spelled ts ss && sound (trimmed (model_in ts ss))) → b ≡ true →
    (spelled ts ss ≡ true) × (sound (trimmed (model_in ts ss)) ≡ true)
passed ts ss test held =
    let both = sym test ∙ held in (
      and_left (spelled ts ss) (sound (trimmed (model_in ts ss))) both,
      and_right (spelled ts ss) (sound (trimmed (model_in ts ss))) both,
    )

pub returns-then-not-is_sound_in : goal.returns-then-not-is_sound_in
returns-then-not-is_sound_in c =
    rw (unsound_refused c.args.table.now c.args.state.now (sym c.is_sound_in.ensures ∙ c.if-not-is_sound_in.true))
    (nothing_written 24 _ c.args.out.now (λ e. omega arith))

pub save_table-requires-clause-table_there : goal.save_table-requires-clause-table_there
save_table-requires-clause-table_there c =
    (spelled_room _ c.args.state.now (passed _ _ c.is_sound_in.ensures c.if-not-is_sound_in.false).0).table

pub save_table-requires-clause-fits : goal.save_table-requires-clause-fits
save_table-requires-clause-fits c =
    let sounds = (passed _ _ c.is_sound_in.ensures c.if-not-is_sound_in.false).1 in
    rw (lent_table_is c.args.table.now c.args.state.now) at (sound_facts _ sounds).table

pub returns : goal.returns
unfolding saved_bytes
returns c =
    let words = passed c.args.table.now c.args.state.now c.is_sound_in.ensures c.if-not-is_sound_in.false in
    rw (sound_saved _ _ words.0 words.1, lent_table_is c.args.table.now c.args.state.now) c.save_table.ensures
