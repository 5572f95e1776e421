-- `advance_into` is the machine's outcome for every argument: 24 where the words spell no sound model, and otherwise
-- what the call promises that asks for one.
use Rattle.std.proofs.Common.{subst, sym, ◌∙◌}
use Rattle.machine.specs.Sound.{sound}
use Rattle.laws.specs.Bools.{and_left}
use Rattle.words_store.specs.Form.{spelled}
use Rattle.advance_call.specs.Into.{lent_model, AdvancedInto}
use Rattle.advance_call.specs.IntoLaws.{spelled_call, unsound_call}
use Rattle.advance_call.proofs.advance_into.Goals as goal

pub returns-then-not-is_sound_in : goal.returns-then-not-is_sound_in
returns-then-not-is_sound_in c =
    let ts = c.args.table.now in
    let os = c.args.old.now in
    let new = c.args.new.now in
    subst (AdvancedInto ts os c.args.w new new) (sym c.barred_outcome.ensures)
    (unsound_call ts os new c.args.w (sym c.is_sound_in.ensures ∙ c.if-not-is_sound_in.true))

pub returns : goal.returns
returns c =
    let ts = c.args.table.now in
    let os = c.args.old.now in
    let spells = and_left (spelled ts os) (sound (lent_model ts os))
    (sym c.is_sound_in.ensures ∙ c.if-not-is_sound_in.false) in
    spelled_call ts os c.args.new.now c.advance_sound_into.new.new c.args.w c.advance_sound_into.result spells
    c.advance_sound_into.ensures
