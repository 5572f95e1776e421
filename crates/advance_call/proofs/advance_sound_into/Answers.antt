-- `advance_sound_into` is the machine's outcome, and 25: where a refusal bars the call nothing is written, and where
-- none does the step is within the time, which is what the search asks, and there is room for the new state.
use Rattle.std.proofs.Common.{length, ap, subst, sym, ◌∙◌}
use Rattle.machine.specs.Model.{trimmed}
use Rattle.advance_laws.specs.Outcomes.{not_barred}
use Rattle.refusals.specs.Numbers.{refused_number}
use Rattle.refusals.specs.Told.{some_number}
use Rattle.words_store.specs.Spelling.{spelled_room}
use Rattle.words_store.specs.Respelled.{states_spelled}
use Rattle.advance_call.specs.Into.{lent_model, AdvancedSound}
use Rattle.advance_call.specs.IntoLaws.{refused_call, asked_call, searched_call}
use Rattle.advance_call.proofs.advance_sound_into.Goals as goal

pub searched_into-requires : goal.searched_into-requires
unfolding trimmed
searched_into-requires c =
    let ts = c.args.table.now in
    let os = c.args.old.now in
    let free = asked_call ts os c.args.w (length c.args.new.now)
    (sym (ap refused_number c.in-Ok.is) ∙ c.barred_into.ensures) in
    let met = not_barred (lent_model ts os) c.args.w free.0 in
    let had = spelled_room ts os c.requires.model_spelled in
    record {
      old_there = had;
      new_there = record { table = had.table; state = free.1 };
      sounds = c.requires.model_sound;
      short = met.at_most;
      in_time = met.in_time;
      spelled = states_spelled ts os c.requires.model_spelled;
    }

pub returns-in-Ok : goal.returns-in-Ok
returns-in-Ok c =
    let ts = c.args.table.now in
    let os = c.args.old.now in
    let free = asked_call ts os c.args.w (length c.args.new.now)
    (sym (ap refused_number c.in-Ok.is) ∙ c.barred_into.ensures) in
    searched_call ts os c.args.new.now c.searched_into.new.new c.args.w c.searched_into.result
    c.requires.model_spelled free.0 free.1 c.searched_into.ensures

pub returns-in-Err : goal.returns-in-Err
returns-in-Err c =
    let new = c.args.new.now in
    subst (AdvancedSound c.args.table.now c.args.old.now c.args.w new new) (sym c.barred_outcome.ensures)
    (refused_call _ _ new _ _ (sym (ap refused_number c.in-Err.is) ∙ c.barred_into.ensures)
    (some_number c.in-Err.refusal))
