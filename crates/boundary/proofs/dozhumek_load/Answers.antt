-- `dozhumek_load` loads the stream, puts the model of an accepted load into the words where they have room for it, and
-- then puts its two numbers in front of the answer's words.
use Rattle.std.proofs.Common.{refl, Err}
use Rattle.refusals.specs.Numbers.{refused_number}
use Rattle.refusals.specs.Told.{some_number}
use Rattle.load_call.specs.Accepting.{accepted_of, loaded_of}
use Rattle.load_call.specs.LoadOwed.{accepted_few}
use Rattle.boundary.proofs.Laws.{loaded_words, taken_put, taken_refused}
use Rattle.boundary.proofs.dozhumek_load.Goals as goal

-- an accepted model has no more parts than a model may have
pub returns-in-Ok : goal.returns-in-Ok
returns-in-Ok c =
    let few = accepted_few _ (accepted_of c.in-Ok.accepted) c.in-Ok.ensures refl in
    rw c.number_in-number.ensures
    (loaded_words _ _ c.put_model.new.table _ c.put_model.new.state _ c.put_found.new.out
    (accepted_of c.in-Ok.accepted) (refused_number c.put_model.result) c.in-Ok.ensures
    (taken_put _ _ _ _ _ _ _ refl few c.put_model.ensures) (rw c.number_in-number.ensures at c.put_found.ensures))

pub returns-in-Err : goal.returns-in-Err
returns-in-Err c =
    let number = c.number-number.ensures in
    let written = rw number at c.put_found-in-Err.ensures in
    let kept = taken_refused _ _ _ _ (some_number c.in-Err.refused.refusal) in
    rw number (loaded_words _ _ _ _ _ _ _ (loaded_of (Err c.in-Err.refused)) _ c.in-Err.ensures kept written)
