-- `open_score` says what refuses the load or the choice, and puts the model of a load that is accepted and has the
-- chosen parts into words.
use Rattle.std.proofs.Common.{arith, refl, sym, ◌∙◌}
use Rattle.std.specs.Prelude.{Err}
use Rattle.refusals.specs.Told.{some_number}
use Rattle.load_call.specs.Accepting.{accepted_of, loaded_of}
use Rattle.load_call.specs.LoadOwed.{accepted_few}
use Rattle.play_score.proofs.Openings.{load_refused, part_missing, score_ready}
use Rattle.play_score.proofs.print.open_score.Goals as goal

pub returns-in-Err : goal.returns-in-Err
returns-in-Err c =
    let line = rw c.number-number.ensures at c.refuse-in-Err.ensures in
    load_refused _ _ (loaded_of (Err c.in-Err.refused)) (rw c.in-Err.is at c.load.ensures) _ _ _ _
    (some_number c.in-Err.refused.refusal) line

pub returns-in-Some : goal.returns-in-Some
returns-in-Some c =
    part_missing _ _ (accepted_of c.in-Ok.accepted) (rw c.in-Ok.is at c.load.ensures) refl _ _ _ _ c.in-Some.missing
    (sym c.in-Some.is ∙ c.missing_of.ensures) (rw c.number.ensures at c.refuse.ensures)

pub put_fitting-requires : goal.put_fitting-requires
put_fitting-requires c =
    let few = accepted_few _ (accepted_of c.in-Ok.accepted) (rw c.in-Ok.is at c.load.ensures) refl in
    record {
      few_parts = few;
      table_there = omega (arith, few, c.requires.table_room);
      state_there = omega (arith, few, c.requires.state_room);
    }

pub returns-in_default : goal.returns-in_default
returns-in_default c =
    score_ready _ _ (accepted_of c.in-Ok.accepted) (rw c.in-Ok.is at c.load.ensures) refl _ _ _
    (sym c.in_default.is ∙ c.missing_of.ensures) c.put_fitting.ensures.model_put
