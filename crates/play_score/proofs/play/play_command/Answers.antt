-- `play_command` does what the score holds at the position: nothing at its end, the line of a refusal, or an advance
-- and its line.
use native.Mathlib.Omega.{arith}
use mathlib.Core.Path.{refl, sym}
use Rattle.play_score.proofs.Commands.{played_end, played_refused, played_wanted}
use Rattle.play_score.proofs.play.play_command.Goals as goal

pub returns-in-Ok-None : goal.returns-in-Ok-None
returns-in-Ok-None c =
    let end = rw c.in-Ok-None.field-0-is at c.in-Ok-None.ensures in
    record {
      same_buffer = refl;
      played = played_end _ c.args.at _ _ _ _ c.requires.playable (sym end) (omega arith);
    }

pub returns-in-Ok-Some : goal.returns-in-Ok-Some
returns-in-Ok-Some c =
    let wanted = rw c.in-Ok-Some.field-0-is at c.in-Ok-Some.ensures in
    let one = c.play_wanted.ensures in
    record {
      same_buffer = one.same_buffer;
      played = played_wanted _ c.args.at _ _ _ _ _ _ _ _ c.play_wanted.result (sym wanted) one.played;
    }

pub returns-in-Err : goal.returns-in-Err
returns-in-Err c =
    let line = rw c.number-number.ensures at c.put_refused_at.ensures.line_put in
    record {
      same_buffer = c.put_refused_at.ensures.same_buffer;
      played = played_refused _ c.args.at _ _ _ _ _ _ _ c.requires.playable (sym c.in-Err.ensures) line;
    }
