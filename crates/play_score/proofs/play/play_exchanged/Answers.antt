-- `play_exchanged` plays a command of the second state into the first where they are exchanged, else of the first
-- into the second: the rehearsal is then in the one written where the command moved it.
use Rattle.play_score.proofs.Commands.{in_second, in_first, turned_back, turned_forth}
use Rattle.play_score.proofs.play.play_exchanged.Goals as goal

pub play_command-back-requires-clause-playable : goal.play_command-back-requires-clause-playable
play_command-back-requires-clause-playable c = in_second _ _ c.if-exchanged.true c.requires.playable

pub returns-then-exchanged : goal.returns-then-exchanged
returns-then-exchanged c =
    let one = c.play_command-back.ensures in
    record {
      same_buffer = one.same_buffer;
      played = turned_back c.play_command-back.result _ _ _ c.if-exchanged.true one.played;
    }

pub play_command-requires-clause-playable : goal.play_command-requires-clause-playable
play_command-requires-clause-playable c = in_first _ _ c.if-exchanged.false c.requires.playable

pub returns : goal.returns
returns c =
    let one = c.play_command.ensures in
    record {
      same_buffer = one.same_buffer;
      played = turned_forth c.play_command.result _ _ _ c.if-exchanged.false one.played;
    }
