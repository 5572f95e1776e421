-- `play_wanted` asks for an advance and has its line put: of the new state where the call commits, which is then the
-- rehearsal's; of the old one where it is refused.
use Prim.Native.Nat.{◌<◌}
use native.Mathlib.Omega.{arith}
use Rattle.play_score.proofs.Answers.{moved_answer, kept_answer, wanted_moved, wanted_kept}
use Rattle.play_score.proofs.play.play_wanted.Goals as goal

pub put_answer-requires-clause-answer_in : goal.put_answer-requires-clause-answer_in
put_answer-requires-clause-answer_in c =
    let called = c.advance_sound_into-v.ensures in
    let small : c.advance_sound_into-v.result.number < 18446744073709551616 = omega arith in
    kept_answer _ _ _ _ _ _ _ c.requires.playable c.requires.state_room called small c.if-v-ne0.true

pub returns-then-v-ne0 : goal.returns-then-v-ne0
returns-then-v-ne0 c =
    record {
      same_buffer = c.put_answer.ensures.same_buffer;
      played =
          wanted_kept _ _ _ _ _ _ _ c.requires.playable c.requires.state_room c.advance_sound_into-v.ensures _ _ _
          c.if-v-ne0.true c.put_answer.ensures.line_put;
    }

pub put_answer-requires-2-clause-answer_in : goal.put_answer-requires-2-clause-answer_in
put_answer-requires-2-clause-answer_in c =
    let called = c.advance_sound_into-v.ensures in
    let small : c.advance_sound_into-v.result.number < 18446744073709551616 = omega arith in
    moved_answer _ _ _ _ _ _ _ c.requires.playable c.requires.state_room called small c.if-v-ne0.false

pub returns : goal.returns
returns c =
    record {
      same_buffer = c.put_answer-2.ensures.same_buffer;
      played =
          wanted_moved _ _ _ _ _ _ _ c.requires.playable c.requires.state_room c.advance_sound_into-v.ensures _ _ _
          c.if-v-ne0.false c.put_answer-2.ensures.line_put;
    }
