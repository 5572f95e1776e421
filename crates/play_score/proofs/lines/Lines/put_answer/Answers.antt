-- `put_answer` lends what is left of the buffer, in either format: the line that is written there, for which there is
-- room, is put after the lines there. A sheet line of an answer is not refused.
use Rattle.std.proofs.Common.{refl}
use Rattle.refusals.specs.Told.{wrote_ok}
use Rattle.sheet_call.specs.SheetInto.{outcome_answer}
use Rattle.play_score.proofs.Commands.{part_room, line_put}
use Rattle.play_score.proofs.Answers.{line_words, plain_put, sheet_put, sheet_written}
use Rattle.play_score.proofs.lines.Lines.put_answer.Goals as goal

pub write_spelled-requires-clause-words_there : goal.write_spelled-requires-clause-words_there
write_spelled-requires-clause-words_there c = (line_words _ _ c.requires.answer_in).0

pub write_spelled-requires-clause-few_parts : goal.write_spelled-requires-clause-few_parts
write_spelled-requires-clause-few_parts c = (line_words _ _ c.requires.answer_in).1

pub unwrap-requires : goal.unwrap-requires
unwrap-requires c =
    let line = c.write_spelled.ensures.written_as c.args.v.ceiling in
    let held = c.args.self.now in
    wrote_ok c.write_spelled.result line
    (part_room held.used held.bytes.now c.requires.line_room line c.write_spelled.ensures.length_bound)

pub unwrap-requires-in-Sheet : goal.unwrap-requires-in-Sheet
unwrap-requires-in-Sheet c =
    let sheet = sheet_written _ _ _ _ _ c.in-Sheet.is c.requires.answer_in c.sheet.ensures in
    let held = c.args.self.now in
    wrote_ok c.sheet.result sheet.0
    (part_room held.used held.bytes.now c.requires.line_room sheet.0 sheet.1)

pub returns-in-Plain : goal.returns-in-Plain
returns-in-Plain c =
    let args = c.args in
    let told = rw c.unwrap.ensures at c.write_spelled.ensures in
    record {
      same_buffer = refl;
      line_put =
          plain_put (outcome_answer args.table.now args.state.now args.v) _ c.in-Plain.is
          (line_put args.self.now.used c.requires.line_room (told.written_as args.v.ceiling) told.length_bound);
    }

pub returns-in-Sheet : goal.returns-in-Sheet
returns-in-Sheet c =
    let args = c.args in
    let told = rw c.unwrap-in-Sheet.ensures at c.sheet.ensures in
    let sheet = sheet_written _ _ _ _ _ c.in-Sheet.is c.requires.answer_in told in
    record {
      same_buffer = refl;
      line_put =
          sheet_put (outcome_answer args.table.now args.state.now args.v) _ _ c.in-Sheet.is
          (line_put args.self.now.used c.requires.line_room sheet.0 sheet.1);
    }
