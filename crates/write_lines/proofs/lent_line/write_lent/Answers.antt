-- `write_lent` makes the definition's test, and then has the line of words that are there, of at most 32 parts, since
-- they spell a model.
use Rattle.std.proofs.Common.{arith}
use Rattle.std.proofs.lemmas.Result.{err_from_is_err_and}
use Rattle.refusals.specs.declared.Refusal.TheVariants.{NotSound}
use Rattle.refusals.specs.Told.{failed, passed}
use Rattle.write_bytes.specs.Fitting.{nothing_written}
use Rattle.words_store.specs.Form.{spelled}
use Rattle.words_store.specs.Spelling.{spelled_room, spelled_few}
use Rattle.write_lines.specs.LentLines.{spelled_line, unspelled_line}
use Rattle.write_lines.proofs.lent_line.write_lent.Goals as goal

pub returns-in_err-when-clause-line_into : goal.returns-in_err-when-clause-line_into
returns-in_err-when-clause-line_into c ceiling =
    let told = err_from_is_err_and c.from_residual.result c.from_residual.ensures.1 in
    let test = failed (spelled c.args.table.now c.args.state.now) NotSound c.spelled.ensures c.when.ensures
    c.in_err-when.was in
    rw (told.1, told.2, test.1, unspelled_line c.args.table.now c.args.state.now test.0)
    (nothing_written 24 _ c.args.buf.now (λ e. omega arith))

pub write_spelled-requires-clause-words_there : goal.write_spelled-requires-clause-words_there
write_spelled-requires-clause-words_there c =
    spelled_room _ _ (passed (spelled c.args.table.now c.args.state.now) NotSound c.spelled.ensures c.when.ensures
    c.in_ok-when.was)

pub write_spelled-requires-clause-few_parts : goal.write_spelled-requires-clause-few_parts
write_spelled-requires-clause-few_parts c =
    spelled_few _ c.args.state.now (passed (spelled c.args.table.now c.args.state.now) NotSound c.spelled.ensures
    c.when.ensures c.in_ok-when.was)

pub returns-clause-line_into : goal.returns-clause-line_into
returns-clause-line_into c ceiling =
    let words = passed (spelled c.args.table.now c.args.state.now) NotSound c.spelled.ensures c.when.ensures
    c.in_ok-when.was in
    rw (spelled_line c.args.table.now c.args.state.now words) (c.write_spelled.ensures.written_as ceiling)
