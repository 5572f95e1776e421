-- `advance` is the machine's: a model of more parts than there are places is not sound, and any other is put into
-- words, where `advance_into` ends as the machine does; the answer is then the model handed in, or the one that takes
-- the new state.
use Rattle.std.proofs.Common.{arith}
use Rattle.advance_call.specs.ByValue.{committed_by_value, many_answer, refused_by_value}
use Rattle.advance_call.proofs.advance.Goals as goal

pub returns-then-m-gt-PARTS : goal.returns-then-m-gt-PARTS
returns-then-m-gt-PARTS c =
    rw (c.answered.ensures, c.barred_outcome.ensures) (many_answer c.args.m c.args.w c.if-m-gt-PARTS.true (omega arith))

pub returns-then-ended-ne0 : goal.returns-then-ended-ne0
returns-then-ended-ne0 c =
    rw c.answered-then-ended-ne0.ensures
    (refused_by_value c.args.m c.args.w 290 c.put_fitting.new.table c.put_fitting.new.state _
    c.advance_into-ended.new.new c.advance_into-ended.result c.put_fitting.ensures.model_put (omega arith)
    c.advance_into-ended.ensures c.if-ended-ne0.true)

pub returns : goal.returns
returns c =
    rw c.answered-2.ensures
    (committed_by_value c.args.m c.args.w 290 c.put_fitting.new.table c.put_fitting.new.state _
    c.advance_into-ended.new.new c.advance_into-ended.result c.put_fitting.ensures.model_put (omega arith)
    c.advance_into-ended.ensures c.recalled-next.result c.recalled-next.ensures c.if-ended-ne0.false)
