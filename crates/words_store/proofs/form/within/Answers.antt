-- `within` asks one word after the other: one above its limit fails the test, and after the last it holds.
use Rattle.std.proofs.Common.{sym}
use Rattle.words_store.specs.Spelling.{within_start, within_more, within_fails, within_end}
use Rattle.words_store.proofs.form.within.Goals as goal

pub loop-j-init : goal.loop-j-init
loop-j-init c = within_start _ _ _

pub returns-then-words-k : goal.returns-then-words-k
returns-then-words-k c =
    sym (within_fails _ _ c.args.limits.now _ c.loop-j.j c.loop-j-test.true c.loop-j.invariant c.if-words-k.true)

pub loop-j-preserved : goal.loop-j-preserved
loop-j-preserved c =
    within_more _ _ c.args.limits.now _ c.loop-j.j c.loop-j-test.true c.loop-j.invariant c.if-words-k.false

pub returns : goal.returns
returns c = sym (within_end _ _ c.args.limits.now _ c.loop-j.j c.loop-j-test.false c.loop-j.invariant)
