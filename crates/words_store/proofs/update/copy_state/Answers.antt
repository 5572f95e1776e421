-- `copy_state` copies one word of the state after the other, up to the last.
use Rattle.std.proofs.Common.{ℕ, ◌≡◌, arith}
use Rattle.std.proofs.Math.Path.{subst}
use Rattle.words_store.specs.ModelIn.{state_words}
use Rattle.words_store.specs.Updated.{Copied, copied_none, copied_more}
use Rattle.words_store.proofs.update.copy_state.Goals as goal

pub loop-i-init : goal.loop-i-init
loop-i-init c = copied_none _ _

pub loop-i-preserved : goal.loop-i-preserved
loop-i-preserved c =
    copied_more c.loop-i.i _ _ _ c.loop-i.invariant
    (omega (arith, c.requires.new_there, c.state_words-i-end.ensures, c.loop-i.auto.new, c.loop-i-test.true))

pub returns : goal.returns
returns c =
    let args = c.args in
    let done : c.loop-i.i ≡ state_words args.parts =
    omega (arith, c.loop-i-test.false, c.loop-i.auto.i-end, c.state_words-i-end.ensures) in
    subst (λ (n : ℕ). Copied n args.old.now args.new.now c.loop-i.new) done c.loop-i.invariant
