-- The first words are copied, and nothing else is changed.
use Rattle.words_store.specs.Updated.{Copied}
use Rattle.words_store.proofs.update.copy_state.Given as goal

abbrev pub invariant-loop-i : goal.invariant-loop-i
invariant-loop-i l = Copied l.i l.old l.initial.new l.new
