-- The states of the first i parts are taken.
use Rattle.words_transfer.specs.Recalled.{RecalledFirst}
use Rattle.words_transfer.proofs.recall.recalled.Given as goal

abbrev pub invariant-loop-i : goal.invariant-loop-i
invariant-loop-i l = RecalledFirst l.initial.next l.state l.i l.next
