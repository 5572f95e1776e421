-- The first i parts are put, and the words after the model's kept.
use Rattle.words_transfer.specs.ModelPut.{PutFirst}
use Rattle.words_transfer.proofs.intake.put_fitting.Given as goal

abbrev pub invariant-loop-i : goal.invariant-loop-i
invariant-loop-i l = PutFirst l.m l.i l.initial.table l.initial.state l.table l.state
