-- The first i parts are surveyed, whatever state the table is in.
use Rattle.sound_test.specs.LentWhole.{Surveying}
use Rattle.sound_test.proofs.survey.surveyed_in.Given as goal

abbrev pub invariant-loop-i : goal.invariant-loop-i
invariant-loop-i l = Surveying l.table l.i l.magnitude l.direct l.order
