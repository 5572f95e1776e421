use Rattle.step_parts.specs.LentMoving.{LentSettled}
use Rattle.step_parts.proofs.settling.settled_into.Given as goal

abbrev pub invariant-loop-i : goal.invariant-loop-i
invariant-loop-i l = LentSettled l.table l.initial.new l.i l.new
