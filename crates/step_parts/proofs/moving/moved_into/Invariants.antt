use Rattle.step_parts.specs.LentMoving.{LentMoved}
use Rattle.step_parts.proofs.moving.moved_into.Given as goal

abbrev pub invariant-loop-i : goal.invariant-loop-i
invariant-loop-i l = LentMoved l.table l.old l.t.0 l.h.0 l.initial.new l.i l.new
