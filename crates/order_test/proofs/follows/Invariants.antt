-- The places before i are in turn.
use Rattle.order_test.specs.Passed.{Passed}
use Rattle.order_test.proofs.follows.Given as goal

abbrev pub invariant-loop-i : goal.invariant-loop-i
invariant-loop-i l = Passed l.count l.direct l.order l.after l.links l.i
