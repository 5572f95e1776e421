-- What is passed is no higher than the part at i. The measure is the place.
use Rattle.order_test.specs.Links.{Link}
use Rattle.order_test.proofs.walk_back.Given as goal

abbrev pub invariant-loop-place : goal.invariant-loop-place
invariant-loop-place l = Link l.order l.i l.place

abbrev pub decreases-loop-place : goal.decreases-loop-place
decreases-loop-place l = l.place
