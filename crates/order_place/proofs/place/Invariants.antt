use lib.ListN.{take}
use lib.Count.{ones}
use Rattle.order_place.proofs.PlacedPartway.{Partway}
use Rattle.order_place.proofs.place.Given as goal

abbrev pub invariant-loop-k : goal.invariant-loop-k
invariant-loop-k l = Partway l.count (take l.count l.direct) l.order l.marks

abbrev pub decreases-loop-k : goal.decreases-loop-k
decreases-loop-k l = ones l.marks
