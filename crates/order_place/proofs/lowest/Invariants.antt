-- Among the candidates the same is found as among all marks. The measure is the word of candidates.
use Rattle.std.specs.Prelude.{◌≡◌}
use Rattle.laws.specs.WordMarks.{marks_of}
use Rattle.order_place.specs.Direct.{lowest_among}
use Rattle.order_place.proofs.lowest.Given as goal

abbrev pub invariant-loop-candidates : goal.invariant-loop-candidates
invariant-loop-candidates l =
    lowest_among (marks_of 32 l.candidates) (marks_of 32 l.marks) 0 l.direct ≡
    lowest_among (marks_of 32 l.marks) (marks_of 32 l.marks) 0 l.direct

abbrev pub decreases-loop-candidates : goal.decreases-loop-candidates
decreases-loop-candidates l = l.candidates
