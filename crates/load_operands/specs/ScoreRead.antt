-- What the answer of the score's reader means: document 01's score at a position, with the number of a refusal. Assumes
-- nothing.
use Rattle.std.specs.Prelude.{Option, Some, None, Result, Ok, Err}
use Rattle.machine.specs.Answers.{Score}
use Rattle.machine.specs.Answers as score
use Rattle.refusals.specs.declared.RefusedAt.{RefusedAt}
use Rattle.refusals.specs.Numbers.{refusal_number}
use Rattle.load_operands.specs.declared.score.Wanted.{Wanted}

-- the score's end, a wanted step, or a refusal
abbrev pub score_of : Result (Option Wanted) RefusedAt → Score
score_of (Ok None) = score.End
score_of (Ok (Some w)) = score.Wanted w.step w.next
score_of (Err r) = score.Refused (refusal_number r.refusal) r.position
